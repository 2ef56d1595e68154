-- Which runs can be certified further: those that have read logs, and what goes on from such; and whose their parts are, and of which epochs.
use Rattle.std.proofs.Common.{◌≡◌, ℕ, zero, suc, ◌+◌, ◌<◌, List, [], ◌∷◌, length, get_or, slice_get, Some, ◌∙◌, subst, arith}
use Rattle.std.specs.List.{AllByRecursion}
use Rattle.std.specs.Option.{option_to_list}
use Rattle.lamport_clocks.specs.declared.header.Header.{Header}
use Rattle.merkle_records.specs.Scheme.{Scheme}
use Rattle.multiset_sum.specs.declared.part.Part.{Part}
use Rattle.record_text.specs.declared.operation.Operation.{Operation}
use Rattle.bundle_frames.specs.Bundle.{Frame}
use Rattle.stamp_order.proofs.InOrderLaws.{every-weaker, every-append}
use Rattle.verifier_run.specs.Progress.{Progress}
use Rattle.verifier_run.specs.Order.{OneOfEach, clock_of, sealed_next}
use Rattle.bundle_report.specs.declared.judged.Judged.{Judged}
use Rattle.bundle_report.specs.RunReport.{parts_at}
use Rattle.bundle_report.specs.SoFar.{runs_behind, HaveRead}
use Rattle.resumed_runs.specs.Base.{IsOwn, AllCanBeCertified}
use Rattle.resumed_runs.proofs.BaseLaws.{can-read, can-frames}
use Rattle.certified_epochs.specs.Turn.{courses_in, CanCertify}

-- Runs that have read logs can.
pub can_certify-read : (scheme : Scheme) (header : Header) (logs : List (List ℕ)) (so_far : Judged) (runs : List (Progress Operation))
    → HaveRead scheme header logs so_far runs → CanCertify so_far runs
can_certify-read scheme header logs so_far runs taken = record { first = header.first; each = can-read scheme header logs so_far runs taken }

-- Once they took frames they still can.
pub can_certify-frames : (scheme : Scheme) (so_far : Judged) (runs : List (Progress Operation)) (frames : List Frame)
    → CanCertify so_far runs → CanCertify so_far (runs_behind scheme 0 runs frames)
can_certify-frames scheme so_far runs frames can =
    record { first = can.first; each = can-frames (can.first + so_far.count) scheme 0 runs frames can.each }

-- ---- of which epochs their parts are

-- of one of each, the one at a place is of the epoch at that place
own_place : (from next index : ℕ) (parts : List Part) → OneOfEach from next parts
    → AllByRecursion (λ part. part.epoch ≡ from + index) (option_to_list (slice_get parts index))
own_place from next index [] is = tt
own_place from next zero (part ∷ parts) is = (let same : from ≡ from + 0 = omega arith in is.0 ∙ same, tt)
own_place from next (suc index) (part ∷ parts) is =
    every-weaker (λ (p : Part). p.epoch ≡ suc from + index) (λ (p : Part). p.epoch ≡ from + suc index) (λ p own. omega (arith, own))
    (option_to_list (slice_get parts index)) (own_place (suc from) next index parts is.1)

pub can-places : (epoch number index : ℕ) (runs : List (Progress Operation)) → AllCanBeCertified epoch number runs
    → AllByRecursion (λ part. part.epoch ≡ epoch + index) (parts_at index (courses_in runs))
can-places epoch number index [] can = tt
can-places epoch number index (run ∷ runs) can =
    every-append (λ (part : Part). part.epoch ≡ epoch + index) (option_to_list (slice_get run.course.parts index)) (parts_at index (courses_in runs))
    (own_place epoch (sealed_next (clock_of run.course)) index run.course.parts can.0.each)
    (can-places epoch (suc number) index runs can.1)

-- The parts at a place are of one epoch.
pub can_certify-epochs : (so_far : Judged) (runs : List (Progress Operation)) (can : CanCertify so_far runs) (index : ℕ)
    → AllByRecursion (λ part. part.epoch ≡ can.first + so_far.count + index) (parts_at index (courses_in runs))
can_certify-epochs so_far runs can index = can-places (can.first + so_far.count) 0 index runs can.each

-- ---- whose their parts are

-- what holds of each holds of the one at a place
holds_at : (P : Part → Type 0) (place : ℕ) (parts : List Part) (part : Part) → AllByRecursion P parts → slice_get parts place ≡ Some part → P part
holds_at P place [] part all there = absurd (cc)
holds_at P zero (first ∷ parts) part all there = let same : first ≡ part = cc in subst P same all.0
holds_at P (suc place) (first ∷ parts) part all there = holds_at P place parts part all.1 there

own_at : (epoch number index place : ℕ) (runs : List (Progress Operation)) (d : Progress Operation) (part : Part) → AllCanBeCertified epoch number runs
    → index < length runs → slice_get (get_or runs index d).course.parts place ≡ Some part → IsOwn (number + index) part
own_at epoch number index place [] d part can within there = absurd (omega (arith, within))
own_at epoch number zero place (run ∷ runs) d part can within there =
    let same : number ≡ number + 0 = omega arith in
    subst (λ (n : ℕ). IsOwn n part) same (holds_at (IsOwn number) place run.course.parts part can.0.own there)
own_at epoch number (suc index) place (run ∷ runs) d part can within there =
    let next : suc number + index ≡ number + suc index = omega arith in
    subst (λ (n : ℕ). IsOwn n part) next (own_at epoch (suc number) index place runs d part can.1 (omega (arith, within)) there)

-- The parts of each run are its verifier's, and small.
pub can_certify-own : (so_far : Judged) (runs : List (Progress Operation)) → CanCertify so_far runs → (number place : ℕ) (d : Progress Operation) (part : Part)
    → number < length runs → slice_get (get_or runs number d).course.parts place ≡ Some part → IsOwn number part
can_certify-own so_far runs can number place d part within there =
    let same : 0 + number ≡ number = omega arith in
    subst (λ (n : ℕ). IsOwn n part) same (own_at (can.first + so_far.count) 0 number place runs d part can.each within there)
