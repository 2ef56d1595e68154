-- What runs have once they took a round: parts of their verifiers, which may be handed in.
use Rattle.std.proofs.Common.{◌≡◌, ℕ, zero, suc, ◌+◌, ◌<◌, ◌≤◌, false, List, [], ◌∷◌, length, map, get_or, Result, Ok, Err, IfOk, refl, ◌∙◌, ap, subst, arith}
use Rattle.std.specs.List.{AllByRecursion}
use Rattle.std.proofs.lemmas.List.{length-map}
use Rattle.std.proofs.Math.ListN.{get_or-map}
use Rattle.record_hash.specs.Functions.{DigestFunctions}
use Rattle.lamport_clocks.specs.declared.header.Header.{Header}
use Rattle.merkle_records.specs.Scheme.{scheme_of}
use Rattle.verifier_run.specs.Kept.{keeps_operations}
use Rattle.verifier_run.specs.Progress.{fed, weight}
use Rattle.certified_epochs.specs.declared.fed_run.FedRun.{FedRun}
use Rattle.certified_epochs.proofs.CanCertifyLaws.{can_certify-read, can_certify-own}
use Rattle.host_rounds.specs.Round.{logs_with}
use Rattle.host_rounds.specs.Feeding.{Reads, AllRead}
use Rattle.host_rounds.specs.SoFar.{RunsSoFar, HaveRun}
use Rattle.host_rounds.specs.Sealing.{log_of, HasPartsOf, SealsOwn, HaveAllTaken}
use Rattle.host_rounds.proofs.RunLemmas.{round-taken}

-- ---- the runs as they are to be once they took a round

abbrev fed_all : DigestFunctions → List (List ℕ) → List FedRun → List FedRun
fed_all functions [] olds = []
fed_all functions (bytes ∷ round) [] = []
fed_all functions (bytes ∷ round) (old ∷ olds) =
    record { run = fed keeps_operations (scheme_of functions old.run.course.machine.header) old.run bytes; is_starved = false } ∷ fed_all functions round olds

fed_all-takes : (functions : DigestFunctions) (round : List (List ℕ)) (olds : List FedRun) → length round ≡ length olds → AllRead functions round olds (fed_all functions round olds)
fed_all-takes functions [] [] len = tt
fed_all-takes functions [] (old ∷ olds) len = absurd (omega (arith, len))
fed_all-takes functions (bytes ∷ round) [] len = absurd (omega (arith, len))
fed_all-takes functions (bytes ∷ round) (old ∷ olds) len =
    (record { is_fed = refl; taken = refl }, fed_all-takes functions round olds (omega (arith, len)))

fed_all-at : (functions : DigestFunctions) (round : List (List ℕ)) (olds : List FedRun) (index : ℕ) (d : FedRun) → length round ≡ length olds → index < length olds
    → (get_or (fed_all functions round olds) index d).run
    ≡ fed keeps_operations (scheme_of functions (get_or olds index d).run.course.machine.header) (get_or olds index d).run (log_of index round)
fed_all-at functions round [] index d len within = absurd (omega (arith, within))
fed_all-at functions [] (old ∷ olds) index d len within = absurd (omega (arith, len))
fed_all-at functions (bytes ∷ round) (old ∷ olds) zero d len within = refl
fed_all-at functions (bytes ∷ round) (old ∷ olds) (suc index) d len within = fed_all-at functions round olds index d (omega (arith, len)) (omega (arith, within))

fed_all-length : (functions : DigestFunctions) (round : List (List ℕ)) (olds : List FedRun) → length round ≡ length olds → length (fed_all functions round olds) ≡ length olds
fed_all-length functions [] [] len = refl
fed_all-length functions [] (old ∷ olds) len = absurd (omega (arith, len))
fed_all-length functions (bytes ∷ round) [] len = absurd (omega (arith, len))
fed_all-length functions (bytes ∷ round) (old ∷ olds) len = ap suc (fed_all-length functions round olds (omega (arith, len)))

-- What they then have may be handed in.
pub seals-own : (functions : DigestFunctions) (header : Header) (logs : List (List ℕ)) (so_far : RunsSoFar) → HaveRun functions header logs so_far
    → (round : List (List ℕ)) → length round ≡ length so_far.runs
    → (number : ℕ) (d : FedRun) → number < length so_far.runs → SealsOwn functions number round (get_or so_far.runs number d)
seals-own functions header logs so_far have round len number d within =
    let news = fed_all functions round so_far.runs in
    let taken = round-taken functions header logs so_far have round news (fed_all-takes functions round so_far.runs len) in
    let size = fed_all-length functions round so_far.runs len in
    let many = length-map news (λ (f : FedRun). f.run) in
    let runs = map (λ (f : FedRun). f.run) news in
    let can = can_certify-read (scheme_of functions header) header (logs_with logs round) so_far.judged runs taken in
    subst (HasPartsOf number)
    (get_or-map (λ (f : FedRun). f.run) news number d ∙ fed_all-at functions round so_far.runs number d len within)
    (λ place part there.
    let own = can_certify-own so_far.judged runs can number place d.run part (omega (arith, within, size, many)) there in
    (own.verifier, own.added, own.evicted))

-- ---- runs that were fed

-- all took a round, where each did
pub all-take : (functions : DigestFunctions) (round : List (List ℕ)) (olds news : List FedRun) → length round ≡ length olds → length news ≡ length olds
    → ((index : ℕ) (d : FedRun) → index < length olds → Reads functions (log_of index round) (get_or olds index d) (get_or news index d))
    → AllRead functions round olds news
all-take functions [] [] [] len same each = tt
all-take functions [] [] (new ∷ news) len same each = absurd (omega (arith, same))
all-take functions [] (old ∷ olds) news len same each = absurd (omega (arith, len))
all-take functions (bytes ∷ round) [] news len same each = absurd (omega (arith, len))
all-take functions (bytes ∷ round) (old ∷ olds) [] len same each = absurd (omega (arith, same))
all-take functions (bytes ∷ round) (old ∷ olds) (new ∷ news) len same each = (
  each 0 old (omega arith),
  all-take functions round olds news (omega (arith, len)) (omega (arith, same)) (λ index d within. each (suc index) d (omega (arith, within))),
)

-- what holds of each by its place holds of all, and the other way
pub all-at : {X : Type 0} (P : X → Type 0) (xs : List X) → ((index : ℕ) (d : X) → index < length xs → P (get_or xs index d)) → AllByRecursion P xs
all-at P [] each = tt
all-at P (x ∷ xs) each = (each 0 x (omega arith), all-at P xs (λ index d within. each (suc index) d (omega (arith, within))))

pub one-of : {X : Type 0} (P : X → Type 0) (xs : List X) (index : ℕ) (d : X) → index < length xs → AllByRecursion P xs → P (get_or xs index d)
one-of P [] index d within all = absurd (omega (arith, within))
one-of P (x ∷ xs) zero d within all = all.0
one-of P (x ∷ xs) (suc index) d within all = one-of P xs index d (omega (arith, within)) all.1

module _ (functions : DigestFunctions) (round : List (List ℕ)) (olds news : List FedRun) (len : length round ≡ length olds) (taken : HaveAllTaken functions round olds news) where
  pub taken-all : AllRead functions round olds news
  taken-all =
      all-take functions round olds news len taken.count
      (λ index d within. (taken.each index d within).takes (one-of (λ (f : FedRun). f.is_starved ≡ false) news index d (omega (arith, within, taken.count)) taken.are_fed))

  -- they weigh no more than what they weighed and all bytes
  pub taken-few : (bound more : ℕ) → AllByRecursion (λ fed. weight fed.run ≤ bound) olds
      → ((number : ℕ) → number < length round → bound + length (log_of number round) ≤ more) → AllByRecursion (λ fed. weight fed.run ≤ more) news
  taken-few bound more few bytes =
      all-at (λ (f : FedRun). weight f.run ≤ more) news
      (λ index d within.
      let here : index < length olds = omega (arith, within, taken.count) in
      omega (arith, (taken.each index d here).weight_is, one-of (λ (f : FedRun). weight f.run ≤ bound) olds index d here few, bytes index (omega (arith, here, len))))

-- what holds at success and what follows from it
pub if_ok : {T E : Type 0} {P Q : T → Type 0} (r : Result T E) → IfOk r P → ((t : T) → P t → Q t) → IfOk r Q
if_ok (Ok value) p f = f value p
if_ok (Err fault) p f = tt
