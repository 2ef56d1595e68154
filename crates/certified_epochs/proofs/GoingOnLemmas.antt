-- Turn after turn of certifying, whatever logs the runs took, if any.
use Rattle.std.proofs.Common.{◌≡◌, ℕ, zero, suc, ◌+◌, ◌-◌, ◌≤◌, Bool, true, false, List, [], ◌∷◌, ◌++◌, length, map, drop, filter, slice_get, Option, Some, None, refl, sym, ◌∙◌, ap, subst, arith}
use Rattle.std.specs.Prelude.{nat_lt}
use Rattle.std.specs.Option.{option_map, option_to_list}
use Rattle.std.proofs.lemmas.Bool.{cond-false}
use Rattle.std.proofs.lemmas.Bool.Decides.{nat_tests}
use Rattle.std.proofs.lemmas.List.{length-map}
use Rattle.multiset_sum.specs.declared.part.Part.{Part}
use Rattle.epoch_gather.specs.declared.outcome.Verdict.{Verdict}
use Rattle.epoch_gather.specs.declared.outcome.Verdict.TheVariants.{Balanced, Unbalanced, Missing}
use Rattle.epoch_gather.specs.Verdict.{verdict_of}
use Rattle.record_text.specs.declared.operation.Operation.{Operation}
use Rattle.verifier_commands.specs.Machine.{Machine}
use Rattle.verifier_run.specs.Course.{Course}
use Rattle.verifier_run.specs.Progress.{Progress}
use Rattle.verifier_run.specs.Order.{part_epoch, OneOfEach, clock_of, sealed_next}
use Rattle.verifier_run.specs.Taken.{left_of}
use Rattle.verifier_run.proofs.RunLaws.{all_after, one_of_each-never_falls}
use Rattle.bundle_report.specs.declared.judged.Judged.{Judged}
use Rattle.bundle_report.specs.Report.{EpochTold}
use Rattle.bundle_report.specs.RunReport.{parts_at}
use Rattle.bundle_report.specs.Judged.{CanBeJudged}
use Rattle.resumed_runs.specs.Base.{AllCanBeCertified}
use Rattle.resumed_runs.proofs.BaseLaws.{can-turn}
use Rattle.resumed_runs.proofs.JudgedLaws.{can-judge}
use Rattle.certified_epochs.specs.declared.fed_run.FedRun.{FedRun}
use Rattle.certified_epochs.specs.Turn.{courses_in, IsVerdictAt, CanCertify, next_epoch, Turned, turn_by, turn_at, turn}
use Rattle.certified_epochs.proofs.TurnLemmas.{fed_courses, runs_of, runs_many, courses_same}

-- ---- the next epoch

-- The next epoch is the one from which on the runs can be certified.
pub can-next : (epoch number : ℕ) (runs : List (Progress Operation)) (found : ℕ) → AllCanBeCertified epoch number runs → next_epoch runs ≡ Some found → found ≡ epoch
can-next epoch number [] found can is = absurd (cc)
can-next epoch number (run ∷ runs) found can is = go run.course.parts refl can.0.each
  where
    go : (parts : List Part) → run.course.parts ≡ parts → OneOfEach epoch (sealed_next (clock_of run.course)) parts → found ≡ epoch
    go [] none each =
        let absent = ap (λ (ps : List Part). option_map (λ (p : Part). p.epoch) (slice_get ps 0)) none in
        absurd (cc)
    go (part ∷ parts) some each =
        let there = ap (λ (ps : List Part). option_map (λ (p : Part). p.epoch) (slice_get ps 0)) some in
        let own : part.epoch ≡ found = cc in
        sym own ∙ each.0

-- No more are counted than come before the next epoch.
pub count-small : (so_far : Judged) (runs : List (Progress Operation)) (found : Option ℕ) (epoch : ℕ) → CanCertify so_far runs
    → found ≡ Some epoch → found ≡ next_epoch runs → so_far.count ≤ epoch
count-small so_far runs found epoch can is next =
    omega (arith, can-next (can.first + so_far.count) 0 runs epoch can.each (sym next ∙ is))

-- The parts of the next epoch can be judged.
pub fed-judged : (so_far : Judged) (runs : List FedRun) → CanCertify so_far (runs_of runs) → CanBeJudged (length runs) (parts_at 0 (fed_courses runs))
fed-judged so_far runs can =
    subst (λ (n : ℕ). CanBeJudged n (parts_at 0 (fed_courses runs))) (runs_many runs)
    (subst (λ (courses : List (Course Operation)). CanBeJudged (length (runs_of runs)) (parts_at 0 courses)) (courses_same runs)
    (can-judge (can.first + so_far.count) 0 (runs_of runs) can.each))

-- ---- what a turn leaves

-- the next epoch was balanced: it is counted, and taken out of the runs
pub record HasCounted {A : Type 0} (so_far : Judged) (runs : List (Progress Operation)) (turned : Turned A) : Type 0 where
  pub epoch : ℕ
  pub next : next_epoch runs ≡ Some epoch
  pub balanced : IsVerdictAt runs 0 epoch Balanced
  pub runs_are : turned.runs ≡ map (left_of epoch) runs
  pub count : turned.judged.count ≡ suc so_far.count
  pub even : turned.judged.unbalanced ≡ so_far.unbalanced

-- or no epoch more is counted, and the runs stay
pub record HasStayed {A : Type 0} (so_far : Judged) (runs : List (Progress Operation)) (turned : Turned A) : Type 0 where
  pub runs_are : turned.runs ≡ runs
  pub count : turned.judged.count ≡ so_far.count

module _ {A : Type 0} (tell : EpochTold A) (so_far : Judged) (runs : List (Progress Operation)) where
  -- the one where there is more, and else the other
  abbrev LeavesBy : Bool → Turned A → Type 0
  LeavesBy true turned = HasCounted so_far runs turned
  LeavesBy false turned = HasStayed so_far runs turned

  leaves_by : (epoch : ℕ) (verdict : Verdict) → next_epoch runs ≡ Some epoch → IsVerdictAt runs 0 epoch verdict
      → LeavesBy (turn_by tell so_far runs epoch verdict).more (turn_by tell so_far runs epoch verdict)
  leaves_by epoch Balanced next is = record { epoch = epoch; next = next; balanced = is; runs_are = refl; count = refl; even = refl }
  leaves_by epoch (Unbalanced added evicted) next is = record { runs_are = refl; count = refl }
  leaves_by epoch (Missing verifier) next is = record { runs_are = refl; count = refl }

  leaves_at : (found : Option ℕ) → next_epoch runs ≡ found → LeavesBy (turn_at tell so_far runs found).more (turn_at tell so_far runs found)
  leaves_at None next = record { runs_are = refl; count = refl }
  leaves_at (Some epoch) next = leaves_by epoch (verdict_of (length runs) epoch (parts_at 0 (courses_in runs))) next refl

  module _ (more : Bool) (now : Judged) (next : List (Progress Operation)) (text : List A)
      (is : turn tell so_far runs ≡ record { more = more; judged = now; runs = next; text = text }) where
    leaves : LeavesBy more (record { more = more; judged = now; runs = next; text = text })
    leaves = subst (λ (turned : Turned A). LeavesBy turned.more turned) is (leaves_at (next_epoch runs) refl)

    -- a turn after which there is more
    pub counted-turn : more ≡ true → HasCounted so_far runs (record { more = more; judged = now; runs = next; text = text })
    counted-turn same = subst (λ (b : Bool). LeavesBy b (record { more = more; judged = now; runs = next; text = text })) same leaves

    -- and one after which there isn't
    pub stayed-turn : more ≡ false → HasStayed so_far runs (record { more = more; judged = now; runs = next; text = text })
    stayed-turn same = subst (λ (b : Bool). LeavesBy b (record { more = more; judged = now; runs = next; text = text })) same leaves

-- ---- turn after turn

-- the parts behind the first
behind_first : (from next : ℕ) (parts : List Part) → OneOfEach from next parts → filter (λ part. nat_lt from part.epoch) parts ≡ drop (suc zero) parts
behind_first from next [] is = refl
behind_first from next (part ∷ parts) is =
    let not_past : nat_lt from part.epoch ≡ false = grind (arith, nat_tests, is.0) in
    cond-false (nat_lt from part.epoch) _ _ not_past
    ∙ all_after part_epoch from (suc from) next parts (omega arith) (one_of_each-never_falls (suc from) next parts is.1)

get_behind : {X : Type 0} (index : ℕ) (xs : List X) → slice_get (drop (suc zero) xs) index ≡ slice_get xs (suc index)
get_behind index [] = refl
get_behind index (x ∷ xs) = refl

-- without the next epoch each part stands one place further in front
parts_left : (epoch number index : ℕ) (runs : List (Progress Operation)) → AllCanBeCertified epoch number runs
    → parts_at index (courses_in (map (left_of epoch) runs)) ≡ parts_at (suc index) (courses_in runs)
parts_left epoch number index [] can = refl
parts_left epoch number index (run ∷ runs) can =
    ap (λ (part : Option Part). option_to_list part ++ parts_at index (courses_in (map (left_of epoch) runs)))
    (ap (λ (parts : List Part). slice_get parts index) (behind_first epoch (sealed_next (clock_of run.course)) run.course.parts can.0.each)
    ∙ get_behind index run.course.parts)
    ∙ ap (λ (parts : List Part). option_to_list (slice_get run.course.parts (suc index)) ++ parts) (parts_left epoch (suc number) index runs can.1)

-- what is taken out of a run leaves its verifier, and the bytes that it holds
left_machines : (epoch : ℕ) (runs : List (Progress Operation)) → map (λ run. run.course.machine) (map (left_of epoch) runs) ≡ map (λ run. run.course.machine) runs
left_machines epoch [] = refl
left_machines epoch (run ∷ runs) = ap (λ (machines : List Machine). run.course.machine ∷ machines) (left_machines epoch runs)

left_held : (epoch : ℕ) (runs : List (Progress Operation)) → map (λ run. run.held) (map (left_of epoch) runs) ≡ map (λ run. run.held) runs
left_held epoch [] = refl
left_held epoch (run ∷ runs) = ap (λ (held : List (List ℕ)). run.held ∷ held) (left_held epoch runs)

-- The runs can be certified from an epoch on that is so many behind another, from which on the first ones can. They have the parts of these
-- from there on, and their verifiers and held bytes.
pub record AreBehind (epoch count : ℕ) (first runs : List (Progress Operation)) : Type 0 where
  pub each : AllCanBeCertified (epoch + count) 0 runs
  pub parts : (index : ℕ) → parts_at index (courses_in runs) ≡ parts_at (count + index) (courses_in first)
  pub many : length runs ≡ length first
  pub machines : map (λ run. run.course.machine) runs ≡ map (λ run. run.course.machine) first
  pub held : map (λ run. run.held) runs ≡ map (λ run. run.held) first

pub behind-none : (epoch count : ℕ) (runs : List (Progress Operation)) → AllCanBeCertified epoch 0 runs → AreBehind epoch (count - count) runs runs
behind-none epoch count runs can =
    let same : epoch ≡ epoch + (count - count) = omega arith in
    record {
      each = subst (λ (e : ℕ). AllCanBeCertified e 0 runs) same can;
      parts = λ index. let here : index ≡ (count - count) + index = omega arith in ap (λ (n : ℕ). parts_at n (courses_in runs)) here;
      many = refl;
      machines = refl;
      held = refl;
    }

-- One turn more.
pub behind-turn : {A : Type 0} (epoch count : ℕ) (first runs : List (Progress Operation)) (so_far : Judged) (turned : Turned A)
    → AreBehind epoch count first runs → HasCounted so_far runs turned → AreBehind epoch (suc count) first turned.runs
behind-turn {A} epoch count first runs so_far turned behind counted =
    let own = can-next (epoch + count) 0 runs counted.epoch behind.each counted.next in
    let balanced : verdict_of (length runs) (epoch + count) (parts_at 0 (courses_in runs)) ≡ Balanced =
    ap (λ (e : ℕ). verdict_of (length runs) e (parts_at 0 (courses_in runs))) (sym own) ∙ sym counted.balanced in
    let later : suc (epoch + count) ≡ epoch + suc count = omega arith in
    subst (AreBehind epoch (suc count) first) (sym (counted.runs_are ∙ ap (λ (e : ℕ). map (left_of e) runs) own))
    (record {
      each = subst (λ (e : ℕ). AllCanBeCertified e 0 (map (left_of (epoch + count)) runs)) later (can-turn (epoch + count) runs behind.each balanced);
      parts = λ index.
          let here : count + suc index ≡ suc count + index = omega arith in
          parts_left (epoch + count) 0 index runs behind.each ∙ behind.parts (suc index) ∙ ap (λ (n : ℕ). parts_at n (courses_in first)) here;
      many = length-map runs (left_of (epoch + count)) ∙ behind.many;
      machines = left_machines (epoch + count) runs ∙ behind.machines;
      held = left_held (epoch + count) runs ∙ behind.held;
    })

-- So they can be certified further.
pub behind-can : (first start count : ℕ) (so_far : Judged) (olds runs : List (Progress Operation)) → so_far.count ≡ count → start ≤ count
    → AreBehind (first + start) (count - start) olds runs → CanCertify so_far runs
behind-can first start count so_far olds runs same within behind =
    let at : (first + start) + (count - start) ≡ first + so_far.count = omega (arith, same, within) in
    record { first = first; each = subst (λ (e : ℕ). AllCanBeCertified e 0 runs) at behind.each }

-- ---- of runs that are fed

machines_fed : (feds : List FedRun) → map (λ fed. fed.run.course.machine) feds ≡ map (λ run. run.course.machine) (runs_of feds)
machines_fed [] = refl
machines_fed (fed ∷ feds) = ap (λ (machines : List Machine). fed.run.course.machine ∷ machines) (machines_fed feds)

held_fed : (feds : List FedRun) → map (λ fed. fed.run.held) feds ≡ map (λ run. run.held) (runs_of feds)
held_fed [] = refl
held_fed (fed ∷ feds) = ap (λ (held : List (List ℕ)). fed.run.held ∷ held) (held_fed feds)

-- what a turn leaves them, after which there is no more
module _ (epoch count : ℕ) (first runs next : List FedRun) (behind : AreBehind epoch count (runs_of first) (runs_of runs)) (same : runs_of next ≡ runs_of runs) where
  pub behind-machines : map (λ fed. fed.run.course.machine) next ≡ map (λ fed. fed.run.course.machine) first
  behind-machines =
      machines_fed next ∙ ap (map (λ (run : Progress Operation). run.course.machine)) same ∙ behind.machines ∙ sym (machines_fed first)

  pub behind-held : map (λ fed. fed.run.held) next ≡ map (λ fed. fed.run.held) first
  behind-held = held_fed next ∙ ap (map (λ (run : Progress Operation). run.held)) same ∙ behind.held ∙ sym (held_fed first)

-- ---- verdicts that are handed in

-- Of verdicts on the next epochs, the one at the place up to which certifying has come is that on the next.
pub settled-next : (epoch index found : ℕ) (first runs : List (Progress Operation)) (verdict : Verdict) → AreBehind epoch index first runs
    → IsVerdictAt first index (epoch + index) verdict → next_epoch runs ≡ Some found → IsVerdictAt runs 0 found verdict
settled-next epoch index found first runs verdict behind is next =
    let own = can-next (epoch + index) 0 runs found behind.each next in
    let here : index + 0 ≡ index = omega arith in
    is
    ∙ ap (λ (n : ℕ). verdict_of n (epoch + index) (parts_at index (courses_in first))) (sym behind.many)
    ∙ ap (λ (parts : List Part). verdict_of (length runs) (epoch + index) parts) (sym (behind.parts 0 ∙ ap (λ (n : ℕ). parts_at n (courses_in first)) here))
    ∙ ap (λ (e : ℕ). verdict_of (length runs) e (parts_at 0 (courses_in runs))) (sym own)
