-- What is answered to a bundle and what follows it, as an answer to bytes that stand for the bundle and what follows them.
use Rattle.std.proofs.Common.{◌≡◌, ℕ, ◌+◌, ◌-◌, ◌≤◌, min, List, ◌++◌, length, take, drop, Option, None, Some, IfSome, Result, Ok, Err, inl, inr, refl, sym, ap, subst, ◌∙◌, arith, length-append}
use Rattle.std.specs.Option.{option_map}
use Rattle.std.proofs.Math.Seq.{drop-append_seam, take-append-add}
use Rattle.fv_outside.specs.Consumed.{TookAtLeast, TookAtMost, TookJust, TookToEnd, EndsBehind, most_behind}
use Rattle.fv_outside.specs.Written.{Grows, GrowsByFront}
use Rattle.fv_outside.specs.declared.failure.Failure.{Failure}
use Rattle.fv_outside.specs.declared.failure.Failure.TheVariants as failures
use Rattle.report_text.specs.declared.ending.BundleEnd.{BundleEnd}
use Rattle.report_text.specs.Ending.{status_of}
use Rattle.report_text.specs.Answer.{Answer, IsEnd, OfTaken, StopsNear, Writing, AnswersNear}
use Rattle.report_text.proofs.AnsweringLaws.{near-end, near-memory, near-read_fault, near-limit, near-write_fault}
use Rattle.check_core.specs.Outcomes.{check_status}
use Rattle.check_core.proofs.LastLineLemmas.{is_end}

-- So many bytes are a front, and in its place a bundle is thought to stand.
module _ (count : ℕ) (front sealed : List ℕ) (counted : length front ≡ count) (more most : ℕ) (within : count ≤ most) where
  -- as many may be taken then
  abbrev most_then : ℕ
  most_then = most - count + length sealed

  -- the bytes with the bundle in place of so many
  abbrev in_place : List ℕ → List ℕ
  in_place bytes = sealed ++ drop count bytes

  place : (tail : List ℕ) → in_place (front ++ tail) ≡ sealed ++ tail
  place tail =
      ap (λ (n : ℕ). sealed ++ drop n (front ++ tail)) (sym counted)
      ∙ ap (λ (t : List ℕ). sealed ++ t) (drop-append_seam front tail)

  -- a source that has the front before others, and one that has the bundle
  abbrev pub start : Option (List ℕ) → Option (List ℕ)
  start tail = option_map (λ t. front ++ t) tail

  abbrev pub instead : Option (List ℕ) → Option (List ℕ)
  instead tail = option_map (λ t. sealed ++ t) tail

  if_moved : (P : List ℕ → Type 0) (tail : Option (List ℕ)) → IfSome (instead tail) P → IfSome (start tail) (λ bytes. P (in_place bytes))
  if_moved P None holds = tt
  if_moved P (Some tail) holds = subst P (sym (place tail)) holds

  -- ---- what was taken

  taken_moved : (P : List ℕ → Type 0) (tail left : Option (List ℕ)) → TookAtLeast 0 tail left → OfTaken most_then P (instead tail) left
      → OfTaken most (λ bytes. P (in_place bytes)) (start tail) left
  taken_moved P None left least holds = tt
  taken_moved P (Some tail) None least holds = tt
  taken_moved P (Some tail) (Some left) least holds =
      let n = min (most - count) (length tail - length left) in
      let there : min most_then (length (sealed ++ tail) - length left) ≡ length sealed + n = omega (arith, length-append sealed tail, within, least) in
      let here : min most (length (front ++ tail) - length left) ≡ length front + n = omega (arith, length-append front tail, counted, within, least) in
      subst P
      (ap (λ (k : ℕ). take k (sealed ++ tail)) there ∙ take-append-add sealed tail n
      ∙ sym (ap (λ (k : ℕ). in_place (take k (front ++ tail))) here ∙ ap in_place (take-append-add front tail n) ∙ place (take n tail))) holds

  within_moved : (tail left : Option (List ℕ)) → TookAtMost most_then (instead tail) left → TookAtMost most (start tail) left
  within_moved None left took = tt
  within_moved (Some tail) None took = absurd took
  within_moved (Some tail) (Some left) took = omega (arith, length-append sealed tail, length-append front tail, counted, within, took)

  past_moved : (tail left : Option (List ℕ)) → TookAtMost (most_then + 1) (instead tail) left → TookAtMost (most + 1) (start tail) left
  past_moved None left took = tt
  past_moved (Some tail) None took = absurd took
  past_moved (Some tail) (Some left) took = omega (arith, length-append sealed tail, length-append front tail, counted, within, took)

  just_moved : (tail left : Option (List ℕ)) → TookJust (most_then + 1) (instead tail) left → TookJust (most + 1) (start tail) left
  just_moved None left took = tt
  just_moved (Some tail) None took = absurd took
  just_moved (Some tail) (Some left) took = omega (arith, length-append sealed tail, length-append front tail, counted, within, took)

  -- ---- where reading ends

  module _ (end : List ℕ → ℕ) where
    abbrev end_moved : List ℕ → ℕ
    end_moved bytes = count + (end (in_place bytes) - length sealed)

    reached_moved : (tail left : Option (List ℕ)) → TookAtLeast 0 tail left → TookToEnd end (instead tail) left → TookToEnd end_moved (start tail) left
    reached_moved None left least took = tt
    reached_moved (Some tail) None least took = absurd least
    reached_moved (Some tail) (Some left) least took =
        let same = ap end (place tail) in
        omega (arith, length-append sealed tail, length-append front tail, counted, least, took, same)

    stops_moved : (tail left : Option (List ℕ)) → StopsNear more end (instead tail) left → StopsNear more end_moved (start tail) left
    stops_moved None left took = tt
    stops_moved (Some tail) None took = absurd took
    stops_moved (Some tail) (Some left) took =
        let same = ap end (place tail) in
        omega (arith, length-append sealed tail, length-append front tail, counted, took, same)

    beyond_moved : (tail : Option (List ℕ)) → EndsBehind end most_then (instead tail) → EndsBehind end_moved most (start tail)
    beyond_moved None behind = tt
    beyond_moved (Some tail) behind =
        let same = ap end (place tail) in
        omega (arith, within, behind, same)

  -- ---- all of it

  pub moved : (answer : List ℕ → Answer) (end : List ℕ → ℕ) (tail left : Option (List ℕ)) (faults faults_after : ℕ) (writing : Writing) (result : Result BundleEnd Failure)
      → TookAtLeast 0 tail left → (result ≡ Err failures.VaultFault → ⊥)
      → AnswersNear more answer end most_then (check_status most_then result)
      (record { left = instead tail; left_after = left; faults = faults; faults_after = faults_after }) writing
      → AnswersNear more (λ bytes. answer (in_place bytes)) (end_moved end) most (check_status most result)
      (record { left = start tail; left_after = left; faults = faults; faults_after = faults_after }) writing
  moved answer end tail left faults faults_after writing (Ok ending) least fine a =
      near-end more (λ bytes. answer (in_place bytes)) (end_moved end) most _ writing (status_of ending) (is_end ending)
      (if_moved (λ bytes. status_of ending ≡ (answer bytes).status) tail (a.status (is_end ending)))
      (if_moved (λ bytes. Grows writing.held writing.held_after (answer bytes).text) tail (a.report (is_end ending)))
      (within_moved tail left (a.within (λ is. subst IsEnd is (is_end ending)) (λ is. subst IsEnd is (is_end ending)) (λ is. subst IsEnd is (is_end ending))))
      (reached_moved end tail left least (a.reached (is_end ending))) (stops_moved end tail left a.stops)
  moved answer end tail left faults faults_after writing (Err failures.Memory) least fine a =
      near-memory more (λ bytes. answer (in_place bytes)) (end_moved end) most _ writing
      (taken_moved (λ bytes. GrowsByFront writing.held writing.held_after (answer bytes).due) tail left least (a.due_front refl))
      (past_moved tail left a.past) (stops_moved end tail left a.stops)
  moved answer end tail left faults faults_after writing (Err failures.ReadFault) least fine a =
      near-read_fault more (λ bytes. answer (in_place bytes)) (end_moved end) most _ writing
      (taken_moved (λ bytes. Grows writing.held writing.held_after (answer bytes).due) tail left least (a.due (inl refl)))
      (within_moved tail left (a.within (λ is. absurd (cc)) (λ is. absurd (cc)) (λ is. absurd (cc)))) (stops_moved end tail left a.stops) (a.read_fault refl)
  moved answer end tail left faults faults_after writing (Err failures.InputLimit) least fine a =
      near-limit more (λ bytes. answer (in_place bytes)) (end_moved end) most _ writing
      (taken_moved (λ bytes. Grows writing.held writing.held_after (answer bytes).due) tail left least (a.due (inr refl)))
      (just_moved tail left (a.limit most_then refl).1) (stops_moved end tail left a.stops) (beyond_moved end tail (a.beyond most_then refl))
  moved answer end tail left faults faults_after writing (Err failures.VaultFault) least fine a = absurd (fine refl)
  moved answer end tail left faults faults_after writing (Err failures.WriteFault) least fine a =
      near-write_fault more (λ bytes. answer (in_place bytes)) (end_moved end) most _ writing
      (if_moved (λ bytes. GrowsByFront writing.held writing.held_after (answer bytes).text) tail (a.front refl))
      (past_moved tail left a.past) (stops_moved end tail left a.stops) (a.write_fault refl)
