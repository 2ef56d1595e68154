-- The parts of an epoch that all runs hand in are told by the histories: one of each that has sealed the epoch.
use Rattle.std.proofs.Common.{◌≡◌, ℕ, zero, suc, ◌+◌, ◌<◌, ◌≤◌, ◌^◌, nat_lt, Bool, true, false, cond, ◌==◌, ◌&&◌, List, [], ◌∷◌, ◌++◌, length, map, slice_get, All, refl, sym, ◌∙◌, ap, subst, arith}
use Rattle.merkle_records.specs.Scheme.{Scheme}
use Rattle.std.specs.List.{AllByRecursion, IsDistinct}
use Rattle.std.specs.Option.{option_to_list}
use Rattle.std.proofs.lemmas.Bool.{cond_both, ne_eqb}
use Rattle.std.proofs.lemmas.Bool.Decides.{nat_tests}
use Rattle.std.proofs.lemmas.List.Elements.{All-from_recursion}
use Rattle.lamport_clocks.specs.declared.header.Header.{Header}
use Rattle.lamport_clocks.specs.Header.{IsHeader}
use Rattle.log_codec.specs.Log.{read_log}
use Rattle.multiset_sum.specs.declared.part.Part.{Part}
use Rattle.epoch_gather.specs.Parts.{is_same_part}
use Rattle.stamp_order.proofs.InOrderLaws.{every-weaker}
use Rattle.soundness.specs.History.{Event, log_events}
use Rattle.soundness.specs.Certified.{sealed_count, epochs_from}
use Rattle.bundle_report.specs.RunReport.{courses_from, courses_of, parts_at}
use Rattle.bundle_report.proofs.PartLemmas.{part_of, log-parts}
use Rattle.bundle_report.proofs.RunReportLemmas.{told_from}
use Rattle.bundle_report.proofs.SmallPartLemmas.{IsSmall, parts-small}

-- ---- the parts by the histories

module _ (scheme : Scheme) (first index : ℕ) where
  -- the part of the epoch, of a history of this verifier that seals so many
  abbrev pub part_told : ℕ → List Event → ℕ → List Part
  part_told number events sealed =
      cond (nat_lt index sealed) (part_of scheme number events (first + index) ∷ []) []

  -- the parts of the epoch, of histories the first of which is of the verifier of this number
  abbrev pub parts_told : ℕ → List (List Event) → List Part
  parts_told number [] = []
  parts_told number (events ∷ histories) =
      part_told number events (sealed_count events) ++ parts_told (suc number) histories

-- the part at a place is that of its epoch
part-at : (scheme : Scheme) (number : ℕ) (events : List Event) (index first sealed : ℕ)
    → option_to_list (slice_get (map (part_of scheme number events) (epochs_from first sealed)) index)
    ≡ part_told scheme first index number events sealed
part-at scheme number events index first zero =
    let none : nat_lt index 0 ≡ false = grind (arith, nat_tests) in
    sym (ap (λ (b : Bool). cond b (part_of scheme number events (first + index) ∷ []) []) none)
part-at scheme number events zero first (suc sealed) =
    let some : nat_lt 0 (suc sealed) ≡ true = grind (arith, nat_tests) in
    let same : first ≡ first + 0 = omega arith in
    ap (λ (e : ℕ). part_of scheme number events e ∷ []) same
    ∙ sym (ap (λ (b : Bool). cond b (part_of scheme number events (first + 0) ∷ []) []) some)
part-at scheme number events (suc index) first (suc sealed) =
    let same : suc first + index ≡ first + suc index = omega arith in
    let test : nat_lt index sealed ≡ nat_lt (suc index) (suc sealed) = grind (arith, nat_tests) in
    part-at scheme number events index (suc first) sealed
    ∙ ap (λ (e : ℕ). cond (nat_lt index sealed) (part_of scheme number events e ∷ []) []) same
    ∙ ap (λ (b : Bool). cond b (part_of scheme number events (first + suc index) ∷ []) []) test

module _ (scheme : Scheme) (header : Header) where
  -- The parts of an epoch that runs hand in are told by their histories.
  pub parts-told : (index number : ℕ) (logs : List (List ℕ))
      → parts_at index (courses_from scheme header number logs)
      ≡ parts_told scheme header.first index number (told_from scheme header number logs)
  parts-told index number [] = refl
  parts-told index number (log ∷ logs) =
      let commands = (read_log scheme.format log).commands in
      let events = log_events scheme header number commands in
      let others = parts_at index (courses_from scheme header (suc number) logs) in
      ap (λ (parts : List Part). option_to_list (slice_get parts index) ++ others)
      (log-parts scheme header number commands)
      ∙ ap (λ (own : List Part). own ++ others)
      (part-at scheme number events index header.first (sealed_count events))
      ∙ ap (λ (parts : List Part). part_told scheme header.first index number events (sealed_count events) ++ parts)
      (parts-told index (suc number) logs)

  -- there is a history of each log
  pub told-length : (number : ℕ) (logs : List (List ℕ))
      → length (told_from scheme header number logs) ≡ length logs
  told-length number [] = refl
  told-length number (log ∷ logs) = ap suc (told-length (suc number) logs)

-- ---- whose they are

-- a part of this epoch, of one of so many verifiers from this number on
abbrev pub IsAmong : ℕ → ℕ → ℕ → Part → Type 0
IsAmong epoch number count part =
    (part.epoch ≡ epoch) × (number ≤ part.verifier) × (part.verifier < number + count)

among_more : (epoch number count : ℕ) (part : Part) → IsAmong epoch (suc number) count part
    → IsAmong epoch number (suc count) part
among_more epoch number count part is = (is.0, omega (arith, is.1), omega (arith, is.2))

apart_places : (part other : Part) → part.verifier < other.verifier → is_same_part part other ≡ false
apart_places part other above =
    ap (λ (b : Bool). b && part.epoch == other.epoch) (ne_eqb _ _ (λ same. absurd (omega (arith, above, same))))

module _ (scheme : Scheme) (first index : ℕ) where
  -- The parts are of the epoch and of the histories' verifiers.
  pub told-among : (number : ℕ) (histories : List (List Event))
      → AllByRecursion (IsAmong (first + index) number (length histories))
      (parts_told scheme first index number histories)
  told-among number [] = tt
  told-among number (events ∷ histories) =
      let others = parts_told scheme first index (suc number) histories in
      let rest = every-weaker (IsAmong (first + index) (suc number) (length histories))
      (IsAmong (first + index) number (suc (length histories)))
      (among_more (first + index) number (length histories)) others (told-among (suc number) histories) in
      cond_both (nat_lt index (sealed_count events)) (part_of scheme number events (first + index) ∷ []) []
      (λ own. AllByRecursion (IsAmong (first + index) number (suc (length histories))) (own ++ others))
      (λ _. ((refl, omega arith, omega arith), rest))
      (λ _. rest)

  -- No two of them are of one verifier.
  pub told-distinct : (number : ℕ) (histories : List (List Event))
      → IsDistinct is_same_part (parts_told scheme first index number histories)
  unfolding IsDistinct
  told-distinct number [] = tt
  told-distinct number (events ∷ histories) =
      let part = part_of scheme number events (first + index) in
      let others = parts_told scheme first index (suc number) histories in
      let rest = told-distinct (suc number) histories in
      cond_both (nat_lt index (sealed_count events)) (part ∷ []) []
      (λ own. IsDistinct is_same_part (own ++ others))
      (λ _. (
        every-weaker (IsAmong (first + index) (suc number) (length histories))
            (λ other. is_same_part part other ≡ false)
            (λ other is. apart_places part other (omega (arith, is.1))) others (told-among (suc number) histories),
        rest,
      ))
      (λ _. rest)

-- ---- what a verdict on them asks

module _ (scheme : Scheme) (header : Header) (index : ℕ) (logs : List (List ℕ)) where
  -- The parts are of the bundle's verifiers.
  pub parts-numbers : length logs ≡ header.verifiers
      → All (λ part. part.verifier < header.verifiers) (parts_at index (courses_of scheme header logs))
  parts-numbers whole =
      let histories = told_from scheme header 0 logs in
      let count = told-length scheme header 0 logs in
      All-from_recursion (λ part. part.verifier < header.verifiers)
      (parts_at index (courses_of scheme header logs))
      (subst (AllByRecursion (λ part. part.verifier < header.verifiers))
      (sym (parts-told scheme header index 0 logs))
      (every-weaker (IsAmong (header.first + index) 0 (length histories)) (λ part. part.verifier < header.verifiers)
      (λ part is. omega (arith, is.2, count, whole))
      (parts_told scheme header.first index 0 histories) (told-among scheme header.first index 0 histories)))

  -- There is one of each verifier at most.
  pub parts-once : IsDistinct is_same_part (parts_at index (courses_of scheme header logs))
  parts-once =
      subst (IsDistinct is_same_part) (sym (parts-told scheme header index 0 logs))
      (told-distinct scheme header.first index 0 (told_from scheme header 0 logs))

  -- There is room for their sums.
  pub parts-counts : IsHeader header
      → All (λ part. (part.added.count < 2 ^ 25) × (part.evicted.count < 2 ^ 25))
      (parts_at index (courses_of scheme header logs))
  parts-counts good =
      All-from_recursion IsSmall (parts_at index (courses_of scheme header logs))
      (parts-small scheme header good index 0 logs)
