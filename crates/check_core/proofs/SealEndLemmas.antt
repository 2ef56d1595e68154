-- A check that seals, at each of its ends.
use Rattle.std.proofs.Common.{◌≡◌, ◌∙◌, ℕ, ◌≤◌, ◌^◌, false, List, length, Option, None, Some, IfSome, refl, sym, ap, subst, arith}
use Rattle.record_hash.specs.Functions.{DigestFunctions}
use Rattle.lamport_clocks.specs.declared.header.Header.{Header}
use Rattle.fv_outside.specs.Consumed.{TookAtMost, TookToEnd}
use Rattle.fv_outside.specs.Faults.{Rose}
use Rattle.fv_outside.specs.Written.{Grows, GrowsByFront}
use Rattle.fv_outside.specs.declared.failure.Failure.{Failure}
use Rattle.fv_outside.specs.declared.failure.Failure.TheVariants as failures
use Rattle.report_text.specs.declared.status.Status.{Status}
use Rattle.report_text.specs.declared.status.Status.TheVariants as statuses
use Rattle.report_text.specs.declared.ending.BundleEnd.{BundleEnd}
use Rattle.report_text.specs.Ending.{status_of, failure_status}
use Rattle.report_text.specs.Status.{last_line, sealed_line}
use Rattle.report_text.specs.Kinds.{IsOneOf}
use Rattle.report_text.specs.Answer.{Answer, IsEnd, Reading, Writing, AnswersTo}
use Rattle.bundle_frames.specs.Bundle.{bundle_of}
use Rattle.bundle_frames.specs.Extent.{reading_end}
use Rattle.bundle_report.specs.Logged.{Logged}
use Rattle.bundle_report.specs.Answer.{check_answer}
use Rattle.certified_epochs.specs.declared.fed_run.FedRun.{FedRun}
use Rattle.seals.specs.declared.placing.Unplaced.TheVariants.{CounterFault, VaultFault}
use Rattle.check_core.specs.declared.sealing.Unsealed.{Unsealed}
use Rattle.check_core.specs.declared.sealing.Unsealed.TheVariants.{Memory, Unplaced}
use Rattle.check_core.specs.Asked.{unended, asked_answer}
use Rattle.check_core.specs.declared.checked.Checked.{Checked}
use Rattle.check_core.specs.Checked.{end_in, IsOtherEnd}
use Rattle.check_core.specs.Unsealed.{unsealed_status}
use Rattle.check_core.specs.Stream.{IsReadWhole}
use Rattle.check_core.specs.Sealing.{sealing_line, Keeping, Counting, IsPlaced, IsPlacedInPart, IsAsBefore, HasLines, SealsInto}
use Rattle.check_core.proofs.SealingLemmas.{at_left, told_of, asked, lines_answer, the_lines, taken_whole, other_kinds, other_failure, no_end, other_status, other_line, is_end, not_carried, lines_there, ends_so, last_written, last_cut, no_memory, not_placed, within, not_sealed, is_sealed, not_raised, not_written}

module _ (functions : DigestFunctions) (most : ℕ) (reading : Reading) (held held_now : Option (List ℕ)) (faults faults_now : ℕ) where
  -- what was written so far, and what then
  abbrev wrote : Writing
  wrote = record { held = held; held_after = held_now; faults = faults; faults_after = faults_now }

  abbrev then_wrote : Option (List ℕ) → ℕ → Writing
  then_wrote held_then faults_then = record { held = held; held_after = held_then; faults = faults; faults_after = faults_then }

  -- all lines but the last are as they were asked for
  abbrev HasLinesAs : Status → Type 0
  HasLinesAs result = AnswersTo (asked_answer (unended (asked functions)) functions) reading_end most result reading wrote

  of_lines : (result : Status) → HasLinesAs result → AnswersTo (lines_answer functions) reading_end most result reading wrote
  of_lines result answers = subst (λ (answer : List ℕ → Answer). AnswersTo answer reading_end most result reading wrote) (the_lines functions) answers

  -- what it came to is known
  pub lines_known : (checked other : Checked) → checked ≡ other → HasLinesAs (status_of (end_in checked)) → HasLinesAs (status_of (end_in other))
  lines_known checked other is lines = subst (λ (one : Checked). HasLinesAs (status_of (end_in one))) is lines

  -- It isn't carried through.
  pub fails : (keeping : Keeping) (counting : Counting) (result : Status) (failure : Failure) → result ≡ failure_status most failure → HasLinesAs (failure_status most failure)
      → (failure ≡ failures.VaultFault → ⊥) → IsAsBefore keeping counting → SealsInto functions most result reading wrote keeping counting
  fails keeping counting result failure is lines no_vault before =
      let answers = of_lines (failure_status most failure) lines in
      subst (λ (status : Status). SealsInto functions most status reading wrote keeping counting) (sym is)
      (not_sealed functions most reading wrote keeping counting (failure_status most failure) (other_failure most failure no_vault)
      (not_carried functions most reading held held_now faults faults_now (failure_status most failure) answers (no_end most failure)) before
      (λ fault. at_left reading.left _ (λ bytes told epochs done. told_of reading.left bytes _ told (answers.front fault))))

  -- ---- the report ends otherwise

  module _ (keeping : Keeping) (counting : Counting) (end : BundleEnd) (lines : HasLinesAs (status_of end)) (other : IsOtherEnd end)
      (before : IsAsBefore keeping counting) where
    pub ends_whole : (result : Status) → result ≡ status_of end → (held_then : Option (List ℕ)) (faults_then : ℕ)
        → Grows held_now held_then (last_line (status_of end)) → SealsInto functions most result reading (then_wrote held_then faults_then) keeping counting
    ends_whole result is held_then faults_then line =
        subst (λ (status : Status). SealsInto functions most status reading (then_wrote held_then faults_then) keeping counting) (sym is)
        (not_sealed functions most reading (then_wrote held_then faults_then) keeping counting (status_of end) (other_status end other)
        (last_written functions most reading held held_now faults faults_now (status_of end) (of_lines (status_of end) lines) (is_end end) held_then faults_then
        (subst (Grows held_now held_then) (sym (other_line end other)) line)) before
        (λ fault. absurd (subst IsEnd fault (is_end end))))

    pub ends_cut : (held_then : Option (List ℕ)) (faults_then : ℕ) → GrowsByFront held_now held_then (last_line (status_of end)) → faults ≤ faults_now
        → Rose faults_now faults_then → SealsInto functions most statuses.WriteFault reading (then_wrote held_then faults_then) keeping counting
    ends_cut held_then faults_then line falls rose =
        not_sealed functions most reading (then_wrote held_then faults_then) keeping counting statuses.WriteFault tt
        (last_cut functions most reading held held_now faults faults_now (status_of end) (of_lines (status_of end) lines) (is_end end) held_then faults_then
        (subst (GrowsByFront held_now held_then) (sym (other_line end other)) line) falls rose) before
        (λ _. at_left reading.left _ (λ bytes told epochs done. absurd (not_done bytes told epochs done)))
      where
        not_done : (bytes : List ℕ) → reading.left ≡ Some bytes → (epochs : ℕ) → (check_answer false functions bytes).status ≡ statuses.Done epochs → ⊥
        not_done bytes told epochs done =
            let own : status_of end ≡ statuses.Done epochs =
            ends_so functions most reading held held_now faults faults_now (status_of end) (of_lines (status_of end) lines) (is_end end) bytes told ∙ done in
            subst (IsOneOf other_kinds) own (other_status end other)

  -- ---- the report ends with `done`

  module _ (epochs : ℕ) (lines : HasLinesAs (statuses.Done epochs)) (header : Header) (taken : ℕ) (runs : List FedRun)
      (read : IsReadWhole functions header reading.left taken epochs runs) where
    done_lines : AnswersTo (lines_answer functions) reading_end most (statuses.Done epochs) reading wrote
    done_lines = of_lines (statuses.Done epochs) lines

    whole : (bytes : List ℕ) → reading.left ≡ Some bytes → (bundle_of bytes).bad ≡ None
    whole bytes told = ap (λ (l : Logged). l.bad) (told_of reading.left bytes _ told read.means)

    -- What is said of bytes that were read is said of all that the source tells.
    pub of_read : (P : List ℕ → Type 0) → most ≤ 2 ^ 40
        → ((bytes : List ℕ) → IsReadWhole functions header (Some bytes) taken epochs runs → length bytes ≤ 2 ^ 40 → P bytes) → IfSome reading.left P
    of_read P limit holds = at_left reading.left P (λ bytes told.
        holds bytes (subst (λ (left : Option (List ℕ)). IsReadWhole functions header left taken epochs runs) told read) (few bytes told))
      where
        few : (bytes : List ℕ) → reading.left ≡ Some bytes → length bytes ≤ 2 ^ 40
        few bytes told =
            let all = taken_whole most bytes reading.left_after (whole bytes told)
            (subst (λ (l : Option (List ℕ)). TookAtMost most l reading.left_after) told
            (within functions most reading held held_now faults faults_now (statuses.Done epochs) done_lines tt))
            (subst (λ (l : Option (List ℕ)). TookToEnd reading_end l reading.left_after) told (done_lines.reached tt)) in
            omega (arith, all.few, limit)

    has_lines : IfSome reading.left (HasLines functions wrote)
    has_lines = at_left reading.left _ (λ bytes told. record {
      epochs = epochs;
      done = sym (ends_so functions most reading held held_now faults faults_now (statuses.Done epochs) done_lines tt bytes told);
      lines = lines_there functions most reading held held_now faults faults_now (statuses.Done epochs) done_lines tt bytes told;
    })

    pub sealed_whole : (keeping : Keeping) (counting : Counting) (held_then : Option (List ℕ)) (faults_then : ℕ) → Grows held_now held_then (sealed_line epochs)
        → IfSome reading.left (IsPlaced functions keeping counting)
        → SealsInto functions most (statuses.Done epochs) reading (then_wrote held_then faults_then) keeping counting
    sealed_whole keeping counting held_then faults_then line placed =
        is_sealed functions most reading (then_wrote held_then faults_then) keeping counting (statuses.Done epochs) tt
        (last_written functions most reading held held_now faults faults_now (statuses.Done epochs) done_lines tt held_then faults_then line) placed

    pub sealed_cut : (keeping : Keeping) (counting : Counting) (held_then : Option (List ℕ)) (faults_then : ℕ) → GrowsByFront held_now held_then (sealed_line epochs) → faults ≤ faults_now
        → Rose faults_now faults_then → IfSome reading.left (IsPlaced functions keeping counting)
        → SealsInto functions most statuses.WriteFault reading (then_wrote held_then faults_then) keeping counting
    sealed_cut keeping counting held_then faults_then line falls rose placed =
        is_sealed functions most reading (then_wrote held_then faults_then) keeping counting statuses.WriteFault tt
        (last_cut functions most reading held held_now faults faults_now (statuses.Done epochs) done_lines tt held_then faults_then line falls rose) placed

    -- the bundle isn't sealed for this
    unsealed_for : (keeping : Keeping) (counting : Counting) (unsealed : Unsealed) → (unsealed ≡ Memory → IsAsBefore keeping counting)
        → (unsealed ≡ Unplaced CounterFault → IsAsBefore keeping counting) → (unsealed ≡ Unplaced CounterFault → Rose counting.faults counting.faults_after)
        → (unsealed ≡ Unplaced VaultFault → IfSome reading.left (IsPlacedInPart functions keeping counting))
        → (unsealed ≡ Unplaced VaultFault → Rose keeping.faults keeping.faults_after)
        → SealsInto functions most (unsealed_status unsealed) reading wrote keeping counting
    unsealed_for keeping counting Memory memory counter counter_rose vault vault_rose =
        not_sealed functions most reading wrote keeping counting statuses.Memory tt
        (no_memory functions most reading held held_now faults faults_now (statuses.Done epochs) done_lines tt whole) (memory refl) (λ is. absurd (cc))
    unsealed_for keeping counting (Unplaced CounterFault) memory counter counter_rose vault vault_rose =
        not_raised functions most reading wrote keeping counting
        (not_placed functions most reading held held_now faults faults_now (statuses.Done epochs) done_lines tt statuses.CounterFault tt) (counter refl) has_lines
        (counter_rose refl)
    unsealed_for keeping counting (Unplaced VaultFault) memory counter counter_rose vault vault_rose =
        not_written functions most reading wrote keeping counting
        (not_placed functions most reading held held_now faults faults_now (statuses.Done epochs) done_lines tt statuses.VaultFault tt) (vault refl) has_lines
        (vault_rose refl)

    -- The same of the status that says so.
    pub unsealed_as : (keeping : Keeping) (counting : Counting) (result : Status) (unsealed : Unsealed) → result ≡ unsealed_status unsealed → (unsealed ≡ Memory → IsAsBefore keeping counting)
        → (unsealed ≡ Unplaced CounterFault → IsAsBefore keeping counting) → (unsealed ≡ Unplaced CounterFault → Rose counting.faults counting.faults_after)
        → (unsealed ≡ Unplaced VaultFault → IfSome reading.left (IsPlacedInPart functions keeping counting))
        → (unsealed ≡ Unplaced VaultFault → Rose keeping.faults keeping.faults_after)
        → SealsInto functions most result reading wrote keeping counting
    unsealed_as keeping counting result unsealed is memory counter counter_rose vault vault_rose =
        subst (λ (status : Status). SealsInto functions most status reading wrote keeping counting) (sym is)
        (unsealed_for keeping counting unsealed memory counter counter_rose vault vault_rose)
