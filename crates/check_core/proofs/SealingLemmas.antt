-- What a check that seals comes to, by how far it came.
use Rattle.std.proofs.Common.{◌≡◌, ◌⊎◌, ℕ, ◌+◌, ◌-◌, ◌<◌, ◌≤◌, ◌^◌, min, Bool, false, List, [], ◌∷◌, ◌++◌, length, take, take_all, append-nil, Option, None, Some, IfSome, inl, inr, refl, sym, ap, subst, ◌∙◌, arith}
use Rattle.record_hash.specs.Functions.{DigestFunctions}
use Rattle.lamport_clocks.specs.declared.header.Header.{Header}
use Rattle.record_text.specs.declared.operation.Operation.{Operation}
use Rattle.fv_outside.specs.Consumed.{TookAtMost, TookToEnd}
use Rattle.fv_outside.specs.Faults.{Rose}
use Rattle.fv_outside.specs.Written.{Grows, GrowsByFront}
use Rattle.fv_outside.proofs.WrittenLaws.{Grows-then, GrowsByFront-then, GrowsByFront-more, GrowsByFront-whole}
use Rattle.fv_outside.specs.declared.failure.Failure.{Failure}
use Rattle.fv_outside.specs.declared.failure.Failure.TheVariants as failures
use Rattle.report_text.specs.declared.status.Status.{Status}
use Rattle.report_text.specs.declared.status.Status.TheVariants as statuses
use Rattle.report_text.specs.declared.ending.BundleEnd.{BundleEnd}
use Rattle.report_text.specs.declared.ending.BundleEnd.TheVariants as bundles
use Rattle.report_text.specs.Ending.{status_of, failure_status}
use Rattle.report_text.specs.Status.{last_line, sealed_line}
use Rattle.report_text.specs.Kinds.{StatusKind, IsOneOf}
use Rattle.report_text.specs.Kinds as kinds
use Rattle.report_text.specs.Answer.{Answer, IsEnd, OfTaken, Reading, Writing, AnswersTo}
use Rattle.report_text.proofs.AnsweringLaws.{answers-end, answers-memory, answers-write_fault, took_more, rose_before}
use Rattle.bundle_frames.specs.Bundle.{bundle_of}
use Rattle.bundle_frames.specs.Extent.{reading_end, end_in}
use Rattle.bundle_report.specs.Logged.{Logged, logged_of}
use Rattle.bundle_report.specs.Answer.{answer_at, check_answer}
use Rattle.certified_epochs.specs.declared.fed_run.FedRun.{FedRun}
use Rattle.check_core.specs.declared.told.Told.TheVariants.{Lines}
use Rattle.check_core.specs.Asked.{Asked, unended, asked_at, asked_answer}
use Rattle.check_core.specs.Told.{asked_for}
use Rattle.check_core.specs.Checked.{IsOtherEnd}
use Rattle.check_core.specs.Stream.{IsReadWhole}
use Rattle.check_core.specs.Sealing.{sealing_line, seal_answer, unsealed_kinds, Keeping, Counting, IsPlaced, IsPlacedInPart, IsAsBefore, HasLines, HasNoMoreThanLines, SealsInto}

-- ---- where a source tells its bytes

pub at_left : (left : Option (List ℕ)) (P : List ℕ → Type 0) → ((bytes : List ℕ) → left ≡ Some bytes → P bytes) → IfSome left P
at_left None P holds = tt
at_left (Some bytes) P holds = holds bytes refl

-- what holds of the bytes that a source tells
pub told_of : (left : Option (List ℕ)) (bytes : List ℕ) (P : List ℕ → Type 0) → left ≡ Some bytes → IfSome left P → P bytes
told_of left bytes P is holds = subst (λ (l : Option (List ℕ)). IfSome l P) is holds

-- ---- what is written before the last line

module _ (functions : DigestFunctions) where
  -- what is asked of a check: the lines, and nothing behind them
  abbrev pub asked : Asked
  asked = asked_for (Lines false) functions (λ (operations : List Operation). [])

  -- an answer without its last line
  abbrev pub without_last : Answer → Answer
  without_last answer = record { text = answer.due; due = answer.due; status = answer.status }

  abbrev pub lines_answer : List ℕ → Answer
  lines_answer bytes = without_last (check_answer false functions bytes)

  lines_at : (header : Option Header) (logs : List (List ℕ)) (bad : Option ℕ)
      → asked_at (unended asked) functions header logs bad ≡ without_last (answer_at false functions header logs bad)
  lines_at None logs bad = refl
  lines_at (Some header) logs bad =
      let answer = answer_at false functions (Some header) logs bad in
      ap (λ (text : List ℕ). let one : Answer = record { text = text; due = answer.due; status = answer.status } in one) (append-nil answer.due)

  -- They are the lines of the report.
  pub the_lines : asked_answer (unended asked) functions ≡ lines_answer
  the_lines = λ i bytes. lines_at (logged_of bytes).header (logged_of bytes).logs (logged_of bytes).bad i

-- ---- all of a bundle

whole_end : (bytes : List ℕ) → (bundle_of bytes).bad ≡ None → reading_end bytes ≡ length bytes
whole_end bytes whole = ap (λ (bad : Option ℕ). end_in (bundle_of bytes).header bad bytes) whole

-- Where nothing of a bundle is bad all of it was taken, and it is within the limit.
pub record IsTakenWhole (most : ℕ) (bytes : List ℕ) (left_after : Option (List ℕ)) : Type 0 where
  pub few : length bytes ≤ most
  pub none_left : IfSome left_after (λ rest. length rest ≡ 0)

pub taken_whole : (most : ℕ) (bytes : List ℕ) (left_after : Option (List ℕ)) → (bundle_of bytes).bad ≡ None → TookAtMost most (Some bytes) left_after
    → TookToEnd reading_end (Some bytes) left_after → IsTakenWhole most bytes left_after
taken_whole most bytes None whole within reached = absurd within
taken_whole most bytes (Some rest) whole within reached =
    let end = whole_end bytes whole in
    let none : length rest ≡ 0 = omega (arith, end, reached) in
    record { few = omega (arith, within, none); none_left = none }

of_whole : (Holds : List ℕ → Type 0) (most : ℕ) (bytes : List ℕ) (left_after : Option (List ℕ)) → IsTakenWhole most bytes left_after → Holds bytes
    → OfTaken most Holds (Some bytes) left_after
of_whole Holds most bytes None whole holds = tt
of_whole Holds most bytes (Some rest) whole holds =
    subst Holds (sym (take_all (min most (length bytes - length rest)) bytes (omega (arith, whole.few, whole.none_left)))) holds

-- ---- what is answered

-- the kinds of status with which no seal is placed, nor tried
abbrev pub other_kinds : List StatusKind
other_kinds = kinds.write_fault ∷ unsealed_kinds

-- a call that isn't carried through is of these
pub other_failure : (most : ℕ) (failure : Failure) → (failure ≡ failures.VaultFault → ⊥) → IsOneOf other_kinds (failure_status most failure)
other_failure most failures.Memory apart = tt
other_failure most failures.ReadFault apart = tt
other_failure most failures.InputLimit apart = tt
other_failure most failures.VaultFault apart = absurd (apart refl)
other_failure most failures.WriteFault apart = tt

pub no_end : (most : ℕ) (failure : Failure) → IsEnd (failure_status most failure) → ⊥
no_end most failures.Memory end = end
no_end most failures.ReadFault end = end
no_end most failures.InputLimit end = end
no_end most failures.VaultFault end = end
no_end most failures.WriteFault end = end

-- so is a report that ends otherwise than with `done`
pub other_status : (end : BundleEnd) → IsOtherEnd end → IsOneOf other_kinds (status_of end)
other_status (bundles.Done epochs) other = absurd other
other_status (bundles.BadBundle offset) other = tt
other_status (bundles.Refused verifier index refusal) other = tt
other_status (bundles.Unbalanced epoch added evicted) other = tt

pub other_line : (end : BundleEnd) → IsOtherEnd end → sealing_line (status_of end) ≡ last_line (status_of end)
other_line (bundles.Done epochs) other = absurd other
other_line (bundles.BadBundle offset) other = refl
other_line (bundles.Refused verifier index refusal) other = refl
other_line (bundles.Unbalanced epoch added evicted) other = refl

pub is_end : (end : BundleEnd) → IsEnd (status_of end)
is_end (bundles.Done epochs) = tt
is_end (bundles.BadBundle offset) = tt
is_end (bundles.Refused verifier index refusal) = tt
is_end (bundles.Unbalanced epoch added evicted) = tt

-- a status that comes where no seal is placed ends no answer
not_end : (fault : Status) → IsOneOf (kinds.counter_fault ∷ kinds.vault_fault ∷ []) fault → IsEnd fault → ⊥
not_end (statuses.Done epochs) is end = is
not_end statuses.Usage is end = is
not_end statuses.Memory is end = is
not_end statuses.ReadFault is end = is
not_end statuses.WriteFault is end = is
not_end statuses.VaultFault is end = end
not_end (statuses.BadScript line cause) is end = is
not_end (statuses.BadBundle offset) is end = is
not_end (statuses.Refused verifier index refusal) is end = is
not_end (statuses.Unbalanced epoch added evicted) is end = is
not_end (statuses.ClockEnd worker at) is end = is
not_end statuses.NotTagged is end = is
not_end statuses.NotCertified is end = is
not_end statuses.Exhibit is end = is
not_end (statuses.InputLimit taken) is end = is
not_end statuses.BadSeal is end = is
not_end (statuses.Stale sealed device) is end = is
not_end statuses.CounterFault is end = end

module _ (functions : DigestFunctions) (most : ℕ) (reading : Reading) (held held_now : Option (List ℕ)) (faults faults_now : ℕ) where
  -- so far
  abbrev wrote : Writing
  wrote = record { held = held; held_after = held_now; faults = faults; faults_after = faults_now }

  abbrev then_wrote : Option (List ℕ) → ℕ → Writing
  then_wrote held_then faults_then = record { held = held; held_after = held_then; faults = faults; faults_after = faults_then }

  module _ (result : Status) (answers : AnswersTo (lines_answer functions) reading_end most result reading wrote) where
    -- where it isn't carried through
    pub not_carried : (IsEnd result → ⊥) → AnswersTo (seal_answer functions) reading_end most result reading wrote
    not_carried no_answer = record {
      status = λ end. absurd (no_answer end);
      report = λ end. absurd (no_answer end);
      front = λ is. at_left reading.left _ (λ bytes told.
          GrowsByFront-more held held_now (check_answer false functions bytes).due (sealing_line (check_answer false functions bytes).status)
          (told_of reading.left bytes _ told (answers.front is)));
      due = answers.due;
      due_front = answers.due_front;
      limit = answers.limit;
      within = answers.within;
      past = answers.past;
      reached = λ end. absurd (no_answer end);
      stops = answers.stops;
      beyond = answers.beyond;
      read_fault = answers.read_fault;
      write_fault = answers.write_fault;
    }

    module _ (end : IsEnd result) where
      pub within : TookAtMost most reading.left reading.left_after
      within = answers.within (λ is. subst IsEnd is end) (λ is. subst IsEnd is end) (λ is. subst IsEnd is end)

      -- the lines of the report were written, and it ends so
      pub lines_there : (bytes : List ℕ) → reading.left ≡ Some bytes → Grows held held_now (check_answer false functions bytes).due
      lines_there bytes told = told_of reading.left bytes _ told (answers.report end)

      pub ends_so : (bytes : List ℕ) → reading.left ≡ Some bytes → result ≡ (check_answer false functions bytes).status
      ends_so bytes told = told_of reading.left bytes _ told (answers.status end)

      line_same : (bytes : List ℕ) → reading.left ≡ Some bytes → sealing_line result ≡ sealing_line (check_answer false functions bytes).status
      line_same bytes told = ap sealing_line (ends_so bytes told)

      -- then the last line
      pub last_written : (held_then : Option (List ℕ)) (faults_then : ℕ) → Grows held_now held_then (sealing_line result)
          → AnswersTo (seal_answer functions) reading_end most result reading (then_wrote held_then faults_then)
      last_written held_then faults_then line =
          answers-end (seal_answer functions) reading_end most reading (then_wrote held_then faults_then) result end answers_status
          (at_left reading.left _ (λ bytes told. Grows-then held held_now held_then _ _ (lines_there bytes told) (subst (Grows held_now held_then) (line_same bytes told) line)))
          within (answers.reached end) answers.stops
        where
          answers_status : IfSome reading.left (λ bytes. result ≡ (seal_answer functions bytes).status)
          answers_status = at_left reading.left _ (λ bytes told. ends_so bytes told)

      -- or a front of it
      pub last_cut : (held_then : Option (List ℕ)) (faults_then : ℕ) → GrowsByFront held_now held_then (sealing_line result) → faults ≤ faults_now
          → Rose faults_now faults_then → AnswersTo (seal_answer functions) reading_end most statuses.WriteFault reading (then_wrote held_then faults_then)
      last_cut held_then faults_then line falls rose =
          answers-write_fault (seal_answer functions) reading_end most reading (then_wrote held_then faults_then)
          (at_left reading.left _ (λ bytes told.
          GrowsByFront-then held held_now held_then _ _ (lines_there bytes told) (subst (GrowsByFront held_now held_then) (line_same bytes told) line)))
          answers.past answers.stops (rose_before faults faults_now faults_then falls rose)

      -- or memory was wanting for the seal
      pub no_memory : ((bytes : List ℕ) → reading.left ≡ Some bytes → (bundle_of bytes).bad ≡ None)
          → AnswersTo (seal_answer functions) reading_end most statuses.Memory reading wrote
      no_memory whole =
          answers-memory (seal_answer functions) reading_end most reading wrote (lines_so_far reading.left refl) answers.past answers.stops
        where
          lines_so_far : (left : Option (List ℕ)) → reading.left ≡ left
              → OfTaken most (λ bytes. GrowsByFront held held_now (check_answer false functions bytes).due) reading.left reading.left_after
          lines_so_far None told =
              subst (λ (l : Option (List ℕ)). OfTaken most (λ bytes. GrowsByFront held held_now (check_answer false functions bytes).due) l reading.left_after) (sym told) tt
          lines_so_far (Some bytes) told =
              subst (λ (l : Option (List ℕ)). OfTaken most (λ bytes. GrowsByFront held held_now (check_answer false functions bytes).due) l reading.left_after) (sym told)
              (of_whole (λ bytes. GrowsByFront held held_now (check_answer false functions bytes).due) most bytes reading.left_after
              (taken_whole most bytes reading.left_after (whole bytes told)
              (subst (λ (l : Option (List ℕ)). TookAtMost most l reading.left_after) told within)
              (subst (λ (l : Option (List ℕ)). TookToEnd reading_end l reading.left_after) told (answers.reached end)))
              (GrowsByFront-whole held held_now (check_answer false functions bytes).due (lines_there bytes told)))

      -- or the counter or the vault failed
      pub not_placed : (fault : Status) → IsOneOf (kinds.counter_fault ∷ kinds.vault_fault ∷ []) fault
          → AnswersTo (seal_answer functions) reading_end most fault reading wrote
      not_placed fault is = record {
        status = λ end. absurd (not_end fault is end);
        report = λ end. absurd (not_end fault is end);
        front = λ same. absurd (subst (IsOneOf (kinds.counter_fault ∷ kinds.vault_fault ∷ [])) same is);
        due = λ same. absurd (neither same);
        due_front = λ same. absurd (subst (IsOneOf (kinds.counter_fault ∷ kinds.vault_fault ∷ [])) same is);
        limit = λ taken same. absurd (subst (IsOneOf (kinds.counter_fault ∷ kinds.vault_fault ∷ [])) same is);
        within = λ _ _ _. within;
        past = answers.past;
        reached = λ end. absurd (not_end fault is end);
        stops = answers.stops;
        beyond = λ taken same. absurd (subst (IsOneOf (kinds.counter_fault ∷ kinds.vault_fault ∷ [])) same is);
        read_fault = λ same. absurd (subst (IsOneOf (kinds.counter_fault ∷ kinds.vault_fault ∷ [])) same is);
        write_fault = λ same. absurd (subst (IsOneOf (kinds.counter_fault ∷ kinds.vault_fault ∷ [])) same is);
      }
        where
          neither : (fault ≡ statuses.ReadFault) ⊎ (fault ≡ statuses.InputLimit most) → ⊥
          neither (inl same) = subst (IsOneOf (kinds.counter_fault ∷ kinds.vault_fault ∷ [])) same is
          neither (inr same) = subst (IsOneOf (kinds.counter_fault ∷ kinds.vault_fault ∷ [])) same is

-- ---- what comes of the seal

-- with these kinds of status a seal was tried
neither : (result : Status) → IsOneOf (kinds.done ∷ kinds.write_fault ∷ []) result → IsOneOf unsealed_kinds result → ⊥
neither (statuses.Done epochs) is other = other
neither statuses.Usage is other = is
neither statuses.Memory is other = is
neither statuses.ReadFault is other = is
neither statuses.WriteFault is other = other
neither statuses.VaultFault is other = is
neither (statuses.BadScript line cause) is other = is
neither (statuses.BadBundle offset) is other = is
neither (statuses.Refused verifier index refusal) is other = is
neither (statuses.Unbalanced epoch added evicted) is other = is
neither (statuses.ClockEnd worker at) is other = is
neither statuses.NotTagged is other = is
neither statuses.NotCertified is other = is
neither statuses.Exhibit is other = is
neither (statuses.InputLimit taken) is other = is
neither statuses.BadSeal is other = is
neither (statuses.Stale sealed device) is other = is
neither statuses.CounterFault is other = is

module _ (functions : DigestFunctions) (most : ℕ) (reading : Reading) (writing : Writing) (keeping : Keeping) (counting : Counting) where
  -- no seal was tried
  pub not_sealed : (result : Status) → IsOneOf other_kinds result → AnswersTo (seal_answer functions) reading_end most result reading writing
      → IsAsBefore keeping counting → (result ≡ statuses.WriteFault → IfSome reading.left (HasNoMoreThanLines functions writing))
      → SealsInto functions most result reading writing keeping counting
  not_sealed result other answers before lines = record {
    answers = answers;
    sealed = λ epochs is. absurd (subst (IsOneOf other_kinds) is other);
    unsealed = λ _. before;
    write_fault = λ is. inl (before, lines is);
    counter_fault = λ is. absurd (subst (IsOneOf other_kinds) is other);
    counter_lines = λ is. absurd (subst (IsOneOf other_kinds) is other);
    vault_fault = λ is. absurd (subst (IsOneOf other_kinds) is other);
    vault_lines = λ is. absurd (subst (IsOneOf other_kinds) is other);
    counter_rose = λ is. absurd (subst (IsOneOf other_kinds) is other);
    vault_rose = λ is. absurd (subst (IsOneOf other_kinds) is other);
  }

  -- it is placed
  pub is_sealed : (result : Status) → IsOneOf (kinds.done ∷ kinds.write_fault ∷ []) result
      → AnswersTo (seal_answer functions) reading_end most result reading writing
      → IfSome reading.left (IsPlaced functions keeping counting) → SealsInto functions most result reading writing keeping counting
  is_sealed result is answers placed = record {
    answers = answers;
    sealed = λ epochs _. placed;
    unsealed = λ other. absurd (neither result is other);
    write_fault = λ _. inr placed;
    counter_fault = λ same. absurd (subst (IsOneOf (kinds.done ∷ kinds.write_fault ∷ [])) same is);
    counter_lines = λ same. absurd (subst (IsOneOf (kinds.done ∷ kinds.write_fault ∷ [])) same is);
    vault_fault = λ same. absurd (subst (IsOneOf (kinds.done ∷ kinds.write_fault ∷ [])) same is);
    vault_lines = λ same. absurd (subst (IsOneOf (kinds.done ∷ kinds.write_fault ∷ [])) same is);
    counter_rose = λ same. absurd (subst (IsOneOf (kinds.done ∷ kinds.write_fault ∷ [])) same is);
    vault_rose = λ same. absurd (subst (IsOneOf (kinds.done ∷ kinds.write_fault ∷ [])) same is);
  }

  -- the counter failed
  pub not_raised : AnswersTo (seal_answer functions) reading_end most statuses.CounterFault reading writing → IsAsBefore keeping counting
      → IfSome reading.left (HasLines functions writing) → Rose counting.faults counting.faults_after
      → SealsInto functions most statuses.CounterFault reading writing keeping counting
  not_raised answers before lines rose = record {
    answers = answers;
    sealed = λ epochs is. absurd (cc);
    unsealed = λ other. absurd other;
    write_fault = λ is. absurd (cc);
    counter_fault = λ _. before;
    counter_lines = λ _. lines;
    vault_fault = λ is. absurd (cc);
    vault_lines = λ is. absurd (cc);
    counter_rose = λ _. rose;
    vault_rose = λ is. absurd (cc);
  }

  -- the vault failed
  pub not_written : AnswersTo (seal_answer functions) reading_end most statuses.VaultFault reading writing
      → IfSome reading.left (IsPlacedInPart functions keeping counting) → IfSome reading.left (HasLines functions writing)
      → Rose keeping.faults keeping.faults_after → SealsInto functions most statuses.VaultFault reading writing keeping counting
  not_written answers part lines rose = record {
    answers = answers;
    sealed = λ epochs is. absurd (cc);
    unsealed = λ other. absurd other;
    write_fault = λ is. absurd (cc);
    counter_fault = λ is. absurd (cc);
    counter_lines = λ is. absurd (cc);
    vault_fault = λ _. part;
    vault_lines = λ _. lines;
    counter_rose = λ is. absurd (cc);
    vault_rose = λ _. rose;
  }
