-- What was read of a source to its end tells the answer to its bytes.
use Rattle.std.proofs.Common.{◌≡◌, ◌⊎◌, ℕ, ◌+◌, List, Option, Some, None, IfSome, inl, inr, refl, subst}
use Rattle.std.specs.Io.KnownBytes.{Consumes, IsAtEnd}
use Rattle.fv_outside.specs.Consumed.{TookAtMost, TookJust}
use Rattle.fv_outside.specs.Faults.{Rose}
use Rattle.fv_outside.specs.Written.{Grows, GrowsByFront}
use Rattle.fv_outside.specs.declared.failure.Failure.{Failure}
use Rattle.fv_outside.specs.declared.failure.Failure.TheVariants as failures
use Rattle.report_text.specs.declared.status.Status.{Status}
use Rattle.report_text.specs.declared.status.Status.TheVariants as statuses
use Rattle.report_text.specs.Answer.{Answer, Reading, Writing}
use Rattle.report_text.specs.Ending.{failure_status}
use Rattle.fastver_top.specs.Accepting.{IsAnswered, IsBeforeAnswer, AnswersWhole}
use Rattle.fastver_top.proofs.ReadLemmas.{all_taken}

-- what holds of the answer to what was read holds of that to the source's bytes
of_source : (P : Answer → Type 0) (answer : List ℕ → Answer) (left : Option (List ℕ)) (bytes : List ℕ) → IfSome left (λ all. bytes ≡ all)
    → P (answer bytes) → IfSome left (λ all. P (answer all))
of_source P answer None bytes is holds = tt
of_source P answer (Some all) bytes is holds = subst (λ (b : List ℕ). P (answer b)) is holds

module _ (answer : List ℕ → Answer) (most : ℕ) (reading : Reading) (writing : Writing) where
  module _ (bytes : List ℕ) (read : Consumes reading.left reading.left_after bytes) (end : IsAtEnd reading.left_after)
      (within : TookAtMost most reading.left reading.left_after) where
    all : IfSome reading.left (λ whole. bytes ≡ whole)
    all = all_taken reading.left reading.left_after bytes read end

    -- it was answered
    pub answers-whole : (status : Status) → IsAnswered status → status ≡ (answer bytes).status
        → Grows writing.held writing.held_after (answer bytes).text → (IsBeforeAnswer status → writing.held_after ≡ writing.held)
        → AnswersWhole answer most status reading writing
    answers-whole status answered is grown kept =
        record {
          status = λ _. of_source (λ own. status ≡ own.status) answer reading.left bytes all is;
          text = λ _. of_source (λ own. Grows writing.held writing.held_after own.text) answer reading.left bytes all grown;
          front = λ fault. absurd (subst IsAnswered fault answered);
          end = λ _. end;
          unwritten = kept;
          limit = λ taken long. absurd (subst IsAnswered long answered);
          within = λ _. within;
          read_fault = λ fault. absurd (subst IsAnswered fault answered);
          write_fault = λ fault. absurd (subst IsAnswered fault answered);
        }

    -- the sink failed
    pub answers-cut : GrowsByFront writing.held writing.held_after (answer bytes).text → Rose writing.faults writing.faults_after
        → AnswersWhole answer most statuses.WriteFault reading writing
    answers-cut front rose = record {
      status = λ never. absurd never;
      text = λ never. absurd never;
      front = λ _. of_source (λ own. GrowsByFront writing.held writing.held_after own.text) answer reading.left bytes all front;
      end = λ _. end;
      unwritten = λ never. absurd never;
      limit = λ taken long. absurd (cc);
      within = λ _. within;
      read_fault = λ fault. absurd (cc);
      write_fault = λ _. rose;
    }

  -- the source was not read to its end
  pub answers-unread : (stop : Failure) → (stop ≡ failures.VaultFault → ⊥) → (stop ≡ failures.WriteFault → ⊥) → writing.held_after ≡ writing.held
      → (stop ≡ failures.ReadFault → Rose reading.faults reading.faults_after)
      → (stop ≡ failures.InputLimit → TookJust (most + 1) reading.left reading.left_after)
      → ((stop ≡ failures.InputLimit → ⊥) → TookAtMost most reading.left reading.left_after)
      → AnswersWhole answer most (failure_status most stop) reading writing
  answers-unread failures.Memory vault sink kept fault long within = record {
    status = λ never. absurd never;
    text = λ never. absurd never;
    front = λ is. absurd (cc);
    end = λ is. absurd (neither is);
    unwritten = λ _. kept;
    limit = λ taken is. absurd (cc);
    within = λ _. within (λ is. cc);
    read_fault = λ is. absurd (cc);
    write_fault = λ is. absurd (cc);
  }
    where
      neither : IsAnswered statuses.Memory ⊎ (statuses.Memory ≡ statuses.WriteFault) → ⊥
      neither (inl is) = is
      neither (inr is) = cc
  answers-unread failures.ReadFault vault sink kept fault long within = record {
    status = λ never. absurd never;
    text = λ never. absurd never;
    front = λ is. absurd (cc);
    end = λ is. absurd (neither is);
    unwritten = λ _. kept;
    limit = λ taken is. absurd (cc);
    within = λ _. within (λ is. cc);
    read_fault = λ _. fault refl;
    write_fault = λ is. absurd (cc);
  }
    where
      neither : IsAnswered statuses.ReadFault ⊎ (statuses.ReadFault ≡ statuses.WriteFault) → ⊥
      neither (inl is) = is
      neither (inr is) = cc
  answers-unread failures.VaultFault vault sink kept fault long within = absurd (vault refl)
  answers-unread failures.WriteFault vault sink kept fault long within = absurd (sink refl)
  answers-unread failures.InputLimit vault sink kept fault long within = record {
    status = λ never. absurd never;
    text = λ never. absurd never;
    front = λ is. absurd (cc);
    end = λ is. absurd (neither is);
    unwritten = λ _. kept;
    limit = λ taken is. let same : taken ≡ most = cc in (same, long refl);
    within = λ other. absurd (other refl);
    read_fault = λ is. absurd (cc);
    write_fault = λ is. absurd (cc);
  }
    where
      neither : IsAnswered (statuses.InputLimit most) ⊎ (statuses.InputLimit most ≡ statuses.WriteFault) → ⊥
      neither (inl is) = is
      neither (inr is) = cc
