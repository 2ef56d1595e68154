-- A check that seals in a vault that it named: what stands in the vault from before it was named.
use Rattle.std.proofs.Common.{◌≡◌, ℕ, ◌≤◌, List, Option, IfSome, inl, inr, sym, subst, ◌∙◌, ◌⊎◌}
use Rattle.record_hash.specs.Functions.{DigestFunctions}
use Rattle.fv_outside.specs.Written.{Grows, GrowsByFront}
use Rattle.receipts.specs.Receipts.{tagged}
use Rattle.seals.specs.Seal.{seal_text}
use Rattle.report_text.specs.declared.status.Status.{Status}
use Rattle.report_text.specs.Answer.{Reading, Writing}
use Rattle.report_text.proofs.AnsweringLaws.{rose_before}
use Rattle.check_core.specs.Sealing.{Keeping, Counting, IsPlaced, IsPlacedInPart, IsAsBefore, HasNoMoreThanLines, SealsInto}
use Rattle.check_core.proofs.SealingLemmas.{at_left, told_of}

module _ (functions : DigestFunctions) (counting : Counting) (held held_now held_then : Option (List ℕ)) (name name_now name_then : Option (Option (List ℕ)))
    (faults faults_now faults_then : ℕ) (same : held_now ≡ held) (falls : faults ≤ faults_now) where
  -- before it was named, and once it was
  abbrev before : Keeping
  before = record { held = held; held_after = held_then; name = name; name_after = name_then; faults = faults; faults_after = faults_then }

  abbrev named : Keeping
  named = record { held = held_now; held_after = held_then; name = name_now; name_after = name_then; faults = faults_now; faults_after = faults_then }

  placed_before : (bytes : List ℕ) → IsPlaced functions named counting bytes → IsPlaced functions before counting bytes
  placed_before bytes is = record {
    seal = is.seal;
    raised = is.raised;
    fits = is.fits;
    written = subst (λ (h : Option (List ℕ)). Grows h held_then (tagged functions (seal_text is.seal))) same is.written;
  }

  part_before : (bytes : List ℕ) → IsPlacedInPart functions named counting bytes → IsPlacedInPart functions before counting bytes
  part_before bytes is = record {
    seal = is.seal;
    raised = is.raised;
    written = subst (λ (h : Option (List ℕ)). GrowsByFront h held_then (tagged functions (seal_text is.seal))) same is.written;
  }

  as_before : IsAsBefore named counting → IsAsBefore before counting
  as_before is = record { number = is.number; unwritten = is.unwritten ∙ same }

  module _ (most : ℕ) (result : Status) (reading : Reading) (writing : Writing) where
    all_placed : IfSome reading.left (IsPlaced functions named counting) → IfSome reading.left (IsPlaced functions before counting)
    all_placed placed = at_left reading.left _ (λ bytes told. placed_before bytes (told_of reading.left bytes _ told placed))

    -- where the sink failed
    cut_before : (IsAsBefore named counting × IfSome reading.left (HasNoMoreThanLines functions writing)) ⊎ IfSome reading.left (IsPlaced functions named counting)
        → (IsAsBefore before counting × IfSome reading.left (HasNoMoreThanLines functions writing)) ⊎ IfSome reading.left (IsPlaced functions before counting)
    cut_before (inl none) = inl (as_before none.0, none.1)
    cut_before (inr placed) = inr (all_placed placed)

    -- Naming it wrote nothing.
    pub from_named : SealsInto functions most result reading writing named counting → SealsInto functions most result reading writing before counting
    from_named into = record {
      answers = into.answers;
      sealed = λ epochs is. all_placed (into.sealed epochs is);
      unsealed = λ is. as_before (into.unsealed is);
      write_fault = λ is. cut_before (into.write_fault is);
      counter_fault = λ is. as_before (into.counter_fault is);
      counter_lines = into.counter_lines;
      vault_fault = λ is. at_left reading.left _ (λ bytes told. part_before bytes (told_of reading.left bytes _ told (into.vault_fault is)));
      vault_lines = into.vault_lines;
      counter_rose = into.counter_rose;
      vault_rose = λ is. rose_before faults faults_now faults_then falls (into.vault_rose is);
    }
