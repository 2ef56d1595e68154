-- What was read of a source tells the answer to lines that a client is to sign.
use Rattle.std.proofs.Common.{◌≡◌, ℕ, ◌==◌, List, Result, Ok, Err, refl, sym, ap, subst}
use Rattle.std.specs.Io.KnownBytes.{Consumes, IsAtEnd}
use Rattle.fv_outside.specs.Consumed.{TookAtMost}
use Rattle.fv_outside.specs.Faults.{Rose}
use Rattle.fv_outside.specs.Written.{Grows, GrowsByFront}
use Rattle.fv_outside.proofs.WrittenLaws.{Grows-same}
use Rattle.fv_outside.specs.declared.failure.Failure.{Failure}
use Rattle.fv_outside.specs.declared.failure.Failure.TheVariants as failures
use Rattle.record_hash.specs.Functions.{DigestFunctions}
use Rattle.record_text.specs.declared.cause.Cause.{Cause}
use Rattle.script_text.specs.Script.{BadLine}
use Rattle.script_text.specs.Signing.{signed_text}
use Rattle.report_text.specs.declared.status.Status.TheVariants as statuses
use Rattle.report_text.specs.Answer.{Reading, Writing}
use Rattle.report_text.specs.Ending.{failure_status}
use Rattle.fastver_top.specs.Accepting.{AnswersWhole}
use Rattle.fastver_top.specs.Signing.{signing_answer, sign_answer, IsSignStatus}
use Rattle.fastver_top.proofs.WholeLemmas.{answers-whole, answers-cut, answers-unread}

-- a reading that stopped ends as a signing can
pub stop-sign : (limit : ℕ) (stop : Failure) → (stop ≡ failures.VaultFault → ⊥) → (stop ≡ failures.WriteFault → ⊥) → IsSignStatus (failure_status limit stop)
stop-sign limit failures.Memory vault sink = tt
stop-sign limit failures.ReadFault vault sink = tt
stop-sign limit failures.InputLimit vault sink = tt
stop-sign limit failures.VaultFault vault sink = absurd (vault refl)
stop-sign limit failures.WriteFault vault sink = absurd (sink refl)

module _ (functions : DigestFunctions) (client bits most : ℕ) (reading : Reading) (writing : Writing) (bytes : List ℕ)
    (read : Consumes reading.left reading.left_after bytes) (end : IsAtEnd reading.left_after) (within : TookAtMost most reading.left reading.left_after) where
  -- all lines were signed and written
  pub signs-all : (text : List ℕ) → signed_text functions (bits == 128) client bytes ≡ Ok text → Grows writing.held writing.held_after text
      → AnswersWhole (sign_answer functions client bits) most (statuses.Done 0) reading writing
  signs-all text is grown =
      answers-whole (sign_answer functions client bits) most reading writing bytes read end within (statuses.Done 0) tt
      (sym (ap (λ (signed : Result (List ℕ) BadLine). (signing_answer signed).status) is))
      (subst (λ (signed : Result (List ℕ) BadLine). Grows writing.held writing.held_after (signing_answer signed).text) (sym is) grown)
      (λ never. absurd never)

  -- the sink failed
  pub signs-cut : (text : List ℕ) → signed_text functions (bits == 128) client bytes ≡ Ok text → GrowsByFront writing.held writing.held_after text
      → Rose writing.faults writing.faults_after → AnswersWhole (sign_answer functions client bits) most statuses.WriteFault reading writing
  signs-cut text is front rose =
      answers-cut (sign_answer functions client bits) most reading writing bytes read end within
      (subst (λ (signed : Result (List ℕ) BadLine). GrowsByFront writing.held writing.held_after (signing_answer signed).text) (sym is) front)
      rose

  -- a line is bad
  pub signs-bad : (line : ℕ) (cause : Cause) → signed_text functions (bits == 128) client bytes ≡ Err (record { line = line; cause = cause })
      → writing.held_after ≡ writing.held → AnswersWhole (sign_answer functions client bits) most (statuses.BadScript line cause) reading writing
  signs-bad line cause is kept =
      answers-whole (sign_answer functions client bits) most reading writing bytes read end within (statuses.BadScript line cause) tt
      (sym (ap (λ (signed : Result (List ℕ) BadLine). (signing_answer signed).status) is))
      (subst (λ (signed : Result (List ℕ) BadLine). Grows writing.held writing.held_after (signing_answer signed).text) (sym is)
      (Grows-same writing.held writing.held_after kept))
      (λ _. kept)

  -- memory was wanting behind what was read
  pub signs-nothing : writing.held_after ≡ writing.held → AnswersWhole (sign_answer functions client bits) most statuses.Memory reading writing
  signs-nothing kept =
      answers-unread (sign_answer functions client bits) most reading writing failures.Memory (λ is. absurd (cc)) (λ is. absurd (cc)) kept
      (λ is. absurd (cc)) (λ is. absurd (cc)) (λ _. within)
