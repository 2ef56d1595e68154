-- What a receipt and a certificate come to is the one answer to them.
use Rattle.std.proofs.Common.{◌≡◌, ℕ, ◌&&◌, Bool, true, false, List, Result, Ok, Err, if◌then◌else◌, refl, sym, ◌∙◌, ap, subst}
use Rattle.std.proofs.lemmas.Bool.{and_parts, leb-true, le-leb}
use Rattle.record_hash.specs.Functions.{DigestFunctions}
use Rattle.record_text.specs.Same.{same_bytes}
use Rattle.record_text.proofs.SameTestLaws.{same_bytes-true, same_bytes-self}
use Rattle.receipts.specs.declared.tagged_texts.Receipt.{Receipt}
use Rattle.receipts.specs.declared.tagged_texts.Certificate.{Certificate}
use Rattle.receipts.specs.declared.accepting.Acceptance.{Acceptance}
use Rattle.receipts.specs.declared.accepting.Acceptance.TheVariants.{Accepted, NotTagged, NotCertified}
use Rattle.receipts.specs.Receipts.{receipt_text, certificate_text}
use Rattle.receipts.specs.Acceptance.{AreTagged, IsWithin, IsAnswer}
use Rattle.receipt_lines.specs.declared.evidence.Evidence.{Evidence}
use Rattle.receipt_lines.specs.declared.evidence.BadLine.{BadLine}
use Rattle.receipt_lines.specs.Evidence.{evidence_of}
use Rattle.report_text.specs.declared.status.Status.{Status}
use Rattle.report_text.specs.declared.status.Status.TheVariants as statuses
use Rattle.fv_outside.specs.declared.failure.Failure.{Failure}
use Rattle.fv_outside.specs.declared.failure.Failure.TheVariants as failures
use Rattle.report_text.specs.Ending.{failure_status}
use Rattle.fastver_top.specs.Accepting.{are_tagged, is_within, acceptance_of, acceptance_answer, evidence_answer, accept_answer, IsAcceptStatus, IsAnswered, IsBeforeAnswer}

-- ---- the one answer to a receipt and a certificate

both-true : (a b : Bool) → a ≡ true → b ≡ true → (a && b) ≡ true
both-true a b first second = ap (λ (x : Bool). x && b) first ∙ second

-- a test that is met just where a fact holds
not-met : {P : Type 0} (test : Bool) → (test ≡ true → P) → (P → ⊥) → test ≡ false
not-met true met never = absurd (never (met refl))
not-met false met never = refl

module _ (functions : DigestFunctions) (receipt : Receipt) (certificate : Certificate) where
  tagged-test : AreTagged functions receipt certificate → are_tagged functions receipt certificate ≡ true
  tagged-test tagged = both-true _ _
      (ap (same_bytes (functions.tag (receipt_text receipt.operation))) (sym tagged.0) ∙ same_bytes-self (functions.tag (receipt_text receipt.operation)))
      (ap (same_bytes (functions.tag (certificate_text certificate.first certificate.last))) (sym tagged.1) ∙ same_bytes-self (functions.tag (certificate_text certificate.first certificate.last)))

  tagged-by_test : are_tagged functions receipt certificate ≡ true → AreTagged functions receipt certificate
  tagged-by_test met =
      let parts = and_parts _ _ met in
      (same_bytes-true _ _ parts.0, same_bytes-true _ _ parts.1)

  within-test : IsWithin receipt certificate → is_within receipt certificate ≡ true
  within-test within = both-true _ _ (le-leb _ _ within.0) (le-leb _ _ within.1)

  within-by_test : is_within receipt certificate ≡ true → IsWithin receipt certificate
  within-by_test met =
      let parts = and_parts _ _ met in
      (leb-true _ _ parts.0, leb-true _ _ parts.1)

  chosen : Bool → Bool → Acceptance
  chosen tagged within = if tagged then (if within then Accepted receipt.operation else NotCertified) else NotTagged

  pub answer_is : (acceptance : Acceptance) → IsAnswer functions receipt certificate acceptance → acceptance ≡ acceptance_of functions receipt certificate
  unfolding chosen
  answer_is (Accepted operation) is =
      ap Accepted is.0 ∙ sym (ap (λ (b : Bool). chosen b (is_within receipt certificate)) (tagged-test is.1) ∙ ap (chosen true) (within-test is.2))
  answer_is NotTagged is = sym (ap (λ (b : Bool). chosen b (is_within receipt certificate)) (not-met _ tagged-by_test is))
  answer_is NotCertified is =
      sym (ap (λ (b : Bool). chosen b (is_within receipt certificate)) (tagged-test is.0) ∙ ap (chosen true) (not-met _ within-by_test is.1))

-- ---- how it ends

-- the status of an answer says that what was read is answered
acceptance-answered : (acceptance : Acceptance) → IsAnswered (acceptance_answer acceptance).status
acceptance-answered (Accepted operation) = tt
acceptance-answered NotTagged = tt
acceptance-answered NotCertified = tt

evidence-answered : (functions : DigestFunctions) (read : Result Evidence BadLine) → IsAnswered (evidence_answer functions read).status
evidence-answered functions (Ok evidence) = acceptance-answered (acceptance_of functions evidence.receipt evidence.certificate)
evidence-answered functions (Err bad) = tt

pub answer-answered : (functions : DigestFunctions) (bytes : List ℕ) (status : Status) → status ≡ (accept_answer functions bytes).status → IsAnswered status
answer-answered functions bytes status is = subst IsAnswered (sym is) (evidence-answered functions (evidence_of bytes))

-- a reading that stopped ends as an acceptance can
pub stop-accept : (limit : ℕ) (stop : Failure) → (stop ≡ failures.VaultFault → ⊥) → (stop ≡ failures.WriteFault → ⊥) → IsAcceptStatus (failure_status limit stop)
stop-accept limit failures.Memory vault sink = tt
stop-accept limit failures.ReadFault vault sink = tt
stop-accept limit failures.InputLimit vault sink = tt
stop-accept limit failures.VaultFault vault sink = absurd (vault refl)
stop-accept limit failures.WriteFault vault sink = absurd (sink refl)

-- what is written of a receipt and a certificate comes behind what was read
pub acceptance-not_before : (acceptance : Acceptance) → IsBeforeAnswer (acceptance_answer acceptance).status → ⊥
acceptance-not_before (Accepted operation) before = before
acceptance-not_before NotTagged before = before
acceptance-not_before NotCertified before = before
