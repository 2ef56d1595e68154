-- What is answered to a receipt and a certificate that are handed in as text: whether the receipt is accepted.
use Rattle.std.specs.Prelude.{◌≡◌, ◌≢◌, ◌⊎◌, ℕ, ◌+◌, ◌&&◌, nat_le, Bool, List, [], ◌∷◌, ◌++◌, IfSome, Result, Ok, Err, codes, if◌then◌else◌}
use Rattle.std.specs.Io.KnownBytes.{IsAtEnd}
use Rattle.fv_outside.specs.Consumed.{TookAtMost, TookJust}
use Rattle.fv_outside.specs.Faults.{Rose}
use Rattle.fv_outside.specs.Written.{Grows, GrowsByFront}
use Rattle.record_hash.specs.Functions.{DigestFunctions}
use Rattle.record_hash.specs.ShaDigests.{sha_under}
use Rattle.record_text.specs.declared.operation.Operation.{Operation}
use Rattle.record_text.specs.Same.{same_bytes}
use Rattle.receipts.specs.declared.tagged_texts.Receipt.{Receipt}
use Rattle.receipts.specs.declared.tagged_texts.Certificate.{Certificate}
use Rattle.receipts.specs.declared.accepting.Acceptance.{Acceptance}
use Rattle.receipts.specs.declared.accepting.Acceptance.TheVariants.{Accepted, NotTagged, NotCertified}
use Rattle.receipts.specs.Receipts.{receipt_text, certificate_text}
use Rattle.receipt_lines.specs.declared.evidence.Evidence.{Evidence}
use Rattle.receipt_lines.specs.declared.evidence.BadLine.{BadLine}
use Rattle.receipt_lines.specs.Evidence.{evidence_of}
use Rattle.report_text.specs.declared.status.Status.{Status}
use Rattle.report_text.specs.declared.status.Status.TheVariants as statuses
use Rattle.report_text.specs.Kinds.{StatusKind, IsOneOf}
use Rattle.report_text.specs.Kinds as kinds
use Rattle.report_text.specs.Answer.{Answer, Reading, Writing}
use Rattle.report_text.specs.Lines.{operation_line}
use Rattle.report_text.specs.Status.{last_line}

-- ---- what a receipt and a certificate come to

-- both tags are those of their texts
abbrev pub are_tagged : DigestFunctions → Receipt → Certificate → Bool
are_tagged functions receipt certificate =
    same_bytes (functions.tag (receipt_text receipt.operation)) receipt.tag
    && same_bytes (functions.tag (certificate_text certificate.first certificate.last)) certificate.tag

-- the operation's epoch is one of those that are certified
abbrev pub is_within : Receipt → Certificate → Bool
is_within receipt certificate = nat_le certificate.first receipt.operation.stamp.epoch && nat_le receipt.operation.stamp.epoch certificate.last

-- the one answer to a receipt and a certificate
abbrev pub acceptance_of : DigestFunctions → Receipt → Certificate → Acceptance
acceptance_of functions receipt certificate =
    if are_tagged functions receipt certificate then
    (if is_within receipt certificate then Accepted receipt.operation else NotCertified)
    else NotTagged

-- ---- what is written, and the status

-- the line of a receipt that is accepted: what it says of its operation
abbrev pub accepted_line : Operation → List ℕ
accepted_line operation = codes "accepted " ++ operation_line operation

-- of what a receipt and a certificate come to: nothing is due before all is read
abbrev pub acceptance_answer : Acceptance → Answer
acceptance_answer (Accepted operation) = record { text = accepted_line operation; due = []; status = statuses.Done 0 }
acceptance_answer NotTagged = record { text = last_line statuses.NotTagged; due = []; status = statuses.NotTagged }
acceptance_answer NotCertified = record { text = last_line statuses.NotCertified; due = []; status = statuses.NotCertified }

-- of what was read: where a line is bad nothing is written
abbrev pub evidence_answer : DigestFunctions → Result Evidence BadLine → Answer
evidence_answer functions (Ok evidence) = acceptance_answer (acceptance_of functions evidence.receipt evidence.certificate)
evidence_answer functions (Err bad) = record { text = []; due = []; status = statuses.BadScript bad.line bad.cause }

-- What is answered to bytes, where the tags are those of these functions.
abbrev pub accept_answer : DigestFunctions → List ℕ → Answer
accept_answer functions bytes = evidence_answer functions (evidence_of bytes)

-- the same with HMAC under a key
abbrev pub sha_accept_answer : List ℕ → List ℕ → Answer
sha_accept_answer key bytes = accept_answer (sha_under key) bytes

-- ---- statuses

-- the kinds of status that come with the answer to all that was read
abbrev pub answered_kinds : List StatusKind
answered_kinds = kinds.done ∷ kinds.bad_script ∷ kinds.not_tagged ∷ kinds.not_certified ∷ []

-- those that come only where no receipt and certificate were read, so that nothing is written
abbrev pub before_answer_kinds : List StatusKind
before_answer_kinds = kinds.memory ∷ kinds.read_fault ∷ kinds.bad_script ∷ kinds.input_limit ∷ []

-- the kinds of status that an acceptance can end with
abbrev pub accept_kinds : List StatusKind
accept_kinds = kinds.write_fault ∷ kinds.done ∷ kinds.not_tagged ∷ kinds.not_certified ∷ before_answer_kinds

-- a status that comes with the answer to all that was read
abbrev pub IsAnswered : Status → Type 0
IsAnswered = IsOneOf answered_kinds

-- a status that comes only where no receipt and certificate were read
abbrev pub IsBeforeAnswer : Status → Type 0
IsBeforeAnswer = IsOneOf before_answer_kinds

-- a status that an acceptance can end with
abbrev pub IsAcceptStatus : Status → Type 0
IsAcceptStatus = IsOneOf accept_kinds

-- ---- the whole

-- A call that reads a source to its end, if it has no more than so many bytes, and then writes what it answers to them.
pub record AnswersWhole (answer : List ℕ → Answer) (most : ℕ) (result : Status) (reading : Reading) (writing : Writing) : Type 0 where
  -- where what was read is answered, that is the answer to the source's bytes: the status, and the text that was written
  pub status : IsAnswered result → IfSome reading.left (λ bytes. result ≡ (answer bytes).status)
  pub text : IsAnswered result → IfSome reading.left (λ bytes. Grows writing.held writing.held_after (answer bytes).text)
  -- where the sink failed it took a front of that text
  pub front : result ≡ statuses.WriteFault → IfSome reading.left (λ bytes. GrowsByFront writing.held writing.held_after (answer bytes).text)
  -- so far the source was read to its end, and else nothing was written
  pub end : IsAnswered result ⊎ (result ≡ statuses.WriteFault) → IsAtEnd reading.left_after
  pub unwritten : IsBeforeAnswer result → writing.held_after ≡ writing.held
  -- the input is too long where the source gave just a byte more than the limit, and else it gave no more
  pub limit : (taken : ℕ) → result ≡ statuses.InputLimit taken → (taken ≡ most) × TookJust (most + 1) reading.left reading.left_after
  pub within : result ≢ statuses.InputLimit most → TookAtMost most reading.left reading.left_after
  -- a fault comes only where the object's own count of faults rose
  pub read_fault : result ≡ statuses.ReadFault → Rose reading.faults reading.faults_after
  pub write_fault : result ≡ statuses.WriteFault → Rose writing.faults writing.faults_after
