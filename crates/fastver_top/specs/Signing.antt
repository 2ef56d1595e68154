-- What is answered to the requests of a client that are handed in as text: the lines that they are once they are signed.
use Rattle.std.specs.Prelude.{ℕ, ◌==◌, List, [], ◌∷◌, Result, Ok, Err}
use Rattle.record_hash.specs.Functions.{DigestFunctions}
use Rattle.record_hash.specs.ShaDigests.{sha_under}
use Rattle.program_words.specs.declared.sign_words.SignWords.{SignWords}
use Rattle.script_text.specs.Script.{BadLine}
use Rattle.script_text.specs.Signing.{signed_text}
use Rattle.report_text.specs.declared.status.Status.{Status}
use Rattle.report_text.specs.declared.status.Status.TheVariants as statuses
use Rattle.report_text.specs.Kinds.{StatusKind, IsOneOf}
use Rattle.report_text.specs.Kinds as kinds
use Rattle.report_text.specs.Answer.{Answer}
use Rattle.fastver_top.specs.Accepting.{before_answer_kinds}

-- of what was read: the lines that are signed, and where one is bad nothing is written
abbrev pub signing_answer : Result (List ℕ) BadLine → Answer
signing_answer (Ok text) = record { text = text; due = []; status = statuses.Done 0 }
signing_answer (Err bad) = record { text = []; due = []; status = statuses.BadScript bad.line bad.cause }

-- What is answered to bytes that this client is to sign, where keys have so many bits and the tags are those of these functions.
abbrev pub sign_answer : DigestFunctions → ℕ → ℕ → List ℕ → Answer
sign_answer functions client bits bytes = signing_answer (signed_text functions (bits == 128) client bytes)

-- the same with the words' client and bits, and with HMAC under their key
abbrev pub sha_sign_answer : SignWords → List ℕ → Answer
sha_sign_answer sign bytes = sign_answer (sha_under sign.key) sign.numbers.client sign.numbers.bits bytes

-- the kinds of status that a signing can end with
abbrev pub sign_kinds : List StatusKind
sign_kinds = kinds.write_fault ∷ kinds.done ∷ before_answer_kinds

-- a status that a signing can end with
abbrev pub IsSignStatus : Status → Type 0
IsSignStatus = IsOneOf sign_kinds
