-- What a reader of commands answers, from what the bytes begin with, whatever the commands.
use Rattle.std.proofs.Common.{◌≡◌, ℕ, ◌-◌, ◌<◌, ◌≤◌, List, ◌++◌, length, take, drop, Result, Ok, Err, sym, ap, ◌∙◌, length-append, arith}
use Rattle.std.proofs.lemmas.List.{drop_at, length-drop}
use Rattle.record_text.specs.declared.reader.TextFault.{TextFault}
use Rattle.record_text.specs.declared.reader.TextFault.TheVariants as faults
use Rattle.record_text.specs.Fields.{Parsed}
use Rattle.record_text.proofs.FieldLaws.{AreBytes}
use Rattle.record_text.proofs.CountLaws.{taken, only_from_read}
use Rattle.log_codec.specs.declared.decoded.Decoded.{Decoded}
use Rattle.log_codec.specs.declared.decoded.Decoded.TheVariants.{Read, Malformed, Truncated}
use Rattle.log_codec.proofs.GrammarLaws.{Grammar, IsExact}

-- a command that was read, where so many bytes are left
pub record IsRead {C : Type 0} (grammar : Grammar C) (bytes : List ℕ) (command : C) (left : ℕ) : Type 0 where
  pub exact : grammar.read bytes ≡ Ok (command, drop (length bytes - left) bytes)
  pub some : 0 < length bytes - left
  pub within : left ≤ length bytes
  pub found : take (length bytes - left) bytes ≡ grammar.text command
  pub kind : grammar.Is command

pub is_read : {C : Type 0} (grammar : Grammar C) → IsExact grammar → (bytes : List ℕ) (command : C) (rest : List ℕ) (left : ℕ) → AreBytes bytes → grammar.read bytes ≡ Ok (command, rest) → left ≡ length rest → IsRead grammar bytes command left
is_read grammar exact bytes command rest left fits read count =
    let begins = exact.begins bytes command rest fits read in
    let shorter = exact.shorter bytes command rest read in
    let all = ap (λ (b : List ℕ). length b) begins.0.parts in
    let len : length (grammar.text command) ≡ length bytes - left = omega (arith, all, count, length-append (grammar.text command) rest) in
    let rest_is : drop (length bytes - left) bytes ≡ rest = ap (drop (length bytes - left)) begins.0.parts ∙ drop_at (grammar.text command) rest (length bytes - left) len in
    record {
      exact = read ∙ ap (λ (end : List ℕ). Ok (command, end)) (sym rest_is);
      some = omega arith;
      within = omega arith;
      found = taken bytes (grammar.text command) rest left begins.0 count;
      kind = begins.1;
    }

abbrev taken_as : {C : Type 0} → C × List ℕ → Parsed C
taken_as found = Ok found

never : {C : Type 0} (found : C × List ℕ) (fault : TextFault) → taken_as found ≡ Err fault → ⊥
never found fault e = absurd (cc)

-- the answer for a count or a fault
abbrev answer : {C : Type 0} → Result (C × ℕ) TextFault → Decoded C
answer (Ok found) = Read found.0 found.1
answer (Err faults.Malformed) = Malformed
answer (Err faults.Truncated) = Truncated

-- what is spelled in front is the command that was read
pub only_read : {C : Type 0} (grammar : Grammar C) → IsExact grammar → (bytes : List ℕ) (found command : C) (left_bytes rest : List ℕ) (left : ℕ) → grammar.Is command → bytes ≡ grammar.text command ++ rest → grammar.read bytes ≡ Ok (found, left_bytes) → left ≡ length left_bytes → Read found (length bytes - left) ≡ Read command (length (grammar.text command))
only_read grammar exact bytes found command left_bytes rest left is spelled read count =
    ap answer (only_from_read grammar.read bytes (grammar.text command) rest command found left_bytes left (exact.again command rest is) spelled read count)

-- the same, where what is left is what stands behind so many bytes
pub only_taken : {C : Type 0} (grammar : Grammar C) → IsExact grammar → (bytes : List ℕ) (found command : C) (rest : List ℕ) (count : ℕ) → grammar.Is command → bytes ≡ grammar.text command ++ rest → grammar.read bytes ≡ Ok (found, drop count bytes) → count ≤ length bytes → Read found count ≡ Read command (length (grammar.text command))
only_taken grammar exact bytes found command rest count is spelled read within =
    let same : count ≡ length bytes - (length bytes - count) = omega arith in
    ap (Read found) same ∙ only_read grammar exact bytes found command (drop count bytes) rest (length bytes - count) is spelled read (sym (length-drop count bytes))

-- there is no fault where a command is spelled in front
pub never_fails : {C : Type 0} (grammar : Grammar C) → IsExact grammar → (bytes : List ℕ) (command : C) (rest : List ℕ) (fault : TextFault) → grammar.Is command → bytes ≡ grammar.text command ++ rest → grammar.read bytes ≡ Err fault → ⊥
never_fails grammar exact bytes command rest fault is spelled failed =
    never (command, rest) fault (sym (exact.again command rest is) ∙ (ap grammar.read (sym spelled) ∙ failed))
