-- What a reader of whole texts answers, from what the bytes begin with.
use Rattle.std.proofs.Common.{◌≡◌, ℕ, ◌+◌, ◌-◌, ◌≤◌, List, ◌++◌, length, take, Result, Ok, Err, sym, ap, subst, ◌∙◌, arith}
use Rattle.std.proofs.lemmas.List.{take_at, length-append}
use Rattle.record_text.specs.declared.reader.TextFault.{TextFault}
use Rattle.record_text.specs.Fields.{Parsed}
use Rattle.record_text.proofs.FieldLaws.{Begins, Ok-is}

-- the text and what is left are all of the bytes
begun : (bytes text rest : List ℕ) → Begins bytes text rest → length bytes ≡ length text + length rest
begun bytes text rest begins = ap (λ (b : List ℕ). length b) begins.parts ∙ length-append text rest

pub left_within : (bytes text rest : List ℕ) (left : ℕ) → Begins bytes text rest → left ≡ length rest → left ≤ length bytes
left_within bytes text rest left begins is = omega (arith, begun bytes text rest begins)

pub taken : (bytes text rest : List ℕ) (left : ℕ) → Begins bytes text rest → left ≡ length rest → take (length bytes - left) bytes ≡ text
taken bytes text rest left begins is =
    let len : length text ≡ length bytes - left = omega (arith, begun bytes text rest begins) in
    subst (λ (b : List ℕ). take (length bytes - left) b ≡ text) (sym begins.parts) (take_at text rest (length bytes - left) len)

abbrev taken_as : {A : Type 0} → A → Result A TextFault
taken_as x = Ok x

never : {A : Type 0} (x : A) (fault : TextFault) → taken_as x ≡ Err fault → ⊥
never x fault e = absurd (cc)

abbrev counts : {A : Type 0} → A → ℕ → Result (A × ℕ) TextFault
counts x n = Ok (x, n)

abbrev fails : {A : Type 0} → TextFault → Result A TextFault
fails fault = Err fault

-- what was read is what is spelled in front
pub only_from_read : {A : Type 0} (read : List ℕ → Parsed A) (bytes text rest : List ℕ) (x y : A) (left_bytes : List ℕ) (left : ℕ) → read (text ++ rest) ≡ Ok (x, rest) → bytes ≡ text ++ rest → read bytes ≡ Ok (y, left_bytes) → left ≡ length left_bytes → counts y (length bytes - left) ≡ counts x (length text)
only_from_read read bytes text rest x y left_bytes left again is found len =
    let both : (y, left_bytes) ≡ (x, rest) = Ok-is (y, left_bytes) (x, rest) (sym found ∙ (ap read is ∙ again)) in
    let value = ap (λ (p : _ × List ℕ). p.0) both in
    let same = ap (λ (p : _ × List ℕ). length p.1) both in
    let all = ap (λ (b : List ℕ). length b) is in
    let number : length bytes - left ≡ length text = omega (arith, length-append text rest, all, same, len) in
    ap (λ (z : _). counts z (length bytes - left)) value ∙ ap (λ (n : ℕ). counts x n) number

-- there is no fault where something is spelled in front
pub only_from_fault : {A : Type 0} (read : List ℕ → Parsed A) (bytes text rest : List ℕ) (x : A) (fault : TextFault) → read (text ++ rest) ≡ Ok (x, rest) → bytes ≡ text ++ rest → read bytes ≡ Err fault → fails {A = A × ℕ} fault ≡ counts x (length text)
only_from_fault read bytes text rest x fault again is failed =
    let both : Ok (x, rest) ≡ read bytes = sym (ap read is ∙ again) in
    absurd (never (x, rest) fault (both ∙ failed))
