-- A flag by the text that is found of it.
use Rattle.std.proofs.Common.{◌≡◌, Bool, true, false, Option, Some, None, refl, sym, ap}
use Rattle.std.specs.Prelude.{codes, unwrap_or}
use Rattle.std.specs.Str.{bytes_eq}
use Rattle.std.specs.Str.Parse.{ParsesBool}
use Rattle.std.proofs.lemmas.Slice.Eq.{bytes_eq-Decides}
use Rattle.clap.specs.Walk.{Text}
use Rattle.clap.specs.Matches.{ReadsOne}
use Rattle.program_words.specs.Found.{is_set}

-- a text that is not `true` sets no flag
not_true : (text : Text) → (text ≡ codes "true" → ⊥) → (test : Bool) → bytes_eq text (codes "true") ≡ test → false ≡ test
not_true text other true same = absurd (other ((bytes_eq-Decides text (codes "true")).0 same))
not_true text other false same = refl

-- a text that is read as a `bool` sets the flag where it is read as true
read_as_bool : (E : Type 0) (text : Text) (value : Option Bool) → ReadsOne {T = Bool} {E = E} ParsesBool text value → unwrap_or value false ≡ is_set (Some text)
read_as_bool E text (Some true) reads = sym ((bytes_eq-Decides text (codes "true")).1 reads)
read_as_bool E text (Some false) reads = ap (λ (t : Text). bytes_eq t (codes "true")) (sym reads)
read_as_bool E text None reads = not_true text reads.1.0 (bytes_eq text (codes "true")) refl

pub flag_read : (E : Type 0) (text : Option Text) (value : Option Bool) → (text ≡ None → value ≡ None)
    → ((t : Text) → text ≡ Some t → ReadsOne {T = Bool} {E = E} ParsesBool t value) → unwrap_or value false ≡ is_set text
flag_read E None value none reads = ap (λ (v : Option Bool). unwrap_or v false) (none refl)
flag_read E (Some text) value none reads = read_as_bool E text value (reads text refl)
