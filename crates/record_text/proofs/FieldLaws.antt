-- Fields: what was read is what stands in front, and what stands in front is read.
use Rattle.std.proofs.Common.{◌≡◌, ℕ, suc, ◌+◌, ◌^◌, ◌<◌, ◌≤◌, Bool, true, false, cond, ltb, List, [], ◌∷◌, ◌++◌, length, get_or, take, drop, Option, Some, None, Result, Ok, Err, refl, sym, ap, subst, ◌∙◌, append_assoc, arith, inl, inr}
use Rattle.std.specs.Int.{Width, w16, w32, w64, byte_len, from_be_bytes, to_be_bytes}
use Rattle.std.proofs.lemmas.Bool.{cases_lt, ltb-false, le-ltb}
use Rattle.std.proofs.lemmas.List.{take_at, drop_at, take-append-drop, length-append, length-take, length-take-le, get_or-drop, get_or-take, get_or_past}
use Rattle.std.proofs.lemmas.Nat.{be_bytes_2, be_bytes_4, be_bytes_8, from_be_bytes-to_be_bytes_2, from_be_bytes-to_be_bytes_4, from_be_bytes-to_be_bytes_8}
use Rattle.record_text.specs.declared.reader.TextFault.{TextFault}
use Rattle.record_text.specs.declared.reader.TextFault.TheVariants.{Truncated}
use Rattle.record_text.specs.Fields.{Parsed, ◌>>=◌, ranged, field}

-- ---- bytes

abbrev pub AreBytes : List ℕ → Type 0
AreBytes bytes = (i : ℕ) → get_or bytes i 0 < 256

pub AreBytes-drop : (n : ℕ) (bytes : List ℕ) → AreBytes bytes → AreBytes (drop n bytes)
AreBytes-drop n bytes fits i = rw get_or-drop (fits (n + i))

pub AreBytes-take : (n : ℕ) (bytes : List ℕ) → AreBytes bytes → AreBytes (take n bytes)
AreBytes-take n bytes fits i =
    elim (cases_lt i n) [
      | inl lt ↦ rw (get_or-take n bytes i 0 lt) (fits i)
      | inr le ↦ rw (get_or_past (take n bytes) i 0 (omega (arith, length-take n bytes))) (omega arith)
    ]

pub AreBytes-rest : (b : ℕ) (bytes : List ℕ) → AreBytes (b ∷ bytes) → AreBytes bytes
AreBytes-rest b bytes fits i = fits (suc i)

-- the bytes begin with the text, and these are left
pub record Begins (bytes text rest : List ℕ) : Type 0 where
  pub parts : bytes ≡ text ++ rest
  pub rest_fits : AreBytes rest

pub Begins-then : (a x b y c : List ℕ) → Begins a x b → Begins b y c → Begins a (x ++ y) c
Begins-then a x b y c first second = record {
  parts = first.parts ∙ (ap (λ (t : List ℕ). x ++ t) second.parts ∙ sym (append_assoc x y c));
  rest_fits = second.rest_fits;
}

-- ---- steps and fields that were taken

abbrev done : {A : Type 0} → A → Result A TextFault
done x = Ok x

pub Ok-is : {A : Type 0} (x y : A) → done x ≡ done y → x ≡ y
Ok-is x y e = cc

-- the value of a step that did not fail
pub bind_ok : {A B : Type 0} (r : Result A TextFault) (next : A → Result B TextFault) (y : B) → (r >>= next) ≡ Ok y → (x : A) × (r ≡ Ok x) × (next x ≡ Ok y)
bind_ok (Ok x) next y e = (x, refl, e)
bind_ok (Err fault) next y e = absurd (cc)

pub ranged_ok : {A : Type 0} (o : Option A) (left : List ℕ) (x : A) (rest : List ℕ) → ranged o left ≡ Ok (x, rest) → (o ≡ Some x) × (left ≡ rest)
ranged_ok None left x rest e = absurd (cc)
ranged_ok (Some y) left x rest e =
    let both = Ok-is (y, left) (x, rest) e in
    (ap (λ (p : _ × List ℕ). Some p.0) both, ap (λ (p : _ × List ℕ). p.1) both)

guarded_ok : {A : Type 0} (short : Bool) (r : Parsed A) (y : A × List ℕ) → cond short (Err Truncated) r ≡ Ok y → (short ≡ false) × (r ≡ Ok y)
guarded_ok true r y e = absurd (cc)
guarded_ok false r y e = (refl, e)

-- the bytes of a field are all there, they are in its range, and the others are left
pub field_ok : {A : Type 0} (n : ℕ) (value : List ℕ → Option A) (bytes : List ℕ) (x : A) (rest : List ℕ) → field n value bytes ≡ Ok (x, rest) → (n ≤ length bytes) × (value (take n bytes) ≡ Some x) × (drop n bytes ≡ rest)
field_ok n value bytes x rest e =
    let there = guarded_ok (ltb (length bytes) n) (ranged (value (take n bytes)) (drop n bytes)) (x, rest) e in
    let within = ranged_ok (value (take n bytes)) (drop n bytes) x rest there.1 in
    (ltb-false _ _ there.0, within.0, within.1)

-- a field that is there and in its range is read, whatever follows
pub field_again : {A : Type 0} (n : ℕ) (value : List ℕ → Option A) (text rest : List ℕ) (x : A) → length text ≡ n → value text ≡ Some x → field n value (text ++ rest) ≡ Ok (x, rest)
field_again n value text rest x len within =
    let long : ltb (length (text ++ rest)) n ≡ false = le-ltb _ _ (omega (arith, length-append text rest)) in
    rw (long, take_at text rest n len, drop_at text rest n len, within) refl

-- a field of bytes that are in no range needs a text of its length
pub field_begins : {A : Type 0} (n : ℕ) (value : List ℕ → Option A) (bytes : List ℕ) (x : A) (rest : List ℕ) → AreBytes bytes → field n value bytes ≡ Ok (x, rest)
    → Begins bytes (take n bytes) rest × (length (take n bytes) ≡ n) × (value (take n bytes) ≡ Some x) × AreBytes (take n bytes)
field_begins n value bytes x rest fits e =
    let f = field_ok n value bytes x rest e in (
      record {
        parts = sym (take-append-drop n bytes) ∙ ap (λ (r : List ℕ). take n bytes ++ r) f.2;
        rest_fits = subst AreBytes f.2 (AreBytes-drop n bytes fits);
      },
      length-take-le n bytes f.0,
      f.1,
      AreBytes-take n bytes fits,
    )

-- a field of one byte
one_byte : {A : Type 0} (value : List ℕ → Option A) (text : List ℕ) (x : A) → length text ≡ 1 → value text ≡ Some x → (b : ℕ) × (text ≡ b ∷ []) × (value (b ∷ []) ≡ Some x)
one_byte value [] x len within = absurd (omega arith)
one_byte value (b ∷ []) x len within = (b, refl, within)
one_byte value (b ∷ c ∷ text) x len within = absurd (omega arith)

pub byte_field_begins : {A : Type 0} (value : List ℕ → Option A) (bytes : List ℕ) (x : A) (rest : List ℕ) → AreBytes bytes → field 1 value bytes ≡ Ok (x, rest)
    → (b : ℕ) × Begins bytes (b ∷ []) rest × (value (b ∷ []) ≡ Some x)
byte_field_begins value bytes x rest fits e =
    let f = field_begins 1 value bytes x rest fits e in
    let one = one_byte value (take 1 bytes) x f.1 f.2 in
    (one.0, subst (λ (text : List ℕ). Begins bytes text rest) one.1 f.0, one.2)

-- ---- numbers

-- the bytes of a width and the numbers below a limit stand for each other
pub record IsWide (w : Width) (limit : ℕ) : Type 0 where
  pub len : (n : ℕ) → length (to_be_bytes w n) ≡ byte_len w
  pub back : (bytes : List ℕ) → length bytes ≡ byte_len w → AreBytes bytes → to_be_bytes w (from_be_bytes w bytes) ≡ bytes
  pub again : (n : ℕ) → n < limit → from_be_bytes w (to_be_bytes w n) ≡ n
  pub below : (bytes : List ℕ) → AreBytes bytes → from_be_bytes w bytes < limit

pub wide16 : IsWide w16 (2 ^ 16)
wide16 = record {
  len = λ n. refl;
  back = λ bytes len fits. be_bytes_2 bytes _ len fits refl;
  again = λ n lt. from_be_bytes-to_be_bytes_2 n lt;
  below = λ bytes fits. omega (arith, fits 0, fits 1);
}

pub wide32 : IsWide w32 (2 ^ 32)
wide32 = record {
  len = λ n. refl;
  back = λ bytes len fits. be_bytes_4 bytes _ len fits refl;
  again = λ n lt. from_be_bytes-to_be_bytes_4 n lt;
  below = λ bytes fits. omega (arith, fits 0, fits 1, fits 2, fits 3);
}

pub wide64 : IsWide w64 (2 ^ 64)
wide64 = record {
  len = λ n. refl;
  back = λ bytes len fits. be_bytes_8 bytes _ len fits refl;
  again = λ n lt. from_be_bytes-to_be_bytes_8 n lt;
  below = λ bytes fits. omega (arith, fits 0, fits 1, fits 2, fits 3, fits 4, fits 5, fits 6, fits 7);
}

-- a number of so many bytes, whatever they are
abbrev pub number_at : Width → List ℕ → Parsed ℕ
number_at w bytes = field (byte_len w) (λ run. Some (from_be_bytes w run)) bytes

pub number_begins : (w : Width) (limit : ℕ) (wide : IsWide w limit) (bytes : List ℕ) (n : ℕ) (rest : List ℕ) → AreBytes bytes → number_at w bytes ≡ Ok (n, rest) → Begins bytes (to_be_bytes w n) rest × (n < limit)
number_begins w limit wide bytes n rest fits e =
    let f = field_begins (byte_len w) (λ run. Some (from_be_bytes w run)) bytes n rest fits e in
    let is : from_be_bytes w (take (byte_len w) bytes) ≡ n = cc (f.2) in
    let back : take (byte_len w) bytes ≡ to_be_bytes w n = sym (wide.back (take (byte_len w) bytes) f.1 f.3) ∙ ap (to_be_bytes w) is in
    (subst (λ (text : List ℕ). Begins bytes text rest) back f.0, subst (λ (m : ℕ). m < limit) is (wide.below (take (byte_len w) bytes) f.3))

pub number_again : (w : Width) (limit : ℕ) (wide : IsWide w limit) (n : ℕ) (rest : List ℕ) → n < limit → number_at w (to_be_bytes w n ++ rest) ≡ Ok (n, rest)
number_again w limit wide n rest lt =
    field_again (byte_len w) (λ run. Some (from_be_bytes w run)) (to_be_bytes w n) rest n (wide.len n) (ap (λ (m : ℕ). Some m) (wide.again n lt))
