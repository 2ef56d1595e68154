-- The header of a bundle is read as it is spelled.
use Rattle.std.proofs.Common.{◌≡◌, ◌⊎◌, inl, inr, ℕ, zero, suc, ◌^◌, ◌<◌, ◌≤◌, Bool, true, false, cond, ltb, List, [], ◌∷◌, ◌++◌, length, take, drop, get_or, Some, Ok, Err, refl, sym, ap, subst, ◌∙◌, append-nil, take-append-drop, length-append, arith}
use Rattle.std.specs.Prelude.{All}
use Rattle.std.proofs.lemmas.Bool.{ltb-false, le-ltb, cases_lt}
use Rattle.std.proofs.lemmas.List.{take_all, get_or_past}
use Rattle.lamport_clocks.specs.declared.header.Header.{Header}
use Rattle.lamport_clocks.specs.Header.{IsHeader}
use Rattle.record_text.specs.declared.reader.TextFault.TheVariants.{Malformed, Truncated}
use Rattle.record_text.specs.Fields.{Parsed, field, KeepsOn}
use Rattle.record_text.proofs.FieldLaws.{AreBytes, AreBytes-take, AreBytes-drop, Begins, field_begins, field_again, wide32}
use Rattle.record_text.proofs.KeepsOnLaws.{keeps_on-field}
use Rattle.bundle_frames.specs.Bundle.{magic_bytes, header_bytes, header_bytes_in, header_in, header_text, header_numbers}
use Rattle.bundle_frames.proofs.HeaderLaws.{header_bytes-bounds, length-header_text, IsHeaderOf-from_header_in}
use Rattle.bundle_frames.proofs.FrontLaws.{header_bytes_in-front}
use Rattle.bundle_frames.proofs.FindsLaws.{IsHeader-from_header_in}
use Rattle.bundle_frames.proofs.SpelledLaws.{header_spelled}
use Rattle.bundle_frames.proofs.TextLaws.{header_in-text}
use Rattle.seals.specs.Seal.{header_at}
use Rattle.seals.proofs.CodecLaws.{IsCodec}

-- a header in its ranges, whose first epoch is a number of 32 bits
pub record IsGoodHeader (header : Header) : Type 0 where
  pub ranges : IsHeader header
  pub first : header.first < 2 ^ 32

enough : {A : Type 0} (short : Bool) (r : Parsed A) (y : A × List ℕ) → cond short (Err Truncated) r ≡ Ok y → (short ≡ false) × (r ≡ Ok y)
enough true r y e = absurd (cc)
enough false r y e = (refl, e)

enough_bad : {A : Type 0} (short : Bool) (r : Parsed A) → cond short (Err Truncated) r ≡ Err Malformed → (short ≡ false) × (r ≡ Err Malformed)
enough_bad true r e = absurd (cc)
enough_bad false r e = (refl, e)

-- where the bytes tell how many a header has, they are a field of so many
pub long_enough : (bytes : List ℕ) → magic_bytes ≤ length bytes → header_at bytes ≡ field (header_bytes_in bytes) header_in bytes
unfolding header_at
long_enough bytes long =
    let there : ltb (length bytes) magic_bytes ≡ false = le-ltb _ _ long in
    ap (λ (b : Bool). cond b (Err Truncated) (field (header_bytes_in bytes) header_in bytes)) there

pub all_bytes_fit : (bytes : List ℕ) → All (λ byte. byte < 256) bytes → AreBytes bytes
all_bytes_fit bytes fits i = go (cases_lt i (length bytes))
  where
    go : (i < length bytes) ⊎ (length bytes ≤ i) → get_or bytes i 0 < 256
    go (inl within) = fits i 0 within
    go (inr past) = rw (get_or_past bytes i 0 past) (omega arith)

all_bytes : (bytes : List ℕ) → AreBytes bytes → All (λ byte. byte < 256) bytes
all_bytes bytes fits k d within = subst (λ (b : ℕ). b < 256) (default_free bytes k d within) (fits k)
  where
    default_free : (xs : List ℕ) (k d : ℕ) → k < length xs → get_or xs k 0 ≡ get_or xs k d
    default_free [] k d within = absurd (omega arith)
    default_free (x ∷ xs) zero d within = refl
    default_free (x ∷ xs) (suc k) d within = default_free xs k d (omega arith)

small_first : (bytes : List ℕ) (header : Header) → AreBytes bytes → header_numbers bytes ≡ header → header.first < 2 ^ 32
small_first bytes header fits is =
    subst (λ (h : Header). h.first < 2 ^ 32) is (wide32.below (take 4 (drop 10 bytes)) (AreBytes-take 4 (drop 10 bytes) (AreBytes-drop 10 bytes fits)))

header_begins : (bytes : List ℕ) (header : Header) (rest : List ℕ) → AreBytes bytes → header_at bytes ≡ Ok (header, rest) → Begins bytes (header_text header) rest × IsGoodHeader header
unfolding header_at
header_begins bytes header rest fits e =
    let there = enough (ltb (length bytes) magic_bytes) (field (header_bytes_in bytes) header_in bytes) (header, rest) e in
    let count = header_bytes_in bytes in
    let front = take (header_bytes_in bytes) bytes in
    let f = field_begins (header_bytes_in bytes) header_in bytes header rest fits there.1 in
    let of = IsHeaderOf-from_header_in (take (header_bytes_in bytes) bytes) header f.2 in
    let least = header_bytes-bounds header.version in
    let short : magic_bytes ≤ length (take (header_bytes_in bytes) bytes) = omega (arith, of.there, of.size, least.0) in
    let told : header_bytes_in bytes ≡ header_bytes_in (take (header_bytes_in bytes) bytes) =
    ap header_bytes_in (sym (take-append-drop (header_bytes_in bytes) bytes)) ∙ header_bytes_in-front (take (header_bytes_in bytes) bytes) (drop (header_bytes_in bytes) bytes) short in
    let size : length (take (header_bytes_in bytes) bytes) ≤ header_bytes header.version = omega (arith, f.1, told, of.size) in
    let spelled : take (header_bytes_in bytes) bytes ≡ header_text header =
    sym (take_all (header_bytes header.version) (take (header_bytes_in bytes) bytes) size) ∙ header_spelled (take (header_bytes_in bytes) bytes) header (all_bytes (take (header_bytes_in bytes) bytes) f.3) f.2 in (
      subst (λ (t : List ℕ). Begins bytes t rest) spelled f.0,
      record { ranges = IsHeader-from_header_in (take (header_bytes_in bytes) bytes) header f.2; first = small_first (take (header_bytes_in bytes) bytes) header f.3 of.numbers },
    )

header_again : (header : Header) (rest : List ℕ) → IsGoodHeader header → header_at (header_text header ++ rest) ≡ Ok (header, rest)
header_again header rest good =
    let text = header_text header in
    let whole = header_in-text header rest good.ranges good.first in
    let of = IsHeaderOf-from_header_in (header_text header ++ rest) header whole in
    let alone : header_in (header_text header) ≡ Some header = ap header_in (sym (append-nil (header_text header))) ∙ header_in-text header [] good.ranges good.first in
    let least = header_bytes-bounds header.version in
    let long : magic_bytes ≤ length (header_text header ++ rest) = omega (arith, length-append (header_text header) rest, length-header_text header, least.0) in
    long_enough (header_text header ++ rest) long
    ∙ (ap (λ (n : ℕ). field n header_in (header_text header ++ rest)) of.size
    ∙ field_again (header_bytes header.version) header_in (header_text header) rest header (length-header_text header) alone)

pub codec-header : IsCodec header_at header_text IsGoodHeader
codec-header = record { begins = header_begins; again = header_again }

more_of_field : (bytes more : List ℕ) → magic_bytes ≤ length bytes → header_at (bytes ++ more) ≡ field (header_bytes_in bytes) header_in (bytes ++ more)
more_of_field bytes more long =
    long_enough (bytes ++ more) (omega (arith, length-append bytes more)) ∙ ap (λ (n : ℕ). field n header_in (bytes ++ more)) (header_bytes_in-front bytes more long)

pub keeps_on-header : KeepsOn header_at
unfolding header_at
keeps_on-header = record {
  found = λ bytes more value rest e.
      let there = enough (ltb (length bytes) magic_bytes) (field (header_bytes_in bytes) header_in bytes) (value, rest) e in
      more_of_field bytes more (ltb-false _ _ there.0) ∙ (keeps_on-field (header_bytes_in bytes) header_in).found bytes more value rest there.1;
  malformed = λ bytes more e.
      let there = enough_bad (ltb (length bytes) magic_bytes) (field (header_bytes_in bytes) header_in bytes) e in
      more_of_field bytes more (ltb-false _ _ there.0) ∙ (keeps_on-field (header_bytes_in bytes) header_in).malformed bytes more there.1;
  left = λ bytes value rest e.
      let there = enough (ltb (length bytes) magic_bytes) (field (header_bytes_in bytes) header_in bytes) (value, rest) e in
      (keeps_on-field (header_bytes_in bytes) header_in).left bytes value rest there.1;
}
