-- The bytes that digits spell, and what they are read as.
use Rattle.std.proofs.Common.{◌≡◌, ℕ, ◌*◌, ◌/◌, ◌%◌, ◌<◌, ◌≤◌, ◌^◌, ◌==◌, if◌then◌else◌, eq-eqb, Bool, true, false, List, ◌++◌, length, Option, Some, None, IfSome, MatchResult, Result, Ok, Err, refl, sym, ap, ◌∙◌, length-append, arith}
use Rattle.std.specs.List.{list_all}
use Rattle.std.specs.Option.{option_and_then}
use Rattle.std.specs.Result.{result_ok}
use Rattle.std.specs.Int.{byte_len, to_be_bytes}
use Rattle.record_text.specs.Longest.{longest_blob}
use Rattle.hex.specs.Hex.{decode_of, decode_pairs, decode_sized}
use Rattle.hex.specs.declared.error.FromHexError.{FromHexError}
use Rattle.hex.specs.declared.error.FromHexError.TheVariants.{OddLength, InvalidStringLength}
use Rattle.hex.proofs.HexLemmas.{decode_of-ok}
use Rattle.record_text.specs.declared.operation.Operation.{Operation}
use Rattle.record_text.specs.Value.{IsBlob}
use Rattle.record_text.specs.Tree.{word_width}
use Rattle.record_text.specs.Texts.{blob_text}
use Rattle.record_text.proofs.WideWordLaws.{wide_word}
use Rattle.record_text.proofs.FieldLaws.{AreBytes}
use Rattle.script_text.specs.Words.{is_lower_digit}
use Rattle.receipts.specs.declared.tagged_texts.Receipt.{Receipt}
use Rattle.receipts.specs.declared.tagged_texts.Certificate.{Certificate}
use Rattle.receipts.specs.Receipts.{IsOperation, receipt_text, certificate_text}
use Rattle.receipt_lines.specs.Tagged.{receipt_at, certificate_at, whole}
use Rattle.receipt_lines.specs.Evidence.{bytes_in, receipt_in, certificate_in}
use Rattle.receipt_lines.proofs.TaggedLemmas.{IsReceipt, IsCertificate, receipt-spelled, receipt-read, certificate-spelled, certificate-read}

-- ---- the bytes that digits spell

-- what is decoded into room for half as many bytes
sized-half : (digits : List ℕ) (n : ℕ) → n ≡ length digits / 2 → decode_sized digits n ≡ decode_of digits
sized-half digits n half = go (length digits % 2 == 1) where
  go : (odd : Bool) → (if odd then Err OddLength else if length digits / 2 == n then decode_pairs 0 digits else Err InvalidStringLength)
      ≡ (if odd then Err OddLength else decode_pairs 0 digits)
  go true = refl
  go false = rw (eq-eqb (length digits / 2) n (sym half)) refl

bytes_in-lower : (digits : List ℕ) → list_all is_lower_digit digits ≡ true → bytes_in digits ≡ result_ok (decode_of digits)
unfolding bytes_in
bytes_in-lower digits lower = rw lower refl

-- digits that are not all in lower case
pub bytes_in-other : (digits : List ℕ) → list_all is_lower_digit digits ≡ false → bytes_in digits ≡ None
unfolding bytes_in
bytes_in-other digits other = rw other refl

-- what decoding answers, next to the bytes that are spelled
abbrev pub Decodes : List ℕ → ℕ → Result (Unit {0}) FromHexError → List ℕ → Type 0
Decodes digits n result out = MatchResult (decode_sized digits n) (λ bytes. (result ≡ Ok tt) × (out ≡ bytes)) (λ fault. result ≡ Err fault)

pub bytes_in-decoded : (digits : List ℕ) (n : ℕ) (result : Result (Unit {0}) FromHexError) (out : List ℕ) → list_all is_lower_digit digits ≡ true → n ≡ length digits / 2
    → Decodes digits n result out → result ≡ Ok tt → bytes_in digits ≡ Some out
bytes_in-decoded digits n result out lower half decodes is =
    bytes_in-lower digits lower ∙ ap result_ok (sym (sized-half digits n half)) ∙ go (decode_sized digits n) decodes where
      go : (found : Result (List ℕ) FromHexError) → MatchResult found (λ bytes. (result ≡ Ok tt) × (out ≡ bytes)) (λ fault. result ≡ Err fault) → result_ok found ≡ Some out
      go (Ok bytes) told = ap Some (sym told.1)
      go (Err fault) told = absurd (cc)

pub bytes_in-refused : (digits : List ℕ) (n : ℕ) (result : Result (Unit {0}) FromHexError) (out : List ℕ) (fault : FromHexError) → list_all is_lower_digit digits ≡ true → n ≡ length digits / 2
    → Decodes digits n result out → result ≡ Err fault → bytes_in digits ≡ None
bytes_in-refused digits n result out fault lower half decodes is =
    bytes_in-lower digits lower ∙ ap result_ok (sym (sized-half digits n half)) ∙ go (decode_sized digits n) decodes where
      go : (found : Result (List ℕ) FromHexError) → MatchResult found (λ bytes. (result ≡ Ok tt) × (out ≡ bytes)) (λ other. result ≡ Err other) → result_ok found ≡ None
      go (Ok bytes) told = let ok = told.0 in absurd (cc)
      go (Err other) told = refl

-- they are bytes, half as many as the digits
bytes_in-bytes : (digits bytes : List ℕ) → bytes_in digits ≡ Some bytes → AreBytes bytes × (length digits ≡ 2 * length bytes)
unfolding bytes_in
bytes_in-bytes digits bytes is = go (list_all is_lower_digit digits) is where
  spelled : (found : Result (List ℕ) FromHexError) → result_ok found ≡ Some bytes → found ≡ Ok bytes
  spelled (Ok other) e = let same : other ≡ bytes = cc in ap Ok same
  spelled (Err fault) e = absurd (cc)

  go : (lower : Bool) → (if lower then result_ok (decode_of digits) else None) ≡ Some bytes → AreBytes bytes × (length digits ≡ 2 * length bytes)
  go true e =
      let decoded = decode_of-ok digits bytes (spelled (decode_of digits) e) in
      (decoded.3, decoded.2)
  go false e = absurd (cc)

-- more digits than those of a receipt spell more bytes
pub bytes_in-long : (digits : List ℕ) → 650 < length digits → IfSome (bytes_in digits) (λ bytes. 325 < length bytes)
bytes_in-long digits long = go (bytes_in digits) refl where
  go : (found : Option (List ℕ)) → bytes_in digits ≡ found → IfSome found (λ bytes. 325 < length bytes)
  go None is = tt
  go (Some bytes) is = omega (arith, long, (bytes_in-bytes digits bytes is).1)

pub if-missing : (found : Option (List ℕ)) → found ≡ None → IfSome found (λ bytes. 325 < length bytes)
if-missing None is = tt
if-missing (Some bytes) is = absurd (cc)

-- ---- receipts

-- the most bytes of a text, with its tag
receipt-short : (receipt : Receipt) → IsReceipt receipt → length (receipt_text receipt.operation ++ receipt.tag) ≤ 325
unfolding receipt_text
receipt-short receipt is =
    let width = word_width receipt.operation.wide in
    let key : length (to_be_bytes width receipt.operation.key) ≡ byte_len width = (wide_word receipt.operation.wide).len receipt.operation.key in
    omega (
      arith,
      length-append (receipt_text receipt.operation) receipt.tag,
      is.1,
      length-append (to_be_bytes width receipt.operation.key) (blob_text receipt.operation.value),
      key,
      key_short receipt.operation.wide,
      blob_short receipt.operation.value is.0.value,
    )
  where
    key_short : (wide : Bool) → byte_len (word_width wide) ≤ 16
    key_short false = omega arith
    key_short true = omega arith

    blob_short : (value : Option (List ℕ)) → IsBlob longest_blob value → length (blob_text value) ≤ 257
    blob_short None fits = omega arith
    blob_short (Some bytes) fits = omega (arith, fits)

-- nothing longer is read
receipt-long : (bytes : List ℕ) → AreBytes bytes → 325 < length bytes → whole (receipt_at bytes) ≡ None
receipt-long bytes fits long = go (whole (receipt_at bytes)) refl where
  go : (found : Option Receipt) → whole (receipt_at bytes) ≡ found → found ≡ None
  go None is = refl
  go (Some receipt) is =
      let spelled = receipt-spelled bytes receipt fits is in
      absurd (omega (arith, long, ap length spelled.0, receipt-short receipt spelled.1))

-- the digits spell no bytes, or too many
pub receipt_in-missing : (digits : List ℕ) → IfSome (bytes_in digits) (λ bytes. 325 < length bytes) → receipt_in digits ≡ None
unfolding receipt_in
receipt_in-missing digits missing = go (bytes_in digits) refl missing where
  go : (found : Option (List ℕ)) → bytes_in digits ≡ found → IfSome found (λ bytes. 325 < length bytes) → option_and_then (λ bytes. whole (receipt_at bytes)) found ≡ None
  go None is long = refl
  go (Some bytes) is long = receipt-long bytes (bytes_in-bytes digits bytes is).0 long

-- what is read of the bytes by what it says of its answer
pub receipt_in-found : (digits bytes : List ℕ) (found : Option Receipt) → bytes_in digits ≡ Some bytes
    → IfSome found (λ receipt. bytes ≡ receipt_text receipt.operation ++ receipt.tag) → IfSome found IsReceipt
    → ((operation : Operation) (tag : List ℕ) → IsOperation operation → length tag ≡ 32 → bytes ≡ receipt_text operation ++ tag → found ≡ Some (record { operation = operation; tag = tag }))
    → found ≡ receipt_in digits
unfolding receipt_in
receipt_in-found digits bytes found is spelled fits only =
    go found spelled fits only ∙ sym (ap (option_and_then (λ b. whole (receipt_at b))) is) where
      go : (found : Option Receipt) → IfSome found (λ receipt. bytes ≡ receipt_text receipt.operation ++ receipt.tag) → IfSome found IsReceipt
          → ((operation : Operation) (tag : List ℕ) → IsOperation operation → length tag ≡ 32 → bytes ≡ receipt_text operation ++ tag → found ≡ Some (record { operation = operation; tag = tag }))
          → found ≡ whole (receipt_at bytes)
      go (Some receipt) told fits_receipt all = sym (receipt-read bytes receipt fits_receipt told)
      go None told fits_receipt all = none (whole (receipt_at bytes)) refl where
        none : (read : Option Receipt) → whole (receipt_at bytes) ≡ read → None ≡ read
        none None e = refl
        none (Some receipt) e =
            let s = receipt-spelled bytes receipt (bytes_in-bytes digits bytes is).0 e in
            absurd (let there = all receipt.operation receipt.tag s.1.0 s.1.1 s.0 in cc)

-- ---- certificates

certificate-short : (certificate : Certificate) → IsCertificate certificate → length (certificate_text certificate.first certificate.last ++ certificate.tag) ≤ 325
unfolding certificate_text
certificate-short certificate is = omega (arith, length-append (certificate_text certificate.first certificate.last) certificate.tag, is.2)

certificate-long : (bytes : List ℕ) → AreBytes bytes → 325 < length bytes → whole (certificate_at bytes) ≡ None
certificate-long bytes fits long = go (whole (certificate_at bytes)) refl where
  go : (found : Option Certificate) → whole (certificate_at bytes) ≡ found → found ≡ None
  go None is = refl
  go (Some certificate) is =
      let spelled = certificate-spelled bytes certificate fits is in
      absurd (omega (arith, long, ap length spelled.0, certificate-short certificate spelled.1))

pub certificate_in-missing : (digits : List ℕ) → IfSome (bytes_in digits) (λ bytes. 325 < length bytes) → certificate_in digits ≡ None
unfolding certificate_in
certificate_in-missing digits missing = go (bytes_in digits) refl missing where
  go : (found : Option (List ℕ)) → bytes_in digits ≡ found → IfSome found (λ bytes. 325 < length bytes) → option_and_then (λ bytes. whole (certificate_at bytes)) found ≡ None
  go None is long = refl
  go (Some bytes) is long = certificate-long bytes (bytes_in-bytes digits bytes is).0 long

pub certificate_in-found : (digits bytes : List ℕ) (found : Option Certificate) → bytes_in digits ≡ Some bytes
    → IfSome found (λ certificate. bytes ≡ certificate_text certificate.first certificate.last ++ certificate.tag) → IfSome found IsCertificate
    → ((first last : ℕ) (tag : List ℕ) → first < 2 ^ 32 → last < 2 ^ 32 → length tag ≡ 32 → bytes ≡ certificate_text first last ++ tag → found ≡ Some (record { first = first; last = last; tag = tag }))
    → found ≡ certificate_in digits
unfolding certificate_in
certificate_in-found digits bytes found is spelled fits only =
    go found spelled fits only ∙ sym (ap (option_and_then (λ b. whole (certificate_at b))) is) where
      go : (found : Option Certificate) → IfSome found (λ certificate. bytes ≡ certificate_text certificate.first certificate.last ++ certificate.tag) → IfSome found IsCertificate
          → ((first last : ℕ) (tag : List ℕ) → first < 2 ^ 32 → last < 2 ^ 32 → length tag ≡ 32 → bytes ≡ certificate_text first last ++ tag → found ≡ Some (record { first = first; last = last; tag = tag }))
          → found ≡ whole (certificate_at bytes)
      go (Some certificate) told fits_certificate all = sym (certificate-read bytes certificate fits_certificate told)
      go None told fits_certificate all = none (whole (certificate_at bytes)) refl where
        none : (read : Option Certificate) → whole (certificate_at bytes) ≡ read → None ≡ read
        none None e = refl
        none (Some certificate) e =
            let s = certificate-spelled bytes certificate (bytes_in-bytes digits bytes is).0 e in
            absurd (let there = all certificate.first certificate.last certificate.tag s.1.0 s.1.1 s.1.2 s.0 in cc)
