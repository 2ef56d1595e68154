-- A seal takes its counter's number.
use Rattle.std.proofs.Common.{◌≡◌, ℕ, ◌-◌, List, ◌++◌, length, take, drop, refl, sym, ap, ◌∙◌, append_assoc, length-append, arith}
use Rattle.std.specs.Int.{w32, w64, to_be_bytes}
use Rattle.std.specs.List.{flat_map}
use Rattle.std.proofs.lemmas.List.{take_at, drop_at}
use Rattle.record_hash.specs.Functions.{DigestFunctions}
use Rattle.receipts.specs.Receipts.{tagged}
use Rattle.bundle_frames.specs.Bundle.{header_text}
use Rattle.seals.specs.State.{Seal}
use Rattle.seals.specs.Run.{run_text}
use Rattle.seals.specs.Seal.{magic_number, seal_text, tag_bytes}
use Rattle.seals.specs.Numbered.{untagged, with_number, numbered}

-- what stands behind the number of a seal's text
abbrev behind_number : Seal → List ℕ
behind_number seal = (to_be_bytes w64 seal.taken ++ (header_text seal.header ++ to_be_bytes w32 seal.certified)) ++ flat_map run_text seal.runs

-- a seal's text, from its number on
from_number : (seal : Seal) (counter : ℕ) → (let s : Seal = record seal { counter = counter } in seal_text s) ≡ to_be_bytes w32 magic_number ++ (to_be_bytes w64 counter ++ behind_number seal)
from_number seal counter =
    append_assoc (to_be_bytes w32 magic_number) (to_be_bytes w64 counter ++ (to_be_bytes w64 seal.taken ++ (header_text seal.header ++ to_be_bytes w32 seal.certified))) (flat_map run_text seal.runs)
    ∙ ap (λ (t : List ℕ). to_be_bytes w32 magic_number ++ t) (append_assoc (to_be_bytes w64 counter) (to_be_bytes w64 seal.taken ++ (header_text seal.header ++ to_be_bytes w32 seal.certified)) (flat_map run_text seal.runs))

-- four bytes, a number and others: the number is put in its place
put_number : (front number behind tag : List ℕ) (counter : ℕ) → length front ≡ 4 → length number ≡ 8 → with_number counter ((front ++ (number ++ behind)) ++ tag) ≡ (front ++ (to_be_bytes w64 counter ++ behind)) ++ tag
put_number front number behind tag counter four eight =
    let whole : (front ++ (number ++ behind)) ++ tag ≡ front ++ (number ++ (behind ++ tag)) = append_assoc front (number ++ behind) tag ∙ ap (λ (t : List ℕ). front ++ t) (append_assoc number behind tag) in
    let twelve : length (front ++ number) ≡ 12 = omega (arith, length-append front number) in
    let first : take 4 ((front ++ (number ++ behind)) ++ tag) ≡ front = ap (take 4) whole ∙ take_at front (number ++ (behind ++ tag)) 4 four in
    let last : drop 12 ((front ++ (number ++ behind)) ++ tag) ≡ behind ++ tag = ap (drop 12) (whole ∙ sym (append_assoc front number (behind ++ tag))) ∙ drop_at (front ++ number) (behind ++ tag) 12 twelve in
    ap (λ (t : List ℕ). t ++ (to_be_bytes w64 counter ++ drop 12 ((front ++ (number ++ behind)) ++ tag))) first
    ∙ (ap (λ (t : List ℕ). front ++ (to_be_bytes w64 counter ++ t)) last
    ∙ (ap (λ (t : List ℕ). front ++ t) (sym (append_assoc (to_be_bytes w64 counter) behind tag)) ∙ sym (append_assoc front (to_be_bytes w64 counter ++ behind) tag)))

-- a text without the tag behind it
without_tag : (text tag : List ℕ) → length tag ≡ tag_bytes → untagged (text ++ tag) ≡ text
without_tag text tag len = take_at text tag (length (text ++ tag) - tag_bytes) (omega (arith, length-append text tag, len))

-- A seal's text with another number is the text of the seal with that number, and its tag is that text's.
pub seal_numbered : (functions : DigestFunctions) (seal : Seal) (tag : List ℕ) (number : ℕ) → length tag ≡ tag_bytes
    → numbered functions number (seal_text seal ++ tag) ≡ tagged functions (let s : Seal = record seal { counter = number } in seal_text s)
seal_numbered functions seal tag number len =
    let put : with_number number (seal_text seal ++ tag) ≡ (let s : Seal = record seal { counter = number } in seal_text s) ++ tag =
    ap (λ (t : List ℕ). with_number number (t ++ tag)) (from_number seal seal.counter)
    ∙ (put_number (to_be_bytes w32 magic_number) (to_be_bytes w64 seal.counter) (behind_number seal) tag number refl refl
    ∙ ap (λ (t : List ℕ). t ++ tag) (sym (from_number seal number))) in
    ap (λ (t : List ℕ). tagged functions (untagged t)) put
    ∙ ap (tagged functions) (without_tag (let s : Seal = record seal { counter = number } in seal_text s) tag len)
