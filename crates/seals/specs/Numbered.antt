-- A seal's text with another number of the counter, and what stands where it was cut while it was written.
use Rattle.std.specs.Prelude.{◌≡◌, ℕ, ◌-◌, List, ◌++◌, length, take, drop, Option}
use Rattle.std.specs.Int.{w64, to_be_bytes}
use Rattle.record_hash.specs.Functions.{DigestFunctions}
use Rattle.receipts.specs.Receipts.{tagged}
use Rattle.fv_outside.specs.Counting.{Raises}
use Rattle.fv_outside.specs.Written.{GrowsByFront}
use Rattle.seals.specs.Seal.{tag_bytes}

-- a text without its tag
abbrev pub untagged : List ℕ → List ℕ
untagged text = take (length text - tag_bytes) text

-- a text with this number where the counter's stands, behind four bytes
abbrev pub with_number : ℕ → List ℕ → List ℕ
with_number number text = take 4 text ++ (to_be_bytes w64 number ++ drop 12 text)

-- a seal with this number, and with the tag that it then has
abbrev pub numbered : DigestFunctions → ℕ → List ℕ → List ℕ
numbered functions number text = tagged functions (untagged (with_number number text))

-- the counter was raised, the text has its number, and a front of that text was written
pub record IsCut (functions : DigestFunctions) (old new : Option ℕ) (text renumbered : List ℕ) (before after : Option (List ℕ)) : Type 0 where
  pub number : ℕ
  pub raised : Raises old new number
  pub text_is : renumbered ≡ numbered functions number text
  pub front : GrowsByFront before after renumbered
