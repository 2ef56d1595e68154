-- A text and its padding, as the last of a message whose front has been taken in already (FIPS 180-4, 5.1.1).
use Rattle.std.specs.Prelude.{ℕ, ◌+◌, ◌*◌, ◌/◌, List, ◌++◌, length, take, drop}
use Rattle.sha2.specs.Sha256.{padding}

-- the text with the padding of a message that has so many bytes before it
abbrev pub padded_behind : ℕ → List ℕ → List ℕ
padded_behind taken text = text ++ padding (taken + length text)

-- how many blocks the padded text is, behind whole blocks: nine bytes at least are put behind it
abbrev pub block_count : List ℕ → ℕ
block_count text = (length text + 72) / 64

-- the block of that number, counted from 0
abbrev pub padded_block : ℕ → List ℕ → ℕ → List ℕ
padded_block taken text number = take 64 (drop (number * 64) (padded_behind taken text))
