-- The key that digits spell.
use Rattle.std.specs.Prelude.{ℕ, ◌&&◌, nat_le, List, length, Option, Some, None, Result, Ok, Err, if◌then◌else◌}
use Rattle.hex.specs.Hex.{decode_of}
use Rattle.hex.specs.declared.error.FromHexError.{FromHexError}

-- what was decoded, if it was
abbrev pub decoded : Result (List ℕ) FromHexError → Option (List ℕ)
decoded (Ok bytes) = Some bytes
decoded (Err fault) = None

-- the key that digits spell: 32 to 128 digits of either case, an even number, so 16 to 64 bytes
abbrev pub key_in : List ℕ → Option (List ℕ)
key_in digits = if nat_le 32 (length digits) && nat_le (length digits) 128 then decoded (decode_of digits) else None
