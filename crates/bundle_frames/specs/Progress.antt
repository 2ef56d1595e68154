-- How far a bundle was read, where it comes in pieces.
use Rattle.std.specs.Prelude.{ℕ, ◌+◌, nat_le, nat_lt, ◌&&◌, ◌||◌, not, is_none, List, [], ◌∷◌, ◌++◌, length, Option, Some, None, Bool, true, false}
use Rattle.lamport_clocks.specs.declared.header.Header.{Header}
use Rattle.bundle_frames.specs.Bundle.{Bundle, bundle_of, bundle_from, header_bytes_in, header_in, head_bytes, head_length, is_head}

-- The header, once it was read; where the header or frame begins that is being read, and the bytes of it
-- that were taken; and the body of the frame that was found last, until more is read.
pub record Progress : Type 0 where
  pub header : Option Header
  pub offset : ℕ
  pub held : List ℕ
  pub body : List ℕ

-- before the first byte
abbrev pub start : Progress
start = record { header = None; offset = 0; held = []; body = [] }

-- behind so many bytes of a bundle with this header, which are whole frames to their end
abbrev pub start_behind : Header → ℕ → Progress
start_behind header offset = record { header = Some header; offset = offset; held = []; body = [] }

-- how many bytes were taken in all
abbrev pub position : Progress → ℕ
position p = p.offset + length p.held

-- what bytes mean at an offset: a bundle if no header was read yet, and else its frames from there on
abbrev pub meaning_at : Option Header → ℕ → List ℕ → Bundle
meaning_at None offset bytes = bundle_of bytes
meaning_at (Some header) offset bytes = bundle_from header offset bytes

-- what is left of the bundle, where these bytes follow
abbrev pub rest_of : Progress → List ℕ → Bundle
rest_of p bytes = meaning_at p.header p.offset (p.held ++ bytes)

-- the bytes are too few for a header or a frame, and may still become one
abbrev pub is_partial : Option Header → List ℕ → Bool
is_partial None bytes = nat_lt (length bytes) (header_bytes_in bytes)
is_partial (Some header) bytes = nat_lt (length bytes) head_bytes
    || (is_head header.verifiers bytes && nat_lt (length bytes) (head_bytes + head_length bytes))

-- how many bytes hold the fields that are tested, of a header or a frame that begins with these
abbrev pub field_bytes : Option Header → List ℕ → ℕ
field_bytes None bytes = header_bytes_in bytes
field_bytes (Some header) bytes = head_bytes

-- the fields are there, and are not those of a header or of a frame
abbrev pub is_bad : Option Header → List ℕ → Bool
is_bad None bytes = nat_le (header_bytes_in bytes) (length bytes) && is_none (header_in bytes)
is_bad (Some header) bytes = nat_le head_bytes (length bytes) && not (is_head header.verifiers bytes)

-- frames are due, and no byte of the next is there
abbrev pub is_boundary : Option Header → List ℕ → Bool
is_boundary None bytes = false
is_boundary (Some header) [] = true
is_boundary (Some header) (byte ∷ bytes) = false
