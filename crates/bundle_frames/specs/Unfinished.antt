-- Bytes of a header or a frame that is not whole: it lacks some, or its fields are bad.
use Rattle.std.specs.Prelude.{◌≡◌, ℕ, ◌+◌, ◌<◌, ◌≤◌, List, length, Option, None, IsTrue}
use Rattle.std.specs.Option.{ForSome, ForNone}
use Rattle.lamport_clocks.specs.declared.header.Header.{Header}
use Rattle.bundle_frames.specs.Bundle.{header_bytes_in, header_in, head_bytes, head_length, is_head}

-- at most a frame's head, or a good head and less than its whole body
pub record IsShort (header : Header) (bytes : List ℕ) : Type 0 where
  pub head : head_bytes < length bytes → IsTrue (is_head header.verifiers bytes)
  pub body : head_bytes < length bytes → length bytes < head_bytes + head_length bytes

-- where a header is due, at most its bytes, which are none; where a frame is due, a short one
pub record IsUnfinished (header : Option Header) (bytes : List ℕ) : Type 0 where
  pub short_header : ForNone header (length bytes ≤ header_bytes_in bytes)
  pub no_header : ForNone header (header_in bytes ≡ None)
  pub short_frame : ForSome header (λ h. IsShort h bytes)
