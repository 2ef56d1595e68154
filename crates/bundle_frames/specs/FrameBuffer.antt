-- The parts of a frame's buffer: the body that they hold, and what always holds of them.
use Rattle.std.specs.Prelude.{ℕ, ◌+◌, ◌<◌, ◌≤◌, List, length, drop}
use Rattle.std.specs.Vec.{vec_capacity}
use Rattle.bundle_frames.specs.declared.frame_buffer.FrameBuffer.TheInside.{Inside}
use Rattle.bundle_frames.specs.Bundle.{head_bytes, longest_body}

-- the bytes behind the frame's head
abbrev pub body_of : Inside → List ℕ
body_of frame = drop head_bytes frame.bytes.items

-- there is room for the longest frame, and what is there is no less than a head
pub record HasRoom (frame : Inside) : Type 0 where
  pub room : head_bytes + longest_body ≤ vec_capacity frame.bytes
  pub head : 0 < length frame.bytes.items → head_bytes ≤ length frame.bytes.items
