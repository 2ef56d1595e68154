-- The parts of a splitter: the progress that they stand for, and what always holds of them.
use Rattle.std.specs.Prelude.{◌≡◌, ℕ, ◌+◌, ◌≤◌, List, [], length, drop, true, if◌then◌else◌}
use Rattle.std.specs.Option.{ForNone}
use Rattle.std.specs.Vec.{vec_capacity}
use Rattle.bundle_frames.specs.declared.splitter.Splitter.TheInside.{Inside}
use Rattle.bundle_frames.specs.Bundle.{head_bytes, longest_body}
use Rattle.bundle_frames.specs.Progress.{Progress}
use Rattle.bundle_frames.specs.Unfinished.{IsUnfinished}

-- the bytes of the header or frame that is being read: none where the buffer is a whole frame
abbrev pub bytes_held : Inside → List ℕ
bytes_held s = if s.is_whole then [] else s.buffer.items

-- the progress that the parts stand for
abbrev pub progress_of : Inside → Progress
progress_of s = record {
  header = s.header;
  offset = s.offset;
  held = bytes_held s;
  body = if s.is_whole then drop head_bytes s.buffer.items else [];
}

-- the buffer has room, and what it holds is no whole header or frame
pub record IsReady (s : Inside) : Type 0 where
  pub room : head_bytes + longest_body ≤ vec_capacity s.buffer
  pub whole_frame : s.is_whole ≡ true → head_bytes ≤ length s.buffer.items
  pub at_start : ForNone s.header (s.offset ≡ 0)
  pub unfinished : IsUnfinished s.header (bytes_held s)
