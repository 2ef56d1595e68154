-- How far bytes are read as a bundle.
use Rattle.std.specs.Prelude.{◌≡◌, ℕ, ◌+◌, ◌-◌, List, ◌++◌, length, drop, Option, Some, None, IsTrue, if◌then◌else◌}
use Rattle.std.specs.Option.{ForNone, option_map}
use Rattle.lamport_clocks.specs.declared.header.Header.{Header}
use Rattle.bundle_frames.specs.Bundle.{bundle_of}
use Rattle.bundle_frames.specs.Progress.{Progress, rest_of, is_partial, is_bad, field_bytes}

-- behind the fields at the offset of what is bad, where they are there and bad; else the number of bytes
abbrev pub end_in : Option Header → Option ℕ → List ℕ → ℕ
end_in header None bytes = length bytes
end_in header (Some offset) bytes = if is_bad header (drop offset bytes) then offset + field_bytes header (drop offset bytes) else length bytes

-- Where reading ends: behind the fields of the first header or frame head that are there and bad. Where none are it is
-- the number of bytes, since a header or a frame that is cut is known only at their end.
abbrev pub reading_end : List ℕ → ℕ
reading_end bytes = end_in (bundle_of bytes).header (bundle_of bytes).bad bytes

-- the same offset, where so much of a bundle was read and these bytes follow
abbrev pub end_behind : Progress → List ℕ → ℕ
end_behind p left =
    let rest = rest_of p left in
    p.offset + end_in rest.header (option_map (λ offset. offset - p.offset) rest.bad) (p.held ++ left)

-- reading has not ended: the header or frame that is being read is not bad so far, and lacks bytes
pub record IsDue (p : Progress) : Type 0 where
  pub partial : IsTrue (is_partial p.header p.held)
  pub at_start : ForNone p.header (p.offset ≡ 0)
