use Rattle.bundle_frames.specs.Extent.{IsDue}
use Rattle.text_tests.proofs.bundle_readers.frames_of.Given as goal

-- the reader has not come to an end
abbrev pub invariant-loop : goal.invariant-loop
invariant-loop g l = IsDue l.reader.progress
