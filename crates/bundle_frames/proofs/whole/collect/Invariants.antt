use Rattle.std.proofs.Common.{◌≡◌, ℕ, ◌+◌, ◌-◌, ◌≤◌, List, ◌++◌, length, drop}
use Rattle.bundle_frames.specs.Bundle.{with_frames}
use Rattle.bundle_frames.specs.Progress.{position, rest_of}
use Rattle.bundle_frames.specs.WholeBundle.{frames_in}
use Rattle.bundle_frames.proofs.whole.collect.Given as goal

-- what was collected, and the rest behind what is done of the piece, are what was left
abbrev pub invariant-loop-done : goal.invariant-loop-done
invariant-loop-done l = record {
  within : l.done ≤ length l.piece;
  rest : (more : List ℕ) → with_frames (frames_in l.fn.bundle) (rest_of l.fn.splitter (l.piece ++ more))
      ≡ with_frames (frames_in l.bundle) (rest_of l.splitter (drop l.done l.piece ++ more));
  header : l.bundle.header ≡ l.splitter.header;
  position : position l.splitter ≤ position l.fn.splitter + l.done;
}

abbrev pub decreases-loop-done : goal.decreases-loop-done
decreases-loop-done l = length l.piece - l.done
