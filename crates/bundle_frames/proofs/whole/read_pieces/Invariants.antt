use Rattle.std.proofs.Common.{◌≡◌, ◌≤◌, length, take, drop}
use Rattle.std.specs.List.{flat_map}
use Rattle.bundle_frames.specs.Bundle.{with_frames, bundle_of}
use Rattle.bundle_frames.specs.Progress.{position, rest_of}
use Rattle.bundle_frames.specs.WholeBundle.{frames_in}
use Rattle.bundle_frames.proofs.whole.read_pieces.Given as goal

-- what was collected, and the rest behind the pieces that were fed, are the bundle
abbrev pub invariant-loop-piece : goal.invariant-loop-piece
invariant-loop-piece l = record {
  rest : with_frames (frames_in l.bundle) (rest_of l.splitter (flat_map (λ piece. piece.items) (drop l.piece-index l.pieces)))
      ≡ bundle_of (flat_map (λ piece. piece.items) l.pieces);
  header : l.bundle.header ≡ l.splitter.header;
  position : position l.splitter ≤ length (flat_map (λ piece. piece.items) (take l.piece-index l.pieces));
}
