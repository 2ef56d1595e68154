use Rattle.std.proofs.Common.{◌++◌, ◌∙◌, ap}
use Rattle.bundle_frames.specs.Bundle.{bundle_of, header_text}
use Rattle.host_log.specs.Frames.{frames_of_pieces}
use Rattle.host_log.proofs.FramesLemmas.{pieces-logs, pieces-range, pieces-text}
use Rattle.host_log.proofs.laws.bundles_hold_the_logs.Goals as goal

pub returns : goal.returns
returns c = record {
  bundle = λ header pieces is small are.
      ap (λ text. bundle_of (header_text header ++ text)) (pieces-text pieces)
      ∙ c.bundles_are_read_back.ensures.read header (frames_of_pieces pieces) is small (pieces-range header.verifiers pieces are);
  logs = pieces-logs;
}
