use Rattle.bundle_frames.proofs.TextLaws.{bundle_of-text}
use Rattle.bundle_frames.proofs.laws.bundles_are_read_back.Goals as goal

pub returns : goal.returns
returns c = record { read = bundle_of-text }
