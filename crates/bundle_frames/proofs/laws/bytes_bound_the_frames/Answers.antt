use Rattle.bundle_frames.proofs.BundleLaws.{frames_up_to-enough}
use Rattle.bundle_frames.proofs.laws.bytes_bound_the_frames.Goals as goal

pub returns : goal.returns
returns c = record { enough = frames_up_to-enough }
