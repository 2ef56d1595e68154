use Rattle.bundle_frames.proofs.ResumedLaws.{ahead_resumed, end_resumed, end_no_sooner}
use Rattle.bundle_frames.proofs.laws.resumed_readings_go_on.Goals as goal

pub returns : goal.returns
returns c = record { ahead = ahead_resumed; extent = end_resumed; no_sooner = end_no_sooner }
