use Rattle.host_log.proofs.FramesLemmas.{frames_of-range, frames_of-joined, frames_of-apart}
use Rattle.host_log.proofs.laws.frames_join_to_the_bytes.Goals as goal

pub returns : goal.returns
returns c = record { frames = frames_of-range; joined = frames_of-joined; apart = frames_of-apart }
