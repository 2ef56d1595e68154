use Rattle.std.proofs.Common.{refl}
use Rattle.sha2.specs.Sha256.{hash_after}
use Rattle.lane_sha.proofs.start.Start.new.Goals as goal

pub returns : goal.returns
unfolding hash_after
returns c = record { behind = record { whole = refl; taken = refl; hash = refl } }
