use Rattle.std.proofs.Common.{length}
use Rattle.host_shard.proofs.chains.+count_known.Given as goal

abbrev pub decreases-count_known : goal.decreases-count_known
decreases-count_known l = length l.links.now
