use Rattle.std.proofs.Common.{length}
use Rattle.host_shard.proofs.rehashing.+rehash.Given as goal

abbrev pub decreases-rehash : goal.decreases-rehash
decreases-rehash g l = length l.links.now
