use Rattle.std.proofs.Common.{length}
use Rattle.host_world.proofs.lending.+exchange_all.Given as goal

abbrev pub decreases-exchange_all : goal.decreases-exchange_all
decreases-exchange_all l = length l.shards.now
