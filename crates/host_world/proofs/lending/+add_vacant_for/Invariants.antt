use Rattle.std.proofs.Common.{length}
use Rattle.host_world.proofs.lending.+add_vacant_for.Given as goal

abbrev pub decreases-add_vacant_for : goal.decreases-add_vacant_for
decreases-add_vacant_for l = length l.shards.now
