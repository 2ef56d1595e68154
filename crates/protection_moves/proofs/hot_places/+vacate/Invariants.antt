use Rattle.std.proofs.Common.{length}
use Rattle.protection_moves.proofs.hot_places.+vacate.Given as goal

abbrev pub decreases-vacate : goal.decreases-vacate
decreases-vacate l = length l.records.now
