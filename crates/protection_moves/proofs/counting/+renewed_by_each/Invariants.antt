use Rattle.std.proofs.Common.{length}
use Rattle.protection_moves.proofs.counting.+renewed_by_each.Given as goal

abbrev pub decreases-renewed_by_each : goal.decreases-renewed_by_each
decreases-renewed_by_each l = length l.records.now
