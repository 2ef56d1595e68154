use Rattle.std.proofs.Common.{length}
use Rattle.protection_moves.proofs.promoting.+promote_each.Given as goal

abbrev pub decreases-promote_each : goal.decreases-promote_each
decreases-promote_each g l = length l.keys.now
