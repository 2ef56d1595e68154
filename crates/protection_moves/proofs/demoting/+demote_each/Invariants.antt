use Rattle.std.proofs.Common.{length}
use Rattle.protection_moves.proofs.demoting.+demote_each.Given as goal

abbrev pub decreases-demote_each : goal.decreases-demote_each
decreases-demote_each g l = length l.back.now
