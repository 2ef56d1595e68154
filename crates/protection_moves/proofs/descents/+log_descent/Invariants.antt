use Rattle.std.proofs.Common.{length}
use Rattle.protection_moves.proofs.descents.+log_descent.Given as goal

abbrev pub decreases-log_descent : goal.decreases-log_descent
decreases-log_descent l = length l.links.now
