use Rattle.std.proofs.Common.{length}
use Rattle.protection_moves.proofs.counting.+ended.Given as goal

abbrev pub decreases-ended : goal.decreases-ended
decreases-ended l = length l.back.now
