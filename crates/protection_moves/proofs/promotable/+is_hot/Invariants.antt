use Rattle.std.proofs.Common.{length}
use Rattle.protection_moves.proofs.promotable.+is_hot.Given as goal

abbrev pub decreases-is_hot : goal.decreases-is_hot
decreases-is_hot l = length l.places.now
