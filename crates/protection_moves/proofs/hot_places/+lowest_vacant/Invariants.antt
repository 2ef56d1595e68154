use Rattle.std.proofs.Common.{length}
use Rattle.protection_moves.proofs.hot_places.+lowest_vacant.Given as goal

abbrev pub decreases-lowest_vacant : goal.decreases-lowest_vacant
decreases-lowest_vacant l = length l.places.now
