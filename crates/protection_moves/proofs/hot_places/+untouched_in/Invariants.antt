use Rattle.std.proofs.Common.{length}
use Rattle.protection_moves.proofs.hot_places.+untouched_in.Given as goal

abbrev pub decreases-untouched_in : goal.decreases-untouched_in
decreases-untouched_in l = length l.places.now
