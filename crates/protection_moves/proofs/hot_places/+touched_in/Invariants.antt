use Rattle.std.proofs.Common.{length}
use Rattle.protection_moves.proofs.hot_places.+touched_in.Given as goal

abbrev pub decreases-touched_in : goal.decreases-touched_in
decreases-touched_in l = length l.places.now
