use Rattle.std.proofs.Common.{length}
use Rattle.starved_tests.proofs.seat.+owns_all.Given as goal

abbrev pub decreases-owns_all : goal.decreases-owns_all
decreases-owns_all l = length l.places.now
