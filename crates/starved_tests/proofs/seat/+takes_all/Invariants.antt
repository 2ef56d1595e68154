use Rattle.std.proofs.Common.{length}
use Rattle.starved_tests.proofs.seat.+takes_all.Given as goal

abbrev pub decreases-takes_all : goal.decreases-takes_all
decreases-takes_all l = length l.places.now
