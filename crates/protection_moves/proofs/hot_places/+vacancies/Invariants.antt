use Rattle.std.proofs.Common.{length}
use Rattle.protection_moves.proofs.hot_places.+vacancies.Given as goal

abbrev pub decreases-vacancies : goal.decreases-vacancies
decreases-vacancies l = length l.places.now
