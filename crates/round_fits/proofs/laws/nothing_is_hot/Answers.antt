use Rattle.round_fits.proofs.VacantLaws.{nothing_hot}
use Rattle.round_fits.proofs.laws.nothing_is_hot.Goals as goal

pub returns : goal.returns
returns c = record { vacant = λ functions settings script events cold_only enabled. nothing_hot functions settings script cold_only events enabled }
