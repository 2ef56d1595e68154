use Rattle.round_order.proofs.PhaseLaws.{phases_are_rounds}
use Rattle.round_order.proofs.laws.a_phase_is_a_round.Goals as goal

pub returns : goal.returns
returns g c = record { round = phases_are_rounds }
