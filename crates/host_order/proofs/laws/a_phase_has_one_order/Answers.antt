use Rattle.host_order.proofs.PhaseLaws.{orders_phase}
use Rattle.host_order.proofs.laws.a_phase_has_one_order.Goals as goal

pub returns : goal.returns
returns g c = record { order = orders_phase }
