use Rattle.round_order.proofs.RoundLaws.{orders_round}
use Rattle.round_order.proofs.laws.a_round_has_one_order.Goals as goal

pub returns : goal.returns
returns g c = record { order = orders_round }
