use Rattle.host_order.proofs.CloseLaws.{orders_close}
use Rattle.host_order.proofs.laws.a_close_has_one_order.Goals as goal

pub returns : goal.returns
returns g c = record { order = orders_close }
