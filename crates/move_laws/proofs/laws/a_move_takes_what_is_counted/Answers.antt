use Rattle.move_laws.proofs.CounterLaws.{move_clock}
use Rattle.move_laws.proofs.laws.a_move_takes_what_is_counted.Goals as goal

pub returns : goal.returns
returns c = record { clock = move_clock }
