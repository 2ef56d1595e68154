use Rattle.round_order.proofs.EndLaws.{ends_rounds}
use Rattle.round_order.proofs.laws.rounds_end_so.Goals as goal

pub returns : goal.returns
returns g c = record { ends = ends_rounds }
