use Rattle.move_laws.proofs.MoveLaws.{move_runs}
use Rattle.move_laws.proofs.laws.a_move_runs.Goals as goal

pub returns : goal.returns
returns c = record { runs = move_runs }
