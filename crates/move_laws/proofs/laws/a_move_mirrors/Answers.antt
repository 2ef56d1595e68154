use Rattle.move_laws.proofs.MoveLaws.{move_mirrors}
use Rattle.move_laws.proofs.laws.a_move_mirrors.Goals as goal

pub returns : goal.returns
returns c = record { mirrors = move_mirrors }
