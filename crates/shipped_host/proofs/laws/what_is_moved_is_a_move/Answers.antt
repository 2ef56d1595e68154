use Rattle.shipped_host.proofs.DescentLaws.{done_is_move}
use Rattle.shipped_host.proofs.laws.what_is_moved_is_a_move.Goals as goal

pub returns : goal.returns
returns c = record {
  moved = λ longest digest worker threshold stage done digests some mirrors is. done_is_move longest digest worker threshold stage digests some mirrors done is;
}
