use Rattle.host_holds.proofs.HeldLaws.{move_same}
use Rattle.host_holds.proofs.laws.a_move_leaves_what_is_held.Goals as goal

pub returns : goal.returns
returns c = record { held = move_same }
