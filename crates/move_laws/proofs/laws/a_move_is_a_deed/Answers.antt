use Rattle.move_laws.proofs.DeedLaws.{move_deed, clear_move}
use Rattle.move_laws.proofs.laws.a_move_is_a_deed.Goals as goal

pub returns : goal.returns
returns c = record { deed = move_deed; clear = clear_move }
