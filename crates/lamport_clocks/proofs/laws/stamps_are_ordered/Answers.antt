use Rattle.lamport_clocks.proofs.StampLaws.{IsLater-cmp}
use Rattle.lamport_clocks.proofs.laws.stamps_are_ordered.Goals as goal

pub returns-clause-later : goal.returns-clause-later
returns-clause-later c = IsLater-cmp
