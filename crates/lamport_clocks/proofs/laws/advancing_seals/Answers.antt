use Rattle.lamport_clocks.proofs.ClockLaws.{advanced-seals, advanced-closed, advanced-at}
use Rattle.lamport_clocks.proofs.laws.advancing_seals.Goals as goal

pub returns : goal.returns
returns c = record { sealed = advanced-seals; closed = advanced-closed; start = advanced-at }
