use Rattle.lamport_clocks.proofs.ClockLaws.{received-later, sent-later, advanced-later}
use Rattle.lamport_clocks.proofs.laws.clock_never_falls.Goals as goal

pub returns : goal.returns
returns c = record { receives = received-later; sends = sent-later; advances = advanced-later }
