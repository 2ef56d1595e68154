use Rattle.lamport_clocks.proofs.ClockLaws.{received-open, received-above, received-epoch}
use Rattle.lamport_clocks.proofs.laws.receiving_passes_the_stamp.Goals as goal

pub returns : goal.returns
returns c = record { open_epoch = received-open; later = received-above; epoch = received-epoch }
