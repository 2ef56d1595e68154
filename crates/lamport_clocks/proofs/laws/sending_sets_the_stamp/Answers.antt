use Rattle.lamport_clocks.proofs.ClockLaws.{sent-at, sent-above, sent-epoch}
use Rattle.lamport_clocks.proofs.laws.sending_sets_the_stamp.Goals as goal

pub returns : goal.returns
returns c = record { stamp = sent-at; later = sent-above; epoch = sent-epoch }
