use Rattle.lamport_clocks.proofs.ClockLaws.{received-bounds, sent-bounds, advanced-bounds, received-reading, sent-reading, advanced-reading}
use Rattle.lamport_clocks.proofs.laws.clock_keeps_its_bounds.Goals as goal

pub returns : goal.returns
returns c = record {
  receives = received-bounds;
  sends = sent-bounds;
  advances = advanced-bounds;
  receives_within = received-reading;
  sends_within = sent-reading;
  advances_within = advanced-reading;
}
