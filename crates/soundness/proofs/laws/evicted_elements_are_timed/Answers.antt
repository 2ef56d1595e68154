use Rattle.soundness.proofs.TimedLemmas.{timely_timed}
use Rattle.soundness.proofs.RisingLaws.{timely_rising}
use Rattle.soundness.proofs.laws.evicted_elements_are_timed.Goals as goal

pub returns : goal.returns
returns c = record { timed = timely_timed; rising = timely_rising }
