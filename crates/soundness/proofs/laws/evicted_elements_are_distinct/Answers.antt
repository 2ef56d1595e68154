use Rattle.soundness.proofs.DistinctLemmas.{timely_distinct, order_distinct}
use Rattle.soundness.proofs.laws.evicted_elements_are_distinct.Goals as goal

pub returns : goal.returns
returns c = record { of_one = timely_distinct; of_all = order_distinct }
