use Rattle.multiset_sum.proofs.SumLaws.{sum_of-permutation}
use Rattle.multiset_sum.proofs.laws.order_leaves_no_trace.Goals as goal

pub returns : goal.returns
returns c = record { permutation = sum_of-permutation }
