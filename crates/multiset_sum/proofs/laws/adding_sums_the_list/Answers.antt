use Rattle.std.proofs.Common.{refl}
use Rattle.multiset_sum.proofs.SumLaws.{with_lanes-sum_of, joined-sum_of}
use Rattle.multiset_sum.proofs.laws.adding_sums_the_list.Goals as goal

pub returns : goal.returns
returns c = record { none = refl; one_more = with_lanes-sum_of; both = joined-sum_of }
