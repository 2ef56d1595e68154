use Rattle.multiset_sum.proofs.SumLaws.{joined-comm, joined-assoc, joined-zero}
use Rattle.multiset_sum.proofs.laws.joining_adds.Goals as goal

pub returns : goal.returns
returns c = record { commutes = joined-comm; regroups = joined-assoc; zero = joined-zero }
