use Rattle.stamp_order.proofs.MergedLaws.{merged-permutation, merged-sorts, sorted_from_IsMerged}
use Rattle.stamp_order.proofs.laws.merging_sorts.Goals as goal

pub returns : goal.returns
returns g c = record {
  members = merged-permutation;
  in_order = merged-sorts;
  sorted = λ at xs. sorted_from_IsMerged at _ (merged-sorts at xs);
}
