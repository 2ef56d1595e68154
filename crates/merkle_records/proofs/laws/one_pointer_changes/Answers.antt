use Rattle.merkle_records.proofs.KindLaws.{node_side-with_side, node_side-with_other}
use Rattle.merkle_records.proofs.laws.one_pointer_changes.Goals as goal

pub returns : goal.returns
returns c = record {
  evicted = λ digest node on k value. node_side-with_side node on _;
  deferred = λ node on. node_side-with_side node on _;
  evicted_other = λ digest node on k value. node_side-with_other node on _;
  deferred_other = λ node on. node_side-with_other node on _;
}
