use Rattle.merkle_records.proofs.KindLaws.{IsOf-after_add, IsOf-after_evict, IsOf-after_defer}
use Rattle.merkle_records.proofs.laws.records_stay_of_their_kinds.Goals as goal

pub returns : goal.returns
returns c = record {
  added_node = λ longest digest at k on node value digests below above kind. (IsOf-after_add longest digest at k on node value digests below above kind).0;
  added_value = λ longest digest at k on node value digests below above kind. (IsOf-after_add longest digest at k on node value digests below above kind).1;
  evicted = IsOf-after_evict;
  deferred = IsOf-after_defer;
}
