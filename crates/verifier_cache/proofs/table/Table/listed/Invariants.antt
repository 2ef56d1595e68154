use Rattle.std.proofs.Common.{◌≡◌, ◌≤◌, length, vec_capacity}
use Rattle.std.specs.Prelude.{All}
use Rattle.path_index.specs.Index.{count_of}
use Rattle.verifier_cache.specs.Listed.{entries_in}
use Rattle.verifier_cache.proofs.ListedLemmas.{IsListedTo}
use Rattle.verifier_cache.proofs.table.Table.listed.Given as goal

abbrev pub invariant-loop-rank : goal.invariant-loop-rank
invariant-loop-rank l = record {
  listed : IsListedTo l.self.stored.items l.self.index l.rank (entries_in l.listed.items);
  count : length l.listed.items ≡ l.rank;
  capacity : count_of l.self.index ≤ vec_capacity l.listed;
  slots : All (λ one. one.slot ≡ 0) l.listed.items;
}
