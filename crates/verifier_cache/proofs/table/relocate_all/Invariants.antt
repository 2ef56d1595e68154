use Rattle.std.proofs.Common.{◌≡◌, ℕ, ◌<◌, ◌≤◌, slice_index}
use Rattle.path_index.specs.Index.{mark_at, count_of, most_of, IsSound}
use Rattle.verifier_cache.proofs.table.relocate_all.Given as goal

abbrev pub invariant-loop-rank : goal.invariant-loop-rank
invariant-loop-rank l = record {
  sound : IsSound l.index;
  count : count_of l.index ≡ count_of l.fn.index;
  most : most_of l.index ≡ most_of l.fn.index;
  done : (i : ℕ) → i < l.rank → mark_at l.index i ≡ record { path = (mark_at l.fn.index i).path; at = slice_index l.targets (mark_at l.fn.index i).at };
  rest : (i : ℕ) → l.rank ≤ i → i < count_of l.fn.index → mark_at l.index i ≡ mark_at l.fn.index i;
}
