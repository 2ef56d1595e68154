use Rattle.std.proofs.Common.{◌≡◌, ℕ, ◌<◌, length, take, slice_index, vec_capacity}
use Rattle.std.specs.List.{filter}
use Rattle.std.proofs.lemmas.List.Filters.{FiltersInPlace}
use Rattle.verifier_cache.specs.Table.{is_live}
use Rattle.verifier_cache.proofs.table.compact.Given as goal

abbrev pub invariant-loop-i : goal.invariant-loop-i
invariant-loop-i l = record {
  filters : FiltersInPlace is_live l.fn.stored.items l.stored.items l.kept l.i;
  capacity : vec_capacity l.stored ≡ vec_capacity l.fn.stored;
  noted : length l.targets.items ≡ l.i;
  targets : (j : ℕ) → j < l.i → slice_index l.targets.items j ≡ length (filter is_live (take j l.fn.stored.items));
  targets_capacity : vec_capacity l.targets ≡ vec_capacity l.fn.targets;
}
