use Rattle.std.proofs.Common.{◌≡◌, ℕ, ◌+◌, ◌<◌, ◌≤◌}
use Rattle.path_index.specs.Index.{seen}
use Rattle.path_index.proofs.index.shift_down.Given as goal

abbrev pub invariant-loop-rank : goal.invariant-loop-rank
invariant-loop-rank l = record {
  before : (i : ℕ) → i < l.from → seen l.marks l.heads i ≡ seen l.fn.marks l.heads i;
  moved : (i : ℕ) → l.from ≤ i → i < l.rank → seen l.marks l.heads i ≡ seen l.fn.marks l.heads (i + 1);
  behind : (i : ℕ) → l.rank ≤ i → seen l.marks l.heads i ≡ seen l.fn.marks l.heads i;
}
