use Rattle.std.proofs.Common.{◌≡◌, ℕ, ◌+◌, ◌<◌, ◌≤◌}
use Rattle.path_index.specs.Index.{seen}
use Rattle.path_index.proofs.index.shift_up.Given as goal

abbrev pub invariant-loop-rank : goal.invariant-loop-rank
invariant-loop-rank l = record {
  low : l.from ≤ l.rank;
  before : (i : ℕ) → i ≤ l.rank → seen l.marks l.heads i ≡ seen l.fn.marks l.heads i;
  moved : (i : ℕ) → l.rank ≤ i → i < l.last → seen l.marks l.heads (i + 1) ≡ seen l.fn.marks l.heads i;
  behind : (i : ℕ) → l.last < i → seen l.marks l.heads i ≡ seen l.fn.marks l.heads i;
}
