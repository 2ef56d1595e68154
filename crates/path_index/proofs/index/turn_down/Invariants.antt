use Rattle.std.proofs.Common.{◌≡◌, ℕ, ◌+◌, ◌*◌, ◌<◌, ◌≤◌}
use Rattle.path_index.specs.Index.{seen}
use Rattle.path_index.proofs.index.turn_down.Given as goal

abbrev pub invariant-loop-block : goal.invariant-loop-block
invariant-loop-block l = record {
  before : (i : ℕ) → i + 1 < l.from * 256 → seen l.marks l.heads i ≡ seen l.fn.marks l.fn.heads i;
  moved : (i : ℕ) → l.from * 256 ≤ i + 1 → i + 1 < l.block * 256 → seen l.marks l.heads i ≡ seen l.fn.marks l.fn.heads (i + 1);
  behind : (i : ℕ) → l.block * 256 ≤ i → seen l.marks l.heads i ≡ seen l.fn.marks l.fn.heads i;
}
