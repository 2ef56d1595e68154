use Rattle.std.proofs.Common.{◌≡◌, ℕ, ◌+◌, ◌-◌, ◌*◌, ◌<◌, ◌≤◌}
use Rattle.path_index.specs.Index.{seen}
use Rattle.path_index.proofs.index.turn_up.Given as goal

abbrev pub invariant-loop-block : goal.invariant-loop-block
invariant-loop-block l = record {
  before : (i : ℕ) → i < l.from * 256 → seen l.marks l.heads i ≡ seen l.fn.marks l.fn.heads i;
  opening : l.from ≡ l.block → l.carried ≡ l.fn.mark;
  first : l.from < l.block → seen l.marks l.heads (l.from * 256) ≡ l.fn.mark;
  moved : (i : ℕ) → l.from * 256 ≤ i → i + 1 < l.block * 256 → seen l.marks l.heads (i + 1) ≡ seen l.fn.marks l.fn.heads i;
  carried : l.from < l.block → l.carried ≡ seen l.fn.marks l.fn.heads (l.block * 256 - 1);
  behind : (i : ℕ) → l.block * 256 ≤ i → seen l.marks l.heads i ≡ seen l.fn.marks l.fn.heads i;
}
