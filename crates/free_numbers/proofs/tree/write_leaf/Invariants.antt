use Rattle.std.proofs.Common.{◌≡◌, ℕ, ◌*◌, ◌/◌, ◌<◌, ◌≤◌, drop, set, length}
use Rattle.free_numbers.specs.Tree.{IsLesser}
use Rattle.free_numbers.proofs.tree.write_leaf.Given as goal

-- each inner node is right but the parent of the one that was written last
abbrev pub invariant-climbing : goal.invariant-climbing
invariant-climbing l = record {
  some : 1 ≤ l.node;
  within : l.node < 2 * l.bound;
  len : length l.least.items ≡ 2 * l.bound;
  inner : (i : ℕ) → 1 ≤ i → i < l.bound → (i ≡ l.node / 2 → ⊥) → IsLesser l.least.items i;
  leaves : drop l.bound l.least.items ≡ set (drop l.bound l.fn.least.items) l.number l.value;
}

abbrev pub decreases-climbing : goal.decreases-climbing
decreases-climbing l = l.node
