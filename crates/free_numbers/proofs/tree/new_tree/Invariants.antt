use Rattle.std.proofs.Common.{◌≡◌, ℕ, ◌+◌, ◌*◌, ◌<◌, ◌≤◌, length, slice_index}
use Rattle.free_numbers.specs.Tree.{IsLesser}
use Rattle.free_numbers.proofs.tree.new_tree.Given as goal

abbrev pub invariant-loop-number : goal.invariant-loop-number
invariant-loop-number l = record {
  len : length l.least.items ≡ 2 * l.bound;
  leaf : (n : ℕ) → n < l.number → slice_index l.least.items (l.bound + n) ≡ n;
}

abbrev pub invariant-loop-node : goal.invariant-loop-node
invariant-loop-node l = record {
  len : length l.least.items ≡ 2 * l.bound;
  leaf : (n : ℕ) → n < l.bound → slice_index l.least.items (l.bound + n) ≡ n;
  inner : (i : ℕ) → 1 ≤ i → l.node ≤ i → i < l.bound → IsLesser l.least.items i;
}
