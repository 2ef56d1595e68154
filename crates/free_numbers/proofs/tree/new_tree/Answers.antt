use Rattle.free_numbers.proofs.TreeLemmas.{all_leaves_free}
use Rattle.free_numbers.proofs.tree.new_tree.Goals as goal

pub returns-clause-free : goal.returns-clause-free
returns-clause-free c = all_leaves_free _ _ c.loop-node.invariant.len c.loop-node.invariant.leaf
