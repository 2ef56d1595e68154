use Rattle.std.proofs.Common.{suc, ◌-◌, length}
use Rattle.tree_keys.specs.Path.{key_bits}
use Rattle.host_shard.specs.Shard.{wide_in, tree_of}
use Rattle.host_shard.specs.Shown.{shown}
use Rattle.host_shard.proofs.ChainLemmas.{IsBegun}
use Rattle.host_shard.proofs.chains.chain.Given as goal

abbrev pub invariant-loop-end : goal.invariant-loop-end
invariant-loop-end l = IsBegun (tree_of (shown l.shard)) l.end l.shard.frontier l.shard.value l.links.items l.at l.ahead

abbrev pub decreases-loop-end : goal.decreases-loop-end
decreases-loop-end l = suc (key_bits (wide_in (shown l.shard))) - length l.at
