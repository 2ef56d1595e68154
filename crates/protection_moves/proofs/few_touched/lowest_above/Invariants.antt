use Rattle.std.proofs.Common.{map, take}
use Rattle.tree_keys.specs.Path.{tree_of}
use Rattle.host_shard.specs.Shown.{shown_content}
use Rattle.protection_moves.specs.Promotable.{promotable_among, IsLowest}
use Rattle.protection_moves.proofs.few_touched.lowest_above.Given as goal

abbrev pub invariant-loop-path : goal.invariant-loop-path
invariant-loop-path l =
    IsLowest (promotable_among l.least l.shard.frontier (map shown_content l.places) l.shard.records)
    (tree_of l.shard.frontier) l.above (take l.path-index l.paths) l.lowest
