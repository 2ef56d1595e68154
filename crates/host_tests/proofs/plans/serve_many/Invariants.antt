use Rattle.std.proofs.Common.{[], ◌∷◌, ◌++◌, true, false}
use Rattle.tree_keys.specs.Path.{root_of}
use Rattle.host_shard.specs.Shown.{shown_content}
use Rattle.host_tests.specs.Owned.{OwnsBelow}
use Rattle.host_tests.proofs.plans.serve_many.Given as goal

abbrev pub invariant-loop : goal.invariant-loop
invariant-loop g l = record {
  low : OwnsBelow (root_of l.host.wide ++ false ∷ []) (shown_content l.host.low);
  high : OwnsBelow (root_of l.host.wide ++ true ∷ []) (shown_content l.host.high);
}
