use Rattle.std.proofs.Common.{◌≡◌, ◌++◌, map, replicate}
use Rattle.host_shard.specs.Content.{vacant}
use Rattle.host_shard.specs.Shown.{shown_content}
use Rattle.host_world.proofs.lending.add_vacant.Given as goal

-- so many vacant places have joined so far
abbrev pub invariant-loop : goal.invariant-loop
invariant-loop l = map shown_content l.contents.items ≡ map shown_content l.initial.contents.items ++ replicate l.counter vacant
