use Rattle.std.proofs.Common.{◌≡◌, take}
use Rattle.host_shard.specs.Records.{record_at}
use Rattle.host_shard.specs.Touched.{untouched_at}
use Rattle.host_shard.proofs.changing.forget_each.Given as goal

abbrev pub invariant-loop-path : goal.invariant-loop-path
invariant-loop-path l = record_at l.map.entries ≡ untouched_at (take l.path-index l.paths) (record_at l.initial.map.entries)
