use Rattle.std.proofs.Common.{IsSome}
use Rattle.record_text.specs.Longest.{longest_blob}
use Rattle.host_shard.specs.Mirrors.{IsShard}
use Rattle.host_shard.specs.Shown.{shown}
use Rattle.host_shard.specs.Shard.{key_path_in}
use Rattle.host_tests.proofs.closes.touch.Given as goal

abbrev pub invariant-loop : goal.invariant-loop
invariant-loop g l = record {
  fits : IsShard longest_blob (shown l.shard);
  there : IsSome ((shown l.shard).records (key_path_in (shown l.shard) l.key));
}
