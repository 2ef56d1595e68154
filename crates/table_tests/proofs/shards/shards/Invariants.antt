use Rattle.std.proofs.Common.{◌≡◌, length}
use Rattle.table_tests.specs.Ready.{AreReady}
use Rattle.table_tests.proofs.shards.shards.Given as goal

abbrev pub invariant-loop-shard : goal.invariant-loop-shard
invariant-loop-shard l = record {
  ready : AreReady l.frontiers.items l.contents.items;
  count : length l.contents.items ≡ l.shard;
}
