use Rattle.std.proofs.Common.{◌-◌, List}
use Rattle.log_codec.specs.declared.command.Command.{Command}
use Rattle.host_world.specs.Shown.{shown_world, digests_of}
use Rattle.host_world.specs.Behind.{host_of, StandsWith, AreOfOneHost}
use Rattle.host_serving.proofs.ClosePlanLemmas.{MovesLeft}
use Rattle.host_serving.proofs.MoveLemmas.{OwnBelow}
use Rattle.host_serving.proofs.closes.move_own.Given as goal

-- the worker's shards so far are moved
abbrev pub invariant-loop-shard : goal.invariant-loop-shard
invariant-loop-shard g l = record {
  host : AreOfOneHost l.initial.world l.world;
  goes_on : (logs : List (List Command)) → StandsWith (g.D.Digests.functions (digests_of l.initial.world)) l.initial.world logs
      → StandsWith (g.D.Digests.functions (digests_of l.world)) l.world logs;
  left : MovesLeft (host_of (g.D.Digests.functions (digests_of l.initial.world)) l.initial.world) (shown_world l.initial.world) l.worker (shown_world l.world) l.shard;
  below : OwnBelow (host_of (g.D.Digests.functions (digests_of l.initial.world)) l.initial.world) (shown_world l.initial.world) l.worker (shown_world l.world) l.shard;
}

abbrev pub decreases-loop-shard : goal.decreases-loop-shard
decreases-loop-shard g l = l.settings.shards - l.shard
