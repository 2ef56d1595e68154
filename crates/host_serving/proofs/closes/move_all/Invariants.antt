use Rattle.std.proofs.Common.{List}
use Rattle.log_codec.specs.declared.command.Command.{Command}
use Rattle.host_world.specs.Shown.{shown_world, digests_of}
use Rattle.host_world.specs.Behind.{host_of, StandsWith, AreOfOneHost}
use Rattle.host_serving.proofs.ClosePlanLemmas.{EachLeft}
use Rattle.host_serving.proofs.MoveLemmas.{AllBelow}
use Rattle.host_serving.proofs.closes.move_all.Given as goal

-- the workers so far have moved their shards, or their clocks ended
abbrev pub invariant-loop-mover : goal.invariant-loop-mover
invariant-loop-mover g l = record {
  host : AreOfOneHost l.initial.world l.world;
  goes_on : (logs : List (List Command)) → StandsWith (g.D.Digests.functions (digests_of l.initial.world)) l.initial.world logs
      → StandsWith (g.D.Digests.functions (digests_of l.world)) l.world logs;
  left : EachLeft (host_of (g.D.Digests.functions (digests_of l.initial.world)) l.initial.world) (shown_world l.initial.world) (shown_world l.world) l.first l.mover;
  below : AllBelow (host_of (g.D.Digests.functions (digests_of l.initial.world)) l.initial.world) (shown_world l.initial.world) (shown_world l.world) l.first l.mover;
}
