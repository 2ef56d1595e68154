use Rattle.std.proofs.Common.{List}
use Rattle.log_codec.specs.declared.command.Command.{Command}
use Rattle.host_world.specs.Shown.{shown_world, digests_of}
use Rattle.host_world.specs.Behind.{host_of, StandsWith, AreOfOneHost}
use Rattle.host_serving.specs.Closing.{HaveAdvanced}
use Rattle.host_serving.proofs.ClosePlanLemmas.{AdvancesLeft}
use Rattle.host_serving.proofs.closes.advance_all.Given as goal

-- the workers so far have advanced
abbrev pub invariant-loop-worker : goal.invariant-loop-worker
invariant-loop-worker g l = record {
  host : AreOfOneHost l.initial.world l.world;
  goes_on : (logs : List (List Command)) → StandsWith (g.D.Digests.functions (digests_of l.initial.world)) l.initial.world logs
      → StandsWith (g.D.Digests.functions (digests_of l.world)) l.world logs;
  left : AdvancesLeft (host_of (g.D.Digests.functions (digests_of l.initial.world)) l.initial.world) (shown_world l.initial.world) (shown_world l.world) l.worker;
  advanced : HaveAdvanced (host_of (g.D.Digests.functions (digests_of l.initial.world)) l.initial.world) (shown_world l.initial.world) (shown_world l.world) l.worker;
}
