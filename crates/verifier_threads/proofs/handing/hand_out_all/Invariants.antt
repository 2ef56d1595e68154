use Rattle.std.proofs.Common.{◌≡◌}
use Rattle.slot_rewriting.specs.Writing.{written_logs}
use Rattle.host_core.specs.World.{logs_of}
use Rattle.host_world.specs.Shown.{shown_world}
use Rattle.host_world.specs.Behind.{AreOfOneHost}
use Rattle.verifier_threads.proofs.HandingLemmas.{front_handed_out, replaced_up_to}
use Rattle.verifier_threads.proofs.handing.hand_out_all.Given as goal

-- so many workers have handed their logs out, each into its buffer
abbrev pub invariant-loop-worker : goal.invariant-loop-worker
invariant-loop-worker g l = record {
  host : AreOfOneHost l.initial.world l.world;
  shown : shown_world l.world ≡ front_handed_out l.worker (shown_world l.initial.world);
  buffers : l.buffers ≡ replaced_up_to l.worker (written_logs l.initial.world.settings.header (logs_of (shown_world l.initial.world))) l.initial.buffers;
}
