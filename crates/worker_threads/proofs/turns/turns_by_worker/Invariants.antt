use Rattle.std.proofs.Common.{◌≡◌, length, map}
use Rattle.host_world.specs.Behind.{host_of}
use Rattle.host_world.specs.Shown.{shown_world, digests_of}
use Rattle.worker_threads.specs.Round.{AreAskedSo, asked_up_to}
use Rattle.worker_threads.proofs.turns.turns_by_worker.Given as goal

-- each worker has the turns that so many phases ask of it
abbrev pub invariant-loop-number : goal.invariant-loop-number
invariant-loop-number g l = record {
  count : length l.turns.items ≡ l.workers;
  asked : AreAskedSo (host_of (g.D.Digests.functions (digests_of l.world)) l.world) (shown_world l.world)
      (λ i. asked_up_to l.requests l.first i l.number) (map (λ own. own.items) l.turns.items);
}
