use Rattle.std.proofs.Common.{◌≡◌, ◌++◌, ℕ, List, length, map}
use Rattle.host_world.specs.Behind.{host_of}
use Rattle.host_world.specs.Shown.{shown_world, digests_of}
use Rattle.record_text.specs.declared.request.Request.{Request}
use Rattle.worker_threads.specs.Round.{AreAskedSo}
use Rattle.worker_threads.proofs.TurnLemmas.{With}
use Rattle.worker_threads.proofs.turns.add_turns.Given as goal

-- each worker has the turns that the tasks so far ask of it, behind those that it had, and with those that are left these are all
abbrev pub invariant-loop-task : goal.invariant-loop-task
invariant-loop-task g l = record {
  count : length l.turns.items ≡ length l.initial.turns.items;
  all : l.yielded ++ l.task-iterator ≡ l.fn.tasks;
  asked : (asks : ℕ → List (ℕ × Request))
      → AreAskedSo (host_of (g.D.Digests.functions (digests_of l.world)) l.world) (shown_world l.world) asks (map (λ own. own.items) l.initial.turns.items)
      → With (host_of (g.D.Digests.functions (digests_of l.world)) l.world) (shown_world l.world) asks l.phase l.yielded (map (λ own. own.items) l.turns.items);
}
