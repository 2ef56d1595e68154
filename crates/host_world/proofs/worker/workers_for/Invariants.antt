use Rattle.std.proofs.Common.{◌≡◌, ◌-◌, ◌≤◌, ◌∷◌, map, length, replicate}
use Rattle.host_core.specs.World.{idle, fresh}
use Rattle.host_laws.specs.SettingUp.{first_clock}
use Rattle.host_world.specs.Workers.{shown_worker, AreBegun}
use Rattle.host_world.proofs.worker.workers_for.Given as goal

-- worker 0, and the others up to this number
abbrev pub invariant-loop-number : goal.invariant-loop-number
invariant-loop-number l = record {
  some : 1 ≤ l.number;
  count : length l.workers.items ≡ l.number;
  workers : map shown_worker l.workers.items ≡ idle l.fn.commands (first_clock l.header.first l.header.end l.shards) ∷ replicate (l.number - 1) (fresh l.header);
  begun : AreBegun l.header l.workers.items;
}
