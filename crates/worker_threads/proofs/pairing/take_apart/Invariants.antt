use Rattle.std.proofs.Common.{◌≡◌, map, All}
use Rattle.worker_threads.specs.Participants.{worker_in, hand_in, HaveAll}
use Rattle.worker_threads.specs.Pairs.{parcels_in, run_in}
use Rattle.worker_threads.proofs.pairing.take_apart.Given as goal

-- the workers, hands, runs and counts so far are apart
abbrev pub invariant-loop-pair : goal.invariant-loop-pair
invariant-loop-pair l = record {
  workers : l.workers.items ≡ map worker_in l.yielded;
  hands : l.hands.items ≡ map hand_in l.yielded;
  runs : l.runs.items ≡ map run_in l.yielded;
  parcels : l.parcels.items ≡ map parcels_in l.yielded;
  served : All HaveAll l.yielded;
}
