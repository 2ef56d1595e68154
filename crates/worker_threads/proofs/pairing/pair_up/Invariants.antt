use Rattle.std.proofs.Common.{◌≡◌, ◌≤◌, ◌++◌, map, All}
use Rattle.std.specs.Vec.Iter.{into_iter_items}
use Rattle.verifier_run.specs.Progress.{weight}
use Rattle.worker_threads.specs.Participants.{worker_in, hand_in}
use Rattle.worker_threads.specs.Pairs.{IsOpened, parcels_in, run_in}
use Rattle.worker_threads.proofs.pairing.pair_up.Given as goal

-- the workers so far are at their threads, each with its hand, and their verifiers beside them
abbrev pub invariant-loop-worker : goal.invariant-loop-worker
invariant-loop-worker l = record {
  workers : map worker_in l.pairs.items ≡ l.yielded;
  hands : map hand_in l.pairs.items ++ into_iter_items l.hands ≡ l.fn.participants.hands.items;
  parcels : map parcels_in l.pairs.items ++ into_iter_items l.parcels ≡ l.fn.participants.parcels.items;
  runs : map run_in l.pairs.items ++ into_iter_items l.runs ≡ l.fn.participants.runs.items;
  few : All (λ fed. weight fed.run ≤ l.fn.bytes) (into_iter_items l.runs);
  opened : All IsOpened l.pairs.items;
}
