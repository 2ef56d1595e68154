use Rattle.std.proofs.Common.{◌∙◌, sym, map-id, rules}
use Rattle.std.proofs.lemmas.Iterator.Adapters.{YieldsList-from_vec}
use Rattle.std.proofs.lemmas.Iterator.Consumers.{YieldsList-end}
use Rattle.std.specs.Vec.Iter.{into_iter_items}
use Rattle.worker_threads.specs.Participants.{hand_in}
use Rattle.worker_threads.specs.Pairs.{parcels_in, run_in}
use Rattle.worker_threads.proofs.ThreadLemmas.{all_ready, part_ready, worker_ready, few_left, few_first, opened_all}
use Rattle.worker_threads.proofs.pairing.pair_up.Goals as goal

pub pair_of-requires : goal.pair_of-requires
pair_of-requires c = record {
  few = few_first c.args.bytes (into_iter_items c.loop-worker.runs) (into_iter_items c.next-in-loop-worker-2.new.self) c.in-Some-next-2.run' c.loop-worker.invariant.few c.in-Some-next-2.ensures.items;
}

pub loop-worker-preserved : goal.loop-worker-preserved
loop-worker-preserved c =
    let so_far = c.loop-worker.invariant in
    let pairs = c.loop-worker.pairs.items in
    let after = c.push.new.self.items in
    let pair = c.in_ok-pair_of.field-0 in
    let made = c.in_ok-pair_of.ensures in
    let pushed = c.in_ok-push.ensures.items in
    record {
      workers = worker_ready pairs after c.loop-worker.yielded pair c.in-Some.worker so_far.workers made.worker pushed;
      hands = part_ready hand_in pairs after c.args.participants.hands.items (into_iter_items c.loop-worker.hands) (into_iter_items c.next-in-loop-worker.new.self) pair
          c.in-Some-next.hand so_far.hands c.in-Some-next.ensures.items made.hand pushed;
      runs = part_ready run_in pairs after c.args.participants.runs.items (into_iter_items c.loop-worker.runs) (into_iter_items c.next-in-loop-worker-2.new.self) pair
          c.in-Some-next-2.run' so_far.runs c.in-Some-next-2.ensures.items made.run pushed;
      parcels = part_ready parcels_in pairs after c.args.participants.parcels.items (into_iter_items c.loop-worker.parcels) (into_iter_items c.next-in-loop-worker-3.new.self) pair
          c.in-Some-next-3.count so_far.parcels c.in-Some-next-3.ensures.items made.parcels pushed;
      few = few_left c.args.bytes (into_iter_items c.loop-worker.runs) (into_iter_items c.next-in-loop-worker-2.new.self) c.in-Some-next-2.run' so_far.few c.in-Some-next-2.ensures.items;
      opened = opened_all pairs after pair so_far.opened made.opened pushed;
    }

pub returns-clause-workers : goal.returns-clause-workers
returns-clause-workers c =
    let end = YieldsList-end (YieldsList-from_vec {s = c.into_iter-worker-iterator.result} c.args.participants.workers.items (search rules) (search rules))
    c.loop-worker.yielded c.loop-worker.worker-iterator c.loop-worker.yielded_by c.next.result c.next.new.self c.in-None.is c.next.ensures.steps in
    c.loop-worker.invariant.workers ∙ sym (map-id c.loop-worker.yielded) ∙ end.0

pub returns-clause-hands : goal.returns-clause-hands
returns-clause-hands c =
    all_ready hand_in c.loop-worker.pairs.items c.args.participants.workers.items c.args.participants.hands.items (into_iter_items c.loop-worker.hands)
    (returns-clause-workers c) c.requires.hands c.loop-worker.invariant.hands

pub returns-clause-parcels : goal.returns-clause-parcels
returns-clause-parcels c =
    all_ready parcels_in c.loop-worker.pairs.items c.args.participants.workers.items c.args.participants.parcels.items (into_iter_items c.loop-worker.parcels)
    (returns-clause-workers c) c.requires.parcels c.loop-worker.invariant.parcels

pub returns-clause-runs : goal.returns-clause-runs
returns-clause-runs c =
    all_ready run_in c.loop-worker.pairs.items c.args.participants.workers.items c.args.participants.runs.items (into_iter_items c.loop-worker.runs)
    (returns-clause-workers c) c.requires.runs c.loop-worker.invariant.runs
