-- What is told of the round of a rolling host, and its form, do not depend on what its workers have logged before.
use Rattle.std.proofs.Common.{◌≡◌, ℕ, suc, ◌<◌, ◌≤◌, ◌%◌, Bool, List, [], ◌∷◌, ◌++◌, length, get_or, Option, Some, None, sym, ◌∙◌, ap, subst}
use Rattle.std.specs.List.{AllByRecursion}
use Rattle.host_core.specs.Host.{Host}
use Rattle.host_core.specs.World.{Worker, World, fresh, worker_at}
use Rattle.host_core.specs.WorldEvent.{WorldEvent}
use Rattle.round_order.specs.Turn.{Turn, IsWorkerChain, clock_behind, in_one_order}
use Rattle.round_order.specs.Told.{IsDid, IsTaken, AreTold, RoundStop, joined, list_of, round_events, finishes_from, stop_events}
use Rattle.host_world.proofs.FrontLaws.{unlogged}
use Rattle.host_serving.specs.Loop.{KeepsToLoop}
use Rattle.host_serving.specs.Form.{AreRolling, rolling_events}

module _ {C R : Type 0} (host : Host C R) (world : World C) (workers : List Worker) (count : length workers ≡ length world.workers)
    (same : (i : ℕ) → unlogged (get_or workers i (fresh host.header)) ≡ unlogged (worker_at host world i)) where
  -- the world with other logs
  abbrev other : World C
  other = record world { workers = workers }

  -- ---- what is told

  did_other : (scans : Bool) (turn : Turn C R) (request : Option R) → IsDid host scans world turn request → IsDid host scans other turn request
  did_other scans turn None is = record {
    rolling = is.rolling;
    scanned = is.scanned;
    first = is.first;
    own = ap (λ (n : ℕ). turn.place.shard % n) count ∙ is.own;
    alone = is.alone;
    waits = is.waits;
    before = is.before;
    turned = is.turned;
    earlier = is.earlier;
    moves = is.moves;
  }
  did_other scans turn (Some request) is = is

  taken_other : (scans : Bool) (turn : Turn C R) → IsTaken host scans world turn → IsTaken host scans other turn
  taken_other scans turn is = record {
    there = subst (λ (n : ℕ). turn.worker < n) (sym count) is.there;
    at = is.at;
    running = ap (λ (w : Worker). w.stopped) (same turn.worker) ∙ is.running;
    reached = is.reached;
    near = is.near;
    alone = is.alone;
    did = did_other scans turn turn.request is.did;
  }

  all_taken : (scans : Bool) (turns : List (Turn C R)) → AllByRecursion (IsTaken host scans world) turns → AllByRecursion (IsTaken host scans other) turns
  all_taken scans [] are = tt
  all_taken scans (turn ∷ turns) are = (taken_other scans turn are.0, all_taken scans turns are.1)

  told_other : (scans : Bool) (top : ℕ) (finals : ℕ → ℕ) (lists : List (List (Turn C R))) (pasts : List (List (List (Turn C R))))
      → AreTold host scans world top finals lists pasts → AreTold host scans other top finals lists pasts
  told_other scans top finals lists pasts told = record {
    taken = all_taken scans (joined lists) told.taken;
    same = told.same;
    own_worker = told.own_worker;
    own_place = told.own_place;
    workers = λ i. subst (λ (w : Worker). IsWorkerChain host i w.clock w.served (list_of lists i)) (sym (same i)) (told.workers i);
    places = told.places;
    final = λ i within.
        subst (λ (w : Worker). ((clock_behind w.clock (list_of lists i)).at.epoch ≤ finals i) × (finals i ≤ top) × (top ≤ suc (finals i))) (sym (same i))
        (told.final i (subst (λ (n : ℕ). i < n) count within));
    ends = told.ends;
  }

  -- ---- the events

  events_other : (finals : ℕ → ℕ) (top : ℕ) (lists : List (List (Turn C R))) (stops : List RoundStop)
      → rolling_events world finals top lists stops ≡ rolling_events other finals top lists stops
  events_other finals top lists [] =
      ap (λ (n : ℕ). round_events finals n top world.newest (in_one_order (joined lists)) ++ finishes_from 0 n) (sym count)
  events_other finals top lists (stop ∷ stops) =
      ap (λ (n : ℕ). round_events finals n top world.newest (in_one_order (joined lists)) ++ stop_events (stop ∷ stops)) (sym count)

  pub rolling_other : (events : List (WorldEvent R)) → AreRolling host world events → AreRolling host other events
  rolling_other events form = record {
    top = form.top;
    finals = form.finals;
    lists = form.lists;
    pasts = form.pasts;
    stops = form.stops;
    told = told_other host.rolling form.top form.finals form.lists form.pasts form.told;
    loop = λ one. subst (λ (w : Worker). KeepsToLoop host w.served world.newest (list_of form.lists 0)) (sym (same 0)) (form.loop (sym count ∙ one));
    by_worker = form.by_worker;
    are = form.are ∙ events_other form.finals form.top form.lists form.stops;
  }
