-- What the events of a phase make of a world with one worker: each request that it serves is a deed.
use Rattle.std.proofs.Common.{◌≡◌, ◌⊎◌, inl, inr, ℕ, zero, suc, ◌+◌, ◌<◌, ◌≤◌, true, false, List, [], ◌∷◌, ◌++◌, map, length, drop, get_or, set, slice_get, Option, Some, None, is_none, if◌then◌else◌, refl, sym, ◌∙◌, ap, subst, arith}
use Rattle.std.proofs.lemmas.Bool.{true≢false}
use Rattle.std.proofs.lemmas.Option.{none-some, same_Some}
use Rattle.std.proofs.lemmas.List.{length-map, length-set, map-set, get_or-map}
use Rattle.host_core.specs.Host.{Host, Done, asked, asked_from}
use Rattle.host_core.specs.World.{Place, Worker, Seats, World, unmoved}
use Rattle.host_core.specs.WorldEvent.{WorldEvent, takes, serves, gives, IsPhaseOver, IsEnabled, AreEnabled, MayServe, after_serve, step, run_events}
use Rattle.host_order.specs.Serving.{Serving, replay}
use Rattle.host_order.specs.Told.{Stop, replay_stops}
use Rattle.host_world.specs.declared.fault.ClockEnd.{ClockEnd}
use Rattle.host_world.specs.Ending.{end_of}
use Rattle.host_serving.specs.Leading.{first_of, first_end}
use Rattle.round_order.specs.Steady.{IsSteady}
use Rattle.one_worker.specs.Deeds.{Deed, served_in, acts_of, Standing, IsServed, AreDone}
use Rattle.one_worker.proofs.LoopLemmas.{head_of, tail_of, left_is, asked_later}

-- ---- events that go on, and none is an end

module _ {C R : Type 0} (host : Host C R) where
  abbrev pub Goes : World C → List (WorldEvent R) → Type 0
  Goes world [] = Unit {0}
  Goes world (event ∷ events) = IsEnabled host world event × (end_of host world event ≡ None) × Goes (step host world event) events

  none_first : (x y : Option ClockEnd) → first_of x y ≡ None → (x ≡ None) × (y ≡ None)
  none_first None y is = (refl, is)
  none_first (Some end) y is = absurd (none-some end (sym is))

  pub goes_from : (world : World C) (events : List (WorldEvent R)) → AreEnabled host world events → first_end host world events ≡ None → Goes world events
  goes_from world [] enabled unended = tt
  goes_from world (event ∷ events) enabled unended =
      let parts = none_first (end_of host world event) (first_end host (step host world event) events) unended in
      (enabled.0, parts.0, goes_from (step host world event) events enabled.1 parts.1)

  pub goes_front : (world : World C) (xs ys : List (WorldEvent R)) → Goes world (xs ++ ys) → Goes world xs
  goes_front world [] ys goes = tt
  goes_front world (x ∷ xs) ys goes = (goes.0, goes.1, goes_front (step host world x) xs ys goes.2)

  pub goes_behind : (world : World C) (xs ys : List (WorldEvent R)) → Goes world (xs ++ ys) → Goes (run_events host world xs) ys
  goes_behind world [] ys goes = goes
  goes_behind world (x ∷ xs) ys goes = goes_behind (step host world x) xs ys goes.2

  pub goes_unended : (world : World C) (events : List (WorldEvent R)) → Goes world events → first_end host world events ≡ None
  goes_unended world [] goes = refl
  goes_unended world (event ∷ events) goes =
      ap (λ (e : Option ClockEnd). first_of e (first_end host (step host world event) events)) goes.1
      ∙ goes_unended (step host world event) events goes.2

-- what is there, where it is not none
pub some_there : {X Y : Type 0} (o : Option X) (end : Y) → ◌≡◌ {A = Option Y} (if is_none o then Some end else None) None → (x : X) × (o ≡ Some x)
some_there None end is = absurd (none-some end (sym is))
some_there (Some x) end is = (x, refl)

-- ---- the events of a phase as one list

pub as_stops : {C R : Type 0} (servings : List (Serving C R)) (stops : List (Stop R)) → (all : List (Stop R)) × (replay servings ++ replay_stops stops ≡ replay_stops all)
as_stops [] stops = (stops, refl)
as_stops {C} {R} (serving ∷ servings) stops =
    let rest = as_stops servings stops in (
      record { place = serving.place; worker = serving.worker; request = serving.request } ∷ rest.0,
      ap (λ (events : List (WorldEvent R)). takes serving.worker serving.place ∷ serves serving.worker serving.place serving.request ∷ gives serving.worker serving.place ∷ events) rest.1,
    )

-- ---- a world with one worker

module _ {C R : Type 0} (host : Host C R) where
  -- a world with these shards and this worker alone
  abbrev pub one_world : World C → List (Seats C) → Worker → World C
  one_world base shards worker = record base { shards = shards; workers = worker ∷ [] }

  -- how it stands
  abbrev pub stands : List (Seats C) → Worker → Standing C
  stands shards worker = record { shards = map (λ shard. shard.contents) shards; clock = worker.clock; log = worker.log }

  pub seats_in : (shards : List (Seats C)) (s : ℕ) → s < length shards → get_or (map (λ shard. shard.contents) shards) s [] ≡ (get_or shards s (unmoved [])).contents
  seats_in shards s there = get_or-map (λ (shard : Seats C). shard.contents) shards s (unmoved []) [] there

  -- deeds behind deeds
  pub done_then : (xs ys : List (Deed R)) (from middle to : Standing C) → AreDone (acts_of host) from xs middle → AreDone (acts_of host) middle ys to
      → AreDone (acts_of host) from (xs ++ ys) to
  done_then [] ys from middle to one two = subst (λ (w : Standing C). AreDone (acts_of host) w ys to) (sym one) two
  done_then (x ∷ xs) ys from middle to one two = (one.0, one.1, done_then xs ys one.0 middle to one.2 two)

  -- What a part of a run comes to: another standing of the one worker, by these deeds.
  pub record ComesTo (base later : World C) (shards : List (Seats C)) (worker : Worker) (events : List (WorldEvent R)) (deeds : List (Deed R)) : Type 0 where
    pub shards_then : List (Seats C)
    pub worker_then : Worker
    pub run : run_events host (one_world base shards worker) events ≡ one_world later shards_then worker_then
    pub done : AreDone (acts_of host) (stands shards worker) deeds (stands shards_then worker_then)
    pub count : length shards_then ≡ length shards
    pub running : worker_then.stopped ≡ worker.stopped

  module _ (steady : IsSteady host true) where
    -- the worker behind a served request
    abbrev served_worker : Worker → Done C → Worker
    served_worker worker done = record worker { log = worker.log ++ done.commands; clock = done.clock; served = suc worker.served; holds = None }

    abbrev served_seats : List (Seats C) → Place → Done C → List (Seats C)
    served_seats shards place done =
        set shards place.shard (record (get_or shards place.shard (unmoved [])) { contents = set (get_or shards place.shard (unmoved [])).contents place.seat done.after })

    -- one request is served
    module _ (base : World C) (shards : List (Seats C)) (worker : Worker) (place : Place) (request : R) (more : List (WorldEvent R))
        (goes : Goes host (one_world base shards worker) (takes 0 place ∷ serves 0 place request ∷ gives 0 place ∷ more)) where
      abbrev contents : List C
      contents = (get_or shards place.shard (unmoved [])).contents

      may : MayServe host (step host (one_world base shards worker) (takes 0 place)) 0 place request
      may = goes.2.0

      found : (done : Done C) × (host.serve 0 worker.clock (get_or contents place.seat host.vacant) request ≡ Some done)
      found = some_there (host.serve 0 worker.clock (get_or contents place.seat host.vacant) request) _ goes.2.1

      step_is : step host (step host (one_world base shards worker) (takes 0 place)) (serves 0 place request)
          ≡ one_world base (served_seats shards place found.0) (record worker { log = worker.log ++ found.0.commands; clock = found.0.clock; served = suc worker.served; holds = Some (record { place = place; used = true }) })
      step_is = ap (λ (o : Option (Done C)). after_serve (step host (one_world base shards worker) (takes 0 place)) 0
          (record worker { holds = Some (record { place = place; used = false }) }) place (get_or shards place.shard (unmoved [])) o) found.1

      served_run : run_events host (one_world base shards worker) (takes 0 place ∷ serves 0 place request ∷ gives 0 place ∷ [])
          ≡ one_world base (served_seats shards place found.0) (served_worker worker found.0)
      served_run = ap (λ (w : World C). step host w (gives 0 place)) step_is

      served_goes : Goes host (one_world base (served_seats shards place found.0) (served_worker worker found.0)) more
      served_goes = subst (λ (w : World C). Goes host w more) served_run goes.2.2.2

      there : place.shard < length shards
      there = may.there.0

      served_deed : IsServed (acts_of host) (stands shards worker) request (stands (served_seats shards place found.0) (served_worker worker found.0))
      served_deed = record {
        place = place;
        done = found.0;
        there = omega (arith, there, length-map shards (λ (shard : Seats C). shard.contents));
        seated = subst (λ (cs : List C). place.seat < length cs) (sym (seats_in shards place.shard there)) may.there.1;
        owns = ap (λ (cs : List C). host.owns place.shard cs place.seat request) (seats_in shards place.shard there) ∙ may.owns;
        serves = ap (λ (cs : List C). host.serve 0 worker.clock (get_or cs place.seat host.vacant) request) (seats_in shards place.shard there) ∙ found.1;
        is = λ k. record {
          shards = (map-set (λ (shard : Seats C). shard.contents) shards place.shard (record (get_or shards place.shard (unmoved [])) { contents = set contents place.seat found.0.after })
              ∙ ap (λ (cs : List C). set (map (λ shard. shard.contents) shards) place.shard (set cs place.seat found.0.after)) (sym (seats_in shards place.shard there))) k;
          clock = found.0.clock;
          log = worker.log ++ found.0.commands;
        };
      }

      served_epoch : found.0.clock.at.epoch ≡ worker.clock.at.epoch
      served_epoch = (steady.serves_on 0 worker.clock (get_or contents place.seat host.vacant) request found.0
          (steady.waits place.shard place.seat contents request may.owns) found.1).epoch

      served_count : length (served_seats shards place found.0) ≡ length shards
      served_count = length-set shards place.shard (record (get_or shards place.shard (unmoved [])) { contents = set contents place.seat found.0.after })

    -- ---- a phase

    -- What is left to ask: these requests of the phase, and those of the phases behind it.
    abbrev pub IsLeft : World C → Worker → List (ℕ × R) → List (List (ℕ × R)) → Type 0
    IsLeft base worker own script = drop worker.served (asked host 0) ≡ map (λ turn. (base.phase, turn.1)) own ++ asked_from 0 (suc base.phase) script

    pub record PhaseComesTo (base : World C) (shards : List (Seats C)) (worker : Worker) (events : List (WorldEvent R)) (own : List (ℕ × R)) (script : List (List (ℕ × R))) : Type 0 where
      pub comes : ComesTo base base shards worker events (served_in own)
      pub left : drop comes.worker_then.served (asked host 0) ≡ asked_from 0 (suc base.phase) script
      pub epoch : comes.worker_then.clock.at.epoch ≡ worker.clock.at.epoch

    -- the request that is served is the next of the phase
    next_served : (base : World C) (worker : Worker) (own : List (ℕ × R)) (script : List (List (ℕ × R))) (phase : ℕ) (request : R) → IsLeft base worker own script
        → worker.clock.at.epoch ≡ host.header.first + base.phase → slice_get (asked host 0) worker.served ≡ Some (phase, request)
        → host.header.first + phase ≤ worker.clock.at.epoch → (rest : List (ℕ × R)) × (ask : ℕ × R) × (own ≡ ask ∷ rest) × (request ≡ ask.1)
    next_served base worker [] script phase request left epoch next begun =
        let head = left_is' in absurd (omega (arith, asked_later script (suc base.phase) phase request head.0 (sym left ∙ head.1), epoch, begun))
      where
        left_is' : (ys : List (ℕ × R)) × (drop worker.served (asked host 0) ≡ (phase, request) ∷ ys)
        left_is' = left_is (asked host 0) worker.served (phase, request) next
    next_served base worker (ask ∷ rest) script phase request left epoch next begun = (
      rest,
      ask,
      refl,
      ap (λ (a : ℕ × R). a.1) (same_Some (phase, request) (base.phase, ask.1)
          (sym next ∙ head_of (asked host 0) worker.served (base.phase, ask.1) (map (λ turn. (base.phase, turn.1)) rest ++ asked_from 0 (suc base.phase) script) left)),
    )

    phase_on : (turns : List (Stop R)) (base : World C) (shards : List (Seats C)) (worker : Worker) (own : List (ℕ × R)) (script : List (List (ℕ × R)))
        → Goes host (one_world base shards worker) (replay_stops turns) → IsPhaseOver host (run_events host (one_world base shards worker) (replay_stops turns))
        → worker.stopped ≡ false → worker.clock.at.epoch ≡ host.header.first + base.phase → IsLeft base worker own script
        → PhaseComesTo base shards worker (replay_stops turns) own script
    phase_on [] base shards worker [] script goes over running epoch left = record {
      comes = record { shards_then = shards; worker_then = worker; run = refl; done = refl; count = refl; running = refl };
      left = left;
      epoch = refl;
    }
    phase_on [] base shards worker (ask ∷ own) script goes over running epoch left = go (over 0 (omega arith)).1
      where
        go : (worker.stopped ≡ true) ⊎ ((request : R) → slice_get (asked host 0) worker.served ≡ Some (base.phase, request) → ⊥)
            → PhaseComesTo base shards worker [] (ask ∷ own) script
        go (inl is) = absurd (true≢false (sym is ∙ running))
        go (inr none') = absurd (none' ask.1 (head_of (asked host 0) worker.served (base.phase, ask.1) (map (λ turn. (base.phase, turn.1)) own ++ asked_from 0 (suc base.phase) script) left))
    phase_on (turn ∷ turns) base shards worker own script goes over running epoch left =
        go turn.worker turn.place turn.request goes over (phase_on turns)
      where
        go : (i : ℕ) (place : Place) (request : R)
            → Goes host (one_world base shards worker) (takes i place ∷ serves i place request ∷ gives i place ∷ replay_stops turns)
            → IsPhaseOver host (run_events host (one_world base shards worker) (takes i place ∷ serves i place request ∷ gives i place ∷ replay_stops turns))
            → ((base : World C) (shards : List (Seats C)) (worker : Worker) (own : List (ℕ × R)) (script : List (List (ℕ × R)))
            → Goes host (one_world base shards worker) (replay_stops turns) → IsPhaseOver host (run_events host (one_world base shards worker) (replay_stops turns))
            → worker.stopped ≡ false → worker.clock.at.epoch ≡ host.header.first + base.phase → IsLeft base worker own script
            → PhaseComesTo base shards worker (replay_stops turns) own script)
            → PhaseComesTo base shards worker (takes i place ∷ serves i place request ∷ gives i place ∷ replay_stops turns) own script
        go (suc i) place request goes over again = absurd (omega (arith, goes.0.serving.there))
        go zero place request goes over again = subst (λ (asks : List (ℕ × R)). PhaseComesTo base shards worker events asks script) (sym next.2) (record {
          comes = record {
            shards_then = rest.comes.shards_then;
            worker_then = rest.comes.worker_then;
            run = ap (λ (w : World C). run_events host w (replay_stops turns)) (served_run base shards worker place request (replay_stops turns) goes) ∙ rest.comes.run;
            done = (
              stands later_shards later,
              subst (λ (r : R). IsServed (acts_of host) (stands shards worker) r (stands later_shards later)) next.3 (served_deed base shards worker place request (replay_stops turns) goes),
              rest.comes.done,
            );
            count = rest.comes.count ∙ served_count base shards worker place request (replay_stops turns) goes;
            running = rest.comes.running;
          };
          left = rest.left;
          epoch = rest.epoch ∙ served_epoch base shards worker place request (replay_stops turns) goes;
        })
          where
            events : List (WorldEvent R)
            events = takes 0 place ∷ serves 0 place request ∷ gives 0 place ∷ replay_stops turns

            next : (rest : List (ℕ × R)) × (ask : ℕ × R) × (own ≡ ask ∷ rest) × (request ≡ ask.1)
            next = next_served base worker own script (may base shards worker place request (replay_stops turns) goes).due.phase request left epoch
                (may base shards worker place request (replay_stops turns) goes).due.next (may base shards worker place request (replay_stops turns) goes).due.begun

            later : Worker
            later = served_worker worker (found base shards worker place request (replay_stops turns) goes).0

            later_shards : List (Seats C)
            later_shards = served_seats shards place (found base shards worker place request (replay_stops turns) goes).0

            rest : PhaseComesTo base later_shards later (replay_stops turns) next.0 script
            rest = again base later_shards later next.0 script (served_goes base shards worker place request (replay_stops turns) goes)
                (subst (λ (w : World C). IsPhaseOver host (run_events host w (replay_stops turns))) (served_run base shards worker place request (replay_stops turns) goes) over)
                running (served_epoch base shards worker place request (replay_stops turns) goes ∙ epoch)
                (tail_of (asked host 0) worker.served (base.phase, next.1.1) (map (λ turn. (base.phase, turn.1)) next.0 ++ asked_from 0 (suc base.phase) script)
                (left ∙ ap (λ (asks : List (ℕ × R)). map (λ turn. (base.phase, turn.1)) asks ++ asked_from 0 (suc base.phase) script) next.2))

    -- The events of a phase that is over behind them are its requests.
    pub phase_comes : (servings : List (Serving C R)) (stops : List (Stop R)) (events : List (WorldEvent R)) (base : World C) (shards : List (Seats C)) (worker : Worker)
        (own : List (ℕ × R)) (script : List (List (ℕ × R))) → events ≡ replay servings ++ replay_stops stops
        → Goes host (one_world base shards worker) events → IsPhaseOver host (run_events host (one_world base shards worker) events)
        → worker.stopped ≡ false → worker.clock.at.epoch ≡ host.header.first + base.phase → IsLeft base worker own script
        → PhaseComesTo base shards worker events own script
    phase_comes servings stops events base shards worker own script are goes over running epoch left =
        let all = as_stops servings stops in
        let same : events ≡ replay_stops all.0 = are ∙ all.1 in
        subst (λ (es : List (WorldEvent R)). PhaseComesTo base shards worker es own script) (sym same)
        (phase_on all.0 base shards worker own script (subst (Goes host (one_world base shards worker)) same goes)
        (subst (λ (es : List (WorldEvent R)). IsPhaseOver host (run_events host (one_world base shards worker) es)) same over) running epoch left)
