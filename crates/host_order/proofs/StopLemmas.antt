-- Stops, replayed: each a take, a serve that ends its worker's clock, and a give.
use Rattle.std.proofs.Common.{◌≡◌, ◌≢◌, ◌⊎◌, ℕ, ◌+◌, ◌<◌, ◌≤◌, ◌==◌, ◌||◌, Bool, true, false, List, [], ◌∷◌, length, slice_get, Option, Some, None, refl, sym, ◌∙◌, ap, subst, inl, inr}
use Rattle.std.specs.List.{AllByRecursion}
use Rattle.std.proofs.lemmas.Bool.{cases_eq, eq-eqb, ne_eqb}
use Rattle.std.proofs.lemmas.Option.{none-some}
use Rattle.std.proofs.lemmas.List.{length-set, get_or-set_same, get_or-set_other, set-set}
use Rattle.host_core.specs.Host.{Host, Done, asked}
use Rattle.host_core.specs.World.{Place, Worker, World, fresh, worker_at, shard_at}
use Rattle.host_core.specs.WorldEvent.{WorldEvent, takes, serves, gives, with_worker, after_serve, step, AreUpTo, IsServing, MayTake, MayServe, MayGive, AreEnabled, run_events}
use Rattle.host_order.specs.Serving.{content_at}
use Rattle.host_order.specs.Told.{IsOpenTo, Stop, AreOfOthers, AreEnded, replay_stops, stops_by}
use Rattle.round_order.proofs.TurnLaws.{IsIdle}

module _ {C R : Type 0} (host : Host C R) where
  -- ---- one stop

  -- the worker's next request ends its clock, here and now
  pub record IsStop (world : World C) (stop : Stop R) : Type 0 where
    pub may : IsOpenTo host world stop.worker stop.place stop.request
    pub next : slice_get (asked host stop.worker) (worker_at host world stop.worker).served ≡ Some (world.phase, stop.request)
    pub begun : host.header.first + world.phase ≤ (worker_at host world stop.worker).clock.at.epoch
    pub reached : AreUpTo (worker_at host world stop.worker).clock.at.epoch (host.pending (content_at host world stop.place))
    pub ends : host.serve stop.worker (worker_at host world stop.worker).clock (content_at host world stop.place) stop.request ≡ None

  abbrev pub stopped_worker : Worker → Worker
  stopped_worker worker = record worker { holds = None; stopped = true }

  -- the world behind a stop
  abbrev pub after_stop : World C → Stop R → World C
  after_stop world stop = with_worker world stop.worker (stopped_worker (worker_at host world stop.worker))

  module _ (world : World C) (idle : IsIdle host world) (stop : Stop R) (is : IsStop world stop) where
    abbrev i : ℕ
    i = stop.worker

    abbrev worker : Worker
    worker = worker_at host world stop.worker

    -- the worker while it holds the place, and once its clock has ended there
    abbrev holding : Worker
    holding = record worker { holds = Some (record { place = stop.place; used = false }) }

    abbrev ended : Worker
    ended = record worker { holds = Some (record { place = stop.place; used = false }); stopped = true }

    there : i < length world.workers
    there = is.may.there

    same-at : (worker : Worker) → worker_at host (with_worker world i worker) i ≡ worker
    same-at worker = get_or-set_same world.workers i worker (fresh host.header) there

    serve_is : step host (with_worker world i holding) (serves i stop.place stop.request) ≡ with_worker world i ended
    serve_is =
        ap (λ (w : Worker). after_serve (with_worker world i holding) i w stop.place (shard_at world stop.place.shard)
        (host.serve i w.clock (content_at host world stop.place) stop.request)) (same-at holding)
        ∙ ap (λ (o : Option (Done C)). after_serve (with_worker world i holding) i holding stop.place (shard_at world stop.place.shard) o) is.ends
        ∙ ap (λ (ws : List Worker). record world { workers = ws }) (set-set world.workers i holding ended)

    give_is : step host (with_worker world i ended) (gives i stop.place) ≡ after_stop world stop
    give_is =
        ap (λ (w : Worker). with_worker (with_worker world i ended) i (record w { holds = None })) (same-at ended)
        ∙ ap (λ (ws : List Worker). record world { workers = ws }) (set-set world.workers i ended (stopped_worker worker))

    all_is : step host (step host (with_worker world i holding) (serves i stop.place stop.request)) (gives i stop.place) ≡ after_stop world stop
    all_is = ap (λ (w : World C). step host w (gives i stop.place)) serve_is ∙ give_is

    there_with : (worker : Worker) → IsServing host (with_worker world i worker) i
    there_with worker = record {
      going = idle.going;
      phase = idle.phase;
      there = subst (λ (n : ℕ). i < n) (sym (length-set world.workers i worker)) there;
    }

    -- The three events are enabled, and lead to that world.
    pub stop_enabled : (events : List (WorldEvent R)) → AreEnabled host (after_stop world stop) events
        → AreEnabled host world (takes i stop.place ∷ serves i stop.place stop.request ∷ gives i stop.place ∷ events)
    stop_enabled events rest = (may_take, (may_serve, (may_give, subst (λ (w : World C). AreEnabled host w events) (sym all_is) rest)))
      where
        may_take : MayTake host world i stop.place
        may_take = record {
          serving = record { going = idle.going; phase = idle.phase; there = there };
          there = is.may.at;
          free = λ j used within holds. none-some (record { place = stop.place; used = used }) (sym (idle.idle j within) ∙ holds);
          empty = idle.idle i there;
          running = is.may.running;
        }

        may_serve : MayServe host (with_worker world i holding) i stop.place stop.request
        may_serve = record {
          serving = there_with holding;
          there = is.may.at;
          holds = ap (λ (w : Worker). w.holds) (same-at holding);
          due = record {
            phase = world.phase;
            next = ap (λ (w : Worker). slice_get (asked host i) w.served) (same-at holding) ∙ is.next;
            begun = subst (λ (w : Worker). host.header.first + world.phase ≤ w.clock.at.epoch) (sym (same-at holding)) is.begun;
            reached = subst (λ (w : Worker). AreUpTo w.clock.at.epoch (host.pending (content_at host world stop.place))) (sym (same-at holding)) is.reached;
          };
          owns = is.may.owns;
        }

        may_give : MayGive host (step host (with_worker world i holding) (serves i stop.place stop.request)) i stop.place
        may_give = subst (λ (w : World C). MayGive host w i stop.place) (sym serve_is)
            (record { serving = there_with ended; holds = (false, ap (λ (w : Worker). w.holds) (same-at ended)) })

    pub stop_run : (events : List (WorldEvent R))
        → run_events host world (takes i stop.place ∷ serves i stop.place stop.request ∷ gives i stop.place ∷ events)
        ≡ run_events host (after_stop world stop) events
    stop_run events = ap (λ (w : World C). run_events host w events) all_is

    -- ---- what the world behind it is

    pub own_is : worker_at host (after_stop world stop) i ≡ stopped_worker worker
    own_is = same-at (stopped_worker worker)

    pub other_is : (j : ℕ) → (i ≡ j → ⊥) → worker_at host (after_stop world stop) j ≡ worker_at host world j
    other_is j apart = get_or-set_other world.workers i j (stopped_worker worker) (fresh host.header) (λ same. apart (sym same))

    pub idle_after : IsIdle host (after_stop world stop)
    idle_after = record {
      going = idle.going;
      phase = idle.phase;
      idle = λ j within. go j (subst (λ (n : ℕ). j < n) (length-set world.workers i (stopped_worker worker)) within) (cases_eq i j);
    }
      where
        go : (j : ℕ) → j < length world.workers → (i ≡ j) ⊎ (i ≡ j → ⊥) → (worker_at host (after_stop world stop) j).holds ≡ None
        go j within (inl same) = ap (λ (n : ℕ). (worker_at host (after_stop world stop) n).holds) (sym same) ∙ ap (λ (w : Worker). w.holds) own_is
        go j within (inr apart) = ap (λ (w : Worker). w.holds) (other_is j apart) ∙ idle.idle j within

    -- A stop of another worker stays one.
    pub stop_after : (other : Stop R) → i ≢ other.worker → IsStop world other → IsStop (after_stop world stop) other
    stop_after other apart is_other =
        let same = other_is other.worker apart in
        record {
          may = record {
            there = subst (λ (n : ℕ). other.worker < n) (sym (length-set world.workers i (stopped_worker worker))) is_other.may.there;
            at = is_other.may.at;
            running = ap (λ (w : Worker). w.stopped) same ∙ is_other.may.running;
            owns = is_other.may.owns;
          };
          next = ap (λ (w : Worker). slice_get (asked host other.worker) w.served) same ∙ is_other.next;
          begun = subst (λ (w : Worker). host.header.first + world.phase ≤ w.clock.at.epoch) (sym same) is_other.begun;
          reached = subst (λ (w : Worker). AreUpTo w.clock.at.epoch (host.pending (content_at host world other.place))) (sym same) is_other.reached;
          ends = ap (λ (w : Worker). host.serve other.worker w.clock (content_at host world other.place) other.request) same ∙ is_other.ends;
        }

  -- ---- all of them

  pub stops_after : (world : World C) (idle : IsIdle host world) (stop : Stop R) (is : IsStop world stop) (others : List (Stop R))
      → AllByRecursion (λ other. stop.worker ≢ other.worker) others → AllByRecursion (IsStop world) others
      → AllByRecursion (IsStop (after_stop world stop)) others
  stops_after world idle stop is [] apart all = tt
  stops_after world idle stop is (other ∷ others) apart all =
      (stop_after world idle stop is other apart.0 all.0, stops_after world idle stop is others apart.1 all.1)

  -- Stops of different workers are enabled, one behind the other.
  pub stops_enabled : (world : World C) (stops : List (Stop R)) → IsIdle host world → AllByRecursion (IsStop world) stops → AreOfOthers stops
      → AreEnabled host world (replay_stops stops)
  stops_enabled world [] idle all others = tt
  stops_enabled world (stop ∷ stops) idle all others =
      stop_enabled world idle stop all.0 (replay_stops stops)
      (stops_enabled (after_stop world stop) stops (idle_after world idle stop all.0) (stops_after world idle stop all.0 stops others.0 all.1) others.1)

  -- Each ends its worker's clock.
  pub stops_ended : (world : World C) (stops : List (Stop R)) → IsIdle host world → AllByRecursion (IsStop world) stops → AreOfOthers stops
      → AreEnded host world stops
  stops_ended world [] idle all others = tt
  stops_ended world (stop ∷ stops) idle all others = (
    all.0.ends,
    subst (λ (w : World C). AreEnded host w stops) (sym (stop_run world idle stop all.0 []))
        (stops_ended (after_stop world stop) stops (idle_after world idle stop all.0) (stops_after world idle stop all.0 stops others.0 all.1) others.1),
  )

  -- what they leave: all but what is stopped
  pub record Stops (world later : World C) (stops : List (Stop R)) : Type 0 where
    pub contents : (place : Place) → content_at host later place ≡ content_at host world place
    pub logs : (i : ℕ) → (worker_at host later i).log ≡ (worker_at host world i).log
    pub clocks : (i : ℕ) → (worker_at host later i).clock ≡ (worker_at host world i).clock
    pub served : (i : ℕ) → (worker_at host later i).served ≡ (worker_at host world i).served
    pub stopped : (i : ℕ) → (worker_at host later i).stopped ≡ ((worker_at host world i).stopped || stops_by i stops)
    pub stuck : (i : ℕ) → (worker_at host later i).stuck ≡ (worker_at host world i).stuck
    pub idle : IsIdle host later
    pub count : length later.workers ≡ length world.workers
    pub phase : later.phase ≡ world.phase
    pub words : (later.newest ≡ world.newest) × (later.scanned ≡ world.scanned)

  pub stops_leave : (world : World C) (stops : List (Stop R)) → IsIdle host world → AllByRecursion (IsStop world) stops → AreOfOthers stops
      → Stops world (run_events host world (replay_stops stops)) stops
  stops_leave world [] idle all others = record {
    contents = λ place. refl;
    logs = λ i. refl;
    clocks = λ i. refl;
    served = λ i. refl;
    stopped = λ i. or_false (worker_at host world i).stopped;
    stuck = λ i. refl;
    idle = idle;
    count = refl;
    phase = refl;
    words = (refl, refl);
  }
    where
      or_false : (b : Bool) → b ≡ (b || false)
      or_false true = refl
      or_false false = refl
  stops_leave world (stop ∷ stops) idle all others =
      subst (λ (later : World C). Stops world later (stop ∷ stops)) (sym (stop_run world idle stop all.0 (replay_stops stops)))
      (whole (stops_leave (after_stop world stop) stops (idle_after world idle stop all.0) (stops_after world idle stop all.0 stops others.0 all.1) others.1))
    where
      later : World C
      later = run_events host (after_stop world stop) (replay_stops stops)

      -- what a worker shows but for its flags
      keeps : {X : Type 0} (show : Worker → X) → ((w : Worker) → show (stopped_worker w) ≡ show w) → (i : ℕ)
          → show (worker_at host (after_stop world stop) i) ≡ show (worker_at host world i)
      keeps show same i = go (cases_eq stop.worker i)
        where
          go : (stop.worker ≡ i) ⊎ (stop.worker ≡ i → ⊥) → show (worker_at host (after_stop world stop) i) ≡ show (worker_at host world i)
          go (inl own) =
              ap (λ (n : ℕ). show (worker_at host (after_stop world stop) n)) (sym own)
              ∙ ap show (own_is world idle stop all.0)
              ∙ same (worker_at host world stop.worker)
              ∙ ap (λ (n : ℕ). show (worker_at host world n)) own
          go (inr apart) = ap show (other_is world idle stop all.0 i apart)

      stopped : (i : ℕ) → (stop.worker ≡ i) ⊎ (stop.worker ≡ i → ⊥)
          → ((worker_at host (after_stop world stop) i).stopped || stops_by i stops)
          ≡ ((worker_at host world i).stopped || ((stop.worker == i) || stops_by i stops))
      stopped i (inl own) =
          ap (λ (b : Bool). b || stops_by i stops)
          (ap (λ (n : ℕ). (worker_at host (after_stop world stop) n).stopped) (sym own) ∙ ap (λ (w : Worker). w.stopped) (own_is world idle stop all.0))
          ∙ sym (ap (λ (b : Bool). (worker_at host world i).stopped || (b || stops_by i stops)) (eq-eqb stop.worker i own)
          ∙ or_true (worker_at host world i).stopped)
        where
          or_true : (b : Bool) → (b || true) ≡ true
          or_true true = refl
          or_true false = refl
      stopped i (inr apart) =
          ap (λ (w : Worker). w.stopped || stops_by i stops) (other_is world idle stop all.0 i apart)
          ∙ sym (ap (λ (b : Bool). (worker_at host world i).stopped || (b || stops_by i stops)) (ne_eqb stop.worker i apart))

      whole : Stops (after_stop world stop) later stops → Stops world later (stop ∷ stops)
      whole leads = record {
        contents = leads.contents;
        logs = λ i. leads.logs i ∙ keeps (λ w. w.log) (λ w. refl) i;
        clocks = λ i. leads.clocks i ∙ keeps (λ w. w.clock) (λ w. refl) i;
        served = λ i. leads.served i ∙ keeps (λ w. w.served) (λ w. refl) i;
        stopped = λ i. leads.stopped i ∙ stopped i (cases_eq stop.worker i);
        stuck = λ i. leads.stuck i ∙ keeps (λ w. w.stuck) (λ w. refl) i;
        idle = leads.idle;
        count = leads.count ∙ length-set world.workers stop.worker (stopped_worker (worker_at host world stop.worker));
        phase = leads.phase;
        words = leads.words;
      }
