-- The first end of a clock among the events of a round: there is none where no worker is stopped behind them, and a turn behind which its worker
-- is stopped is where its clock ended.
use Rattle.std.proofs.Common.{◌≡◌, ℕ, zero, suc, ◌<◌, Bool, true, false, List, [], ◌∷◌, ◌++◌, length, get_or, set, Option, Some, None, is_none, if◌then◌else◌, refl, sym, ◌∙◌, ap, true≢false, arith}
use Rattle.std.specs.List.{AllByRecursion}
use Rattle.std.proofs.lemmas.Option.{none-some}
use Rattle.std.proofs.lemmas.List.{get_or-set_same}
use Rattle.host_core.specs.Host.{Host, Done}
use Rattle.host_core.specs.World.{Place, Worker, Seats, World, fresh, worker_at, shard_at}
use Rattle.log_codec.specs.declared.command.Command.TheVariants.{NextEpoch}
use Rattle.host_core.specs.WorldEvent.{WorldEvent, takes, serves, gives, raises, enters, scans, finishes, AreEnabled, step, run_events, after_serve, after_scan, logging, having_served, having_scanned, next_clock}
use Rattle.host_world.specs.declared.fault.ClockEnd.{ClockEnd}
use Rattle.host_world.specs.Ending.{end_at, end_of}
use Rattle.host_world.proofs.FrontLaws.{length-step}
use Rattle.host_serving.specs.Leading.{first_of, first_end}
use Rattle.host_serving.specs.Turn.{turn_at}
use Rattle.host_serving.proofs.LeadingLaws.{first_end-append}
use Rattle.worker_threads.proofs.ShapeLemmas.{IsOfRound}

-- ---- a flag of one worker

-- another worker of some number, whose flag is the same: all flags are as before
flag-set : (workers : List Worker) (j i : ℕ) (worker d : Worker) (b : Bool) → (get_or workers i d).stopped ≡ b
    → (i ≡ j → worker.stopped ≡ b) → (get_or (set workers j worker) i d).stopped ≡ b
flag-set [] j i worker d b is own = is
flag-set (first ∷ workers) zero zero worker d b is own = own refl
flag-set (first ∷ workers) zero (suc i) worker d b is own = is
flag-set (first ∷ workers) (suc j) zero worker d b is own = is
flag-set (first ∷ workers) (suc j) (suc i) worker d b is own = flag-set workers j i worker d b is (λ same. own (ap suc same))

module _ {C R : Type 0} (host : Host C R) where
  flag-own : (world : World C) (i j : ℕ) (b : Bool) → (worker_at host world i).stopped ≡ b → i ≡ j → (worker_at host world j).stopped ≡ b
  flag-own world i j b is same = ap (λ (n : ℕ). (worker_at host world n).stopped) (sym same) ∙ is

  -- ---- who is stopped stays so

  serve-stays : (world : World C) (j i : ℕ) (place : Place) (shard : Seats C) (what : Option (Done C)) → (worker_at host world i).stopped ≡ true
      → (worker_at host (after_serve world j (worker_at host world j) place shard what) i).stopped ≡ true
  serve-stays world j i place shard None is =
      flag-set world.workers j i (record (worker_at host world j) { stopped = true }) (fresh host.header) true is (λ same. refl)
  serve-stays world j i place shard (Some done) is =
      flag-set world.workers j i (having_served (logging (worker_at host world j) done.commands done.clock) place) (fresh host.header) true is
      (flag-own world i j true is)

  scan-stays : (world : World C) (j i : ℕ) (place : Place) (shard : Seats C) (what : Option (Done (List C))) → (worker_at host world i).stopped ≡ true
      → (worker_at host (after_scan world j (worker_at host world j) place shard what) i).stopped ≡ true
  scan-stays world j i place shard None is =
      flag-set world.workers j i (record (worker_at host world j) { stopped = true }) (fresh host.header) true is (λ same. refl)
  scan-stays world j i place shard (Some done) is =
      flag-set world.workers j i (having_scanned (logging (worker_at host world j) done.commands done.clock) place) (fresh host.header) true is
      (flag-own world i j true is)

  step-stays : (world : World C) (event : WorldEvent R) (i : ℕ) → IsOfRound event → (worker_at host world i).stopped ≡ true
      → (worker_at host (step host world event) i).stopped ≡ true
  step-stays world (takes j place) i turn is =
      flag-set world.workers j i (record (worker_at host world j) { holds = Some (record { place = place; used = false }) }) (fresh host.header) true is
      (flag-own world i j true is)
  step-stays world (serves j place request) i turn is = serve-stays world j i place (shard_at world place.shard) _ is
  step-stays world (gives j place) i turn is =
      flag-set world.workers j i (record (worker_at host world j) { holds = None }) (fresh host.header) true is (flag-own world i j true is)
  step-stays world (raises j) i turn is = is
  step-stays world (enters j) i turn is =
      flag-set world.workers j i (logging (worker_at host world j) (NextEpoch ∷ []) (next_clock (worker_at host world j).clock)) (fresh host.header) true is
      (flag-own world i j true is)
  step-stays world (scans j place) i turn is = scan-stays world j i place (shard_at world place.shard) _ is
  step-stays world (finishes j) i turn is = is
  step-stays world event i turn is = absurd turn

  run-stays : (world : World C) (events : List (WorldEvent R)) (i : ℕ) → AllByRecursion IsOfRound events → (worker_at host world i).stopped ≡ true
      → (worker_at host (run_events host world events) i).stopped ≡ true
  run-stays world [] i turns is = is
  run-stays world (event ∷ events) i turns is = run-stays (step host world event) events i turns.1 (step-stays world event i turns.0 is)

  -- ---- where nobody is stopped, no clock ended

  -- a serve that ends the clock stops its worker
  serve-stops : (world : World C) (i : ℕ) (place : Place) (shard : Seats C) (what : Option (Done C)) → i < length world.workers → what ≡ None
      → (worker_at host (after_serve world i (worker_at host world i) place shard what) i).stopped ≡ true
  serve-stops world i place shard what there is =
      ap (λ (o : Option (Done C)). (worker_at host (after_serve world i (worker_at host world i) place shard o) i).stopped) is
      ∙ ap (λ (w : Worker). w.stopped) (get_or-set_same world.workers i (record (worker_at host world i) { stopped = true }) (fresh host.header) there)

  -- so does a scan
  scan-stops : (world : World C) (i : ℕ) (place : Place) (shard : Seats C) (what : Option (Done (List C))) → i < length world.workers → what ≡ None
      → (worker_at host (after_scan world i (worker_at host world i) place shard what) i).stopped ≡ true
  scan-stops world i place shard what there is =
      ap (λ (o : Option (Done (List C))). (worker_at host (after_scan world i (worker_at host world i) place shard o) i).stopped) is
      ∙ ap (λ (w : Worker). w.stopped) (get_or-set_same world.workers i (record (worker_at host world i) { stopped = true }) (fresh host.header) there)

  -- the end of a serve, or of a scan, by what is done
  serve-end : {X : Type 0} (what : Option X) (done : X) (end : ClockEnd) → what ≡ Some done → ◌≡◌ {A = Option ClockEnd} (if is_none what then Some end else None) None
  serve-end {X} what done end is = ap (λ (o : Option X). if is_none o then Some end else None) is

  abbrev NoneStopped : World C → Type 0
  NoneStopped world = (i : ℕ) → i < length world.workers → (worker_at host world i).stopped ≡ false

  -- Where no worker is stopped behind turns, no clock ended in them.
  pub unended : (world : World C) (events : List (WorldEvent R)) → AllByRecursion IsOfRound events → AreEnabled host world events
      → ((i : ℕ) → i < length world.workers → (worker_at host (run_events host world events) i).stopped ≡ false)
      → first_end host world events ≡ None
  unended world [] turns enabled running = refl
  unended world (event ∷ events) turns enabled running =
      ap (λ (e : Option ClockEnd). first_of e (first_end host (step host world event) events)) (one event turns.0 enabled running)
      ∙ unended (step host world event) events turns.1 enabled.1
      (λ i there. running i (omega (arith, there, length-step host world event)))
    where
      one : (event : WorldEvent R) → IsOfRound event → AreEnabled host world (event ∷ events)
          → ((i : ℕ) → i < length world.workers → (worker_at host (run_events host world (event ∷ events)) i).stopped ≡ false)
          → end_of host world event ≡ None
      one (takes i place) turn may running = refl
      one (serves i place request) turn may running = go _ refl
        where
          go : (what : Option (Done C)) → host.serve i (worker_at host world i).clock (get_or (shard_at world place.shard).contents place.seat host.vacant) request ≡ what
              → end_of host world (serves i place request) ≡ None
          go None is =
              let there = may.0.serving.there in
              let stopped = serve-stops world i place (shard_at world place.shard) _ there is in
              absurd (true≢false (sym (run-stays (step host world (serves i place request)) events i turns.1 stopped) ∙ running i there))
          go (Some done) is = serve-end _ done (end_at host world i) is
      one (gives i place) turn may running = refl
      one (raises i) turn may running = refl
      one (enters i) turn may running = refl
      one (scans i place) turn may running = go _ refl
        where
          go : (what : Option (Done (List C))) → host.move i (worker_at host world i).clock place.shard (shard_at world place.shard).contents ≡ what
              → end_of host world (scans i place) ≡ None
          go None is =
              let there = may.0.rolling.serving.there in
              let stopped = scan-stops world i place (shard_at world place.shard) _ there is in
              absurd (true≢false (sym (run-stays (step host world (scans i place)) events i turns.1 stopped) ∙ running i there))
          go (Some done) is = serve-end _ done (end_at host world i) is
      one (finishes i) turn may running = refl
      one other turn may running = absurd turn

  -- ---- where a turn's worker is stopped behind it, its clock ended

  serve-leaves : (world : World C) (j i : ℕ) (place : Place) (shard : Seats C) (what : Option (Done C)) (end : ClockEnd)
      → ◌≡◌ {A = Option ClockEnd} (if is_none what then Some end else None) None → (worker_at host world i).stopped ≡ false
      → (worker_at host (after_serve world j (worker_at host world j) place shard what) i).stopped ≡ false
  serve-leaves world j i place shard None end ends is = absurd (none-some end (sym ends))
  serve-leaves world j i place shard (Some done) end ends is =
      flag-set world.workers j i (having_served (logging (worker_at host world j) done.commands done.clock) place) (fresh host.header) false is
      (flag-own world i j false is)

  module _ (world : World C) (i : ℕ) (place : Place) (request : R) (there : i < length world.workers) (before : (worker_at host world i).stopped ≡ false) where
    abbrev taken : World C
    taken = step host world (takes i place)

    abbrev what : Option (Done C)
    what = host.serve i (worker_at host taken i).clock (get_or (shard_at taken place.shard).contents place.seat host.vacant) request

    abbrev holding : Worker
    holding = record (worker_at host world i) { holds = Some (record { place = place; used = false }) }

    taken_is : worker_at host taken i ≡ holding
    taken_is = get_or-set_same world.workers i holding (fresh host.header) there

    taken_end : end_at host taken i ≡ end_at host world i
    taken_end = ap (λ (w : Worker). record { worker = i; at = w.clock.at }) taken_is

    -- where the serve has no end, its worker runs on
    still_running : ◌≡◌ {A = Option ClockEnd} (if is_none what then Some (end_at host taken i) else None) None
        → (worker_at host (run_events host world (turn_at i place request)) i).stopped ≡ false
    still_running ends =
        let served = step host taken (serves i place request) in
        let running = serve-leaves taken i i place (shard_at taken place.shard) what (end_at host taken i) ends (ap (λ (w : Worker). w.stopped) taken_is ∙ before) in
        flag-set served.workers i i (record (worker_at host served i) { holds = None }) (fresh host.header) false running (λ same. running)

    -- The turn's end is its worker's clock, where that is stopped behind it.
    pub turn_ended : (worker_at host (run_events host world (turn_at i place request)) i).stopped ≡ true
        → first_end host world (turn_at i place request) ≡ Some (end_at host world i)
    turn_ended stopped = go what refl
      where
        go : (o : Option (Done C)) → what ≡ o → first_of (if is_none what then Some (end_at host taken i) else None) None ≡ Some (end_at host world i)
        go None is =
            ap (λ (o : Option (Done C)). first_of (if is_none o then Some (end_at host taken i) else None) None) is
            ∙ ap (λ (end : ClockEnd). Some end) taken_end
        go (Some done) is = absurd (true≢false (sym stopped ∙ still_running (serve-end what done (end_at host taken i) is)))

  -- Events that come to no end, and then a turn that does: that end is the first of all that begin so.
  pub ended_behind : (world : World C) (events more : List (WorldEvent R)) (i : ℕ) (place : Place) (request : R) (end : ClockEnd)
      → first_end host world events ≡ None → first_end host (run_events host world events) (turn_at i place request) ≡ Some end
      → first_end host world (events ++ (turn_at i place request ++ more)) ≡ Some end
  ended_behind world events more i place request end none ended =
      let middle = run_events host world events in
      first_end-append host world events (turn_at i place request ++ more)
      ∙ ap (λ (e : Option ClockEnd). first_of e (first_end host middle (turn_at i place request ++ more))) none
      ∙ first_end-append host middle (turn_at i place request) more
      ∙ ap (λ (e : Option ClockEnd). first_of e (first_end host (run_events host middle (turn_at i place request)) more)) ended
