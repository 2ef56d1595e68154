-- What a table tells of a phase leads from the world before it to the one behind it, and the first end is that of the first
-- worker that is stopped.
use Rattle.std.proofs.Common.{◌≡◌, ◌⊎◌, inl, inr, ℕ, ◌+◌, ◌<◌, ◌==◌, ◌||◌, Bool, true, false, List, [], ◌∷◌, length, get_or, Some, None, refl, sym, ◌∙◌, ap, subst, append-nil, arith}
use Rattle.std.specs.List.{AllByRecursion}
use Rattle.std.proofs.lemmas.Bool.{eq-eqb}
use Rattle.log_codec.specs.declared.command.Command.{Command}
use Rattle.record_hash.specs.Functions.{DigestFunctions}
use Rattle.record_text.specs.declared.request.Request.{Request}
use Rattle.script_text.specs.declared.task.Task.{Task}
use Rattle.host_core.specs.Host.{Host}
use Rattle.host_core.specs.World.{World, fresh, worker_at}
use Rattle.host_core.specs.WorldEvent.{WorldEvent, AreEnabled, step, run_events}
use Rattle.host_core.proofs.EventLaws.{run-append}
use Rattle.host_order.specs.Serving.{Serving, content_at, in_one_order, replay}
use Rattle.host_order.specs.Steady.{IsSteady}
use Rattle.host_order.specs.Told.{IsAtRest, AreTold, joined, Stop, IsNoted, AreOfOthers, replay_stops, phase_events, EndsWith, HasOneOrder}
use Rattle.host_order.proofs.PhaseLaws.{orders_phase}
use Rattle.host_shard.specs.declared.content.Content as code
use Rattle.host_shard.specs.declared.content.Content.TheVariants.{Vacant}
use Rattle.host_shard.specs.Content.{Content}
use Rattle.host_shard.specs.Shown.{shown_content}
use Rattle.host_table.specs.declared.views.Row.{Row}
use Rattle.host_table.specs.Terms.{Terms, place_count}
use Rattle.shipped_host.specs.declared.settings.Settings.{Settings}
use Rattle.host_world.specs.Behind.{with_logs}
use Rattle.host_world.specs.Ending.{end_at}
use Rattle.host_world.specs.Places.{place_of}
use Rattle.shipped_host.specs.ShippedHost.{shipped_host}
use Rattle.host_world.proofs.FrontLaws.{length-before_each, enabled_without, step_with}
use Rattle.host_serving.specs.Leading.{first_end, LeadsAs}
use Rattle.host_serving.specs.Form.{AreOfPhase}
use Rattle.host_serving.specs.Turn.{turn_at}
use Rattle.host_serving.proofs.LeadingLaws.{first-with}
use Rattle.host_serving.proofs.FormLaws.{phase-without}
use Rattle.table_order.specs.Servings.{lists_of, stops_of}
use Rattle.worker_threads.specs.Phase.{first_stopped, IsServedAtOnce}
use Rattle.worker_threads.proofs.EndLemmas.{unended, turn_ended, ended_behind}
use Rattle.worker_threads.proofs.FilledLemmas.{HaveFive}
use Rattle.stamp_order.proofs.InOrderLaws.{every-weaker}
use Rattle.worker_threads.proofs.ShapeLemmas.{IsOfTurn, IsOfRound, of_round, replay-turns, run-workers}
use Rattle.worker_threads.proofs.StopLemmas.{NoneFirst, SomeFirst, first_stop, rising_from}
use Rattle.worker_threads.proofs.WorldLemmas.{rows_are, of_world, clock_left, world_same}

-- What is enabled with logs in front is without them.
pub enabled-without : {C R : Type 0} (host : Host C R) (logs : List (List Command)) (world : World C) (events : List (WorldEvent R))
    → AreEnabled host (with_logs logs world) events → AreEnabled host world events
enabled-without host logs world [] enabled = tt
enabled-without host logs world (event ∷ events) enabled = (
  enabled_without host logs world event enabled.0,
  enabled-without host logs (step host world event) events
      (subst (λ (w : World _). AreEnabled host w events) (step_with host logs world event) enabled.1),
)

module _ (functions : DigestFunctions) (settings : Settings) (script : List (List Task)) (logs : List (List Command)) (world later : World Content)
    (each : length logs ≡ length world.workers) (tasks : List Task) (terms : Terms) (after : List code.Content) (rows : List Row)
    (is : IsServedAtOnce (shipped_host functions settings script) settings.absent tasks world later terms after rows) (five : HaveFive world.shards)
    (pasts : List (List (List (Serving Content Request))))
    (steady : IsSteady (shipped_host functions settings script)) (rest : IsAtRest (shipped_host functions settings script) (with_logs logs world))
    (told : AreTold (shipped_host functions settings script) (with_logs logs world) (lists_of rows) pasts)
    (noted : AllByRecursion (IsNoted (shipped_host functions settings script) (with_logs logs world) (lists_of rows) pasts) (stops_of rows))
    (apart : AreOfOthers (stops_of rows))
    (contents : (place : ℕ) → place < place_count terms
    → content_at (shipped_host functions settings script)
    (run_events (shipped_host functions settings script) (with_logs logs world) (phase_events (lists_of rows) (stops_of rows))) (place_of place)
    ≡ shown_content (get_or after place Vacant)) where
  abbrev host : Host Content Request
  host = shipped_host functions settings script

  abbrev before : World Content
  before = with_logs logs world

  abbrev lists : List (List (Serving Content Request))
  lists = lists_of rows

  -- the turns of what was served
  abbrev turns : List (WorldEvent Request)
  turns = replay (in_one_order (joined lists))

  abbrev middle : World Content
  middle = run_events host before turns

  ordered : (stops : List (Stop Request)) → AllByRecursion (IsNoted host before lists pasts) stops → AreOfOthers stops
      → HasOneOrder host before lists pasts stops
  ordered stops = orders_phase host before lists pasts stops steady rest told

  there_before : (i : ℕ) → i < length world.workers → i < length before.workers
  there_before i there = let count = length-before_each logs world.workers in omega (arith, there, count)

  running_before : (i : ℕ) → i < length world.workers → (worker_at host before i).stopped ≡ false
  running_before i there =
      of_world functions settings script logs world later each tasks terms after rows is five pasts (λ w. w.stopped) i ∙ is.running i there

  -- ---- behind what was served

  quiet : AreEnabled host before turns × EndsWith host before middle lists pasts []
  quiet =
      let order = ordered [] tt tt in
      subst (λ (events : List (WorldEvent Request)). AreEnabled host before events × EndsWith host before (run_events host before events) lists pasts [])
      (append-nil turns) (order.enabled, order.ends)

  running_middle : (i : ℕ) → i < length world.workers → (worker_at host middle i).stopped ≡ false
  running_middle i there =
      quiet.1.stopped i (there_before i there) ∙ ap (λ (b : Bool). b || false) (running_before i there)

  none_ended : first_end host before turns ≡ None
  none_ended =
      let count = length-before_each logs world.workers in
      unended host before turns (every-weaker IsOfTurn IsOfRound of_round turns (replay-turns (in_one_order (joined lists)))) quiet.0 (λ i there. running_middle i (omega (arith, there, count)))

  -- ---- the first stop

  module _ (k : ℕ) (there : k < length world.workers) (stop : Stop Request) (others : List (Stop Request)) (own : stop.worker ≡ k)
      (stops : stops_of rows ≡ stop ∷ others) where
    stop_there : stop.worker < length world.workers
    stop_there = omega (arith, there, own)

    -- it alone behind what was served
    one : HasOneOrder host before lists pasts (stop ∷ [])
    one = ordered (stop ∷ []) ((subst (AllByRecursion (IsNoted host before lists pasts)) stops noted).0, tt) (tt, tt)

    stopped_then : (worker_at host (run_events host middle (turn_at stop.worker stop.place stop.request)) stop.worker).stopped ≡ true
    stopped_then =
        ap (λ (w : World Content). (worker_at host w stop.worker).stopped) (sym (run-append host before turns (turn_at stop.worker stop.place stop.request)))
        ∙ one.ends.stopped stop.worker (there_before stop.worker stop_there)
        ∙ ap (λ (b : Bool). b || (stop.worker == stop.worker || false)) (running_before stop.worker stop_there)
        ∙ ap (λ (b : Bool). b || false) (eq-eqb stop.worker stop.worker refl)

    middle_count : stop.worker < length middle.workers
    middle_count =
        let many = run-workers host before turns in
        let count = length-before_each logs world.workers in
        omega (arith, stop_there, many, count)

    clock_there : (worker_at host middle stop.worker).clock.at ≡ (worker_at host later k).clock.at
    clock_there =
        ap (λ (n : ℕ). (worker_at host middle n).clock.at) own
        ∙ ap (λ clock. clock.at) (quiet.1.clocks k)
        ∙ sym (ap (λ clock. clock.at) (clock_left functions settings script logs world later each tasks terms after rows is five pasts k there))

    pub first_ended : first_end host before (phase_events lists (stops_of rows)) ≡ Some (record { worker = k; at = (worker_at host later k).clock.at })
    first_ended =
        ap (λ (all : List (Stop Request)). first_end host before (phase_events lists all)) stops
        ∙ ended_behind host before turns (replay_stops others) stop.worker stop.place stop.request (end_at host middle stop.worker) none_ended
        (turn_ended host middle stop.worker stop.place stop.request middle_count (running_middle stop.worker stop_there) stopped_then)
        ∙ (λ j. Some (record { worker = own j; at = clock_there j }))

  first_is : first_end host before (phase_events lists (stops_of rows)) ≡ first_stopped 0 later.workers
  first_is =
      go (first_stop (fresh settings.header) 0 rows later.workers
      (rows_are functions settings script logs world later each tasks terms after rows is five pasts ∙ sym is.count)
      (λ k there. (is.parts k (omega (arith, there, is.count))).stopped))
    where
      go : NoneFirst 0 rows later.workers ⊎ SomeFirst (fresh settings.header) 0 rows later.workers
          → first_end host before (phase_events lists (stops_of rows)) ≡ first_stopped 0 later.workers
      go (inl none) =
          ap (λ (all : List (Stop Request)). first_end host before (phase_events lists all)) none.stops
          ∙ ap (λ (events : List (WorldEvent Request)). first_end host before events) (append-nil turns)
          ∙ none_ended ∙ sym none.ended
      go (inr some) =
          let number : 0 + some.k ≡ some.k = omega arith in
          first_ended some.k (omega (arith, some.there, is.count)) some.stop some.others (some.own ∙ number) some.stops
          ∙ ap (λ (n : ℕ). Some (record { worker = n; at = (worker_at host later some.k).clock.at })) (sym number)
          ∙ sym some.ended

  -- The phase's events lead to the later world, in their one order.
  pub leads : LeadsAs AreOfPhase host world later (first_stopped 0 later.workers)
  leads =
      let order = ordered (stops_of rows) noted apart in
      let events = phase_events lists (stops_of rows) in
      record {
        events = events;
        enabled = enabled-without host logs world events order.enabled;
        is = world_same functions settings script logs world later each tasks terms after rows is five pasts order.ends contents;
        first = sym (first-with host logs world events) ∙ first_is;
        form = phase-without host logs world events (record {
          servings = joined lists;
          stops = stops_of rows;
          done = order.done;
          ended = order.ended;
          rising = rising_from 0 0 rows (omega arith);
          are = refl;
        });
      }
