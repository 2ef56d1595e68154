-- The world that the code puts together behind a phase is the one that the phase's events lead to.
use Rattle.std.proofs.Common.{◌≡◌, ℕ, ◌+◌, ◌/◌, ◌%◌, ◌<◌, ◌||◌, Bool, List, [], ◌++◌, map, length, get_or, sym, ◌∙◌, ap, append_assoc, arith}
use Rattle.std.proofs.Math.ListN.{get_or-map}
use Rattle.std.proofs.lemmas.List.{length-map, append_cancel_left, ext_get_or}
use Rattle.lamport_clocks.specs.Reading.{Reading}
use Rattle.log_codec.specs.declared.command.Command.{Command}
use Rattle.record_hash.specs.Functions.{DigestFunctions}
use Rattle.record_text.specs.declared.request.Request.{Request}
use Rattle.script_text.specs.declared.task.Task.{Task}
use Rattle.host_core.specs.Host.{Host}
use Rattle.host_core.specs.World.{Worker, World, fresh, worker_at}
use Rattle.host_core.specs.WorldEvent.{WorldEvent, run_events}
use Rattle.host_order.specs.Serving.{Serving, clock_behind, commands_in, content_at}
use Rattle.host_order.specs.Told.{list_of, phase_events, stops_by, EndsWith}
use Rattle.host_shard.specs.declared.content.Content as code
use Rattle.host_shard.specs.declared.content.Content.TheVariants.{Vacant}
use Rattle.host_shard.specs.Content.{Content, vacant}
use Rattle.host_shard.specs.Shown.{shown_content}
use Rattle.host_table.specs.declared.views.Row.{Row}
use Rattle.host_table.specs.Phase.{new_row, row_at}
use Rattle.host_table.specs.Terms.{Terms, place_count}
use Rattle.shipped_host.specs.declared.settings.Settings.{Settings}
use Rattle.host_world.specs.Behind.{with_logs}
use Rattle.host_world.specs.Lending.{all_contents, filled}
use Rattle.host_world.specs.Places.{place_of}
use Rattle.shipped_host.specs.ShippedHost.{shipped_host}
use Rattle.host_world.proofs.FrontLaws.{unlogged, same_unlogged, log_before, length-before_each}
use Rattle.host_serving.proofs.LeadingLaws.{run-with}
use Rattle.table_order.specs.Servings.{serving_of, servings_of, lists_of, stops_of}
use Rattle.worker_threads.specs.Parts.{asked_of, commands_of, HasDone}
use Rattle.worker_threads.specs.Phase.{IsServedAtOnce}
use Rattle.worker_threads.proofs.FilledLemmas.{HaveFive, filled_back, all_count, all_at}
use Rattle.worker_threads.proofs.ShapeLemmas.{AreShaped, shaped-count, shaped-seats, phase-turns, run-shaped, run-workers}
use Rattle.worker_threads.proofs.StopLemmas.{commands_told, clock_told, stopped_by_row}

-- workers that show the same are the same
pub same_worker : (a b : Worker) → a.log ≡ b.log → a.clock ≡ b.clock → a.served ≡ b.served → a.holds ≡ b.holds → a.stopped ≡ b.stopped → a.stuck ≡ b.stuck → a ≡ b
same_worker a b log clock served holds stopped stuck =
    λ k. record { log = log k; clock = clock k; served = served k; holds = holds k; stopped = stopped k; stuck = stuck k }

-- and so are worlds
pub same_world : {C : Type 0} (a b : World C) → a.shards ≡ b.shards → a.workers ≡ b.workers → a.phase ≡ b.phase → a.closing ≡ b.closing → a.over ≡ b.over
    → a.newest ≡ b.newest → a.scanned ≡ b.scanned → a ≡ b
same_world a b shards workers phase closing over newest scanned =
    λ k. record { shards = shards k; workers = workers k; phase = phase k; closing = closing k; over = over k; newest = newest k; scanned = scanned k }

module _ (functions : DigestFunctions) (settings : Settings) (script : List (List Task)) (logs : List (List Command)) (world later : World Content)
    (each : length logs ≡ length world.workers) (tasks : List Task) (terms : Terms) (after : List code.Content) (rows : List Row)
    (is : IsServedAtOnce (shipped_host functions settings script) settings.absent tasks world later terms after rows) (five : HaveFive world.shards)
    (pasts : List (List (List (Serving Content Request)))) where
  abbrev host : Host Content Request
  host = shipped_host functions settings script

  abbrev before : World Content
  before = with_logs logs world

  abbrev lists : List (List (Serving Content Request))
  lists = lists_of rows

  abbrev events : List (WorldEvent Request)
  events = phase_events lists (stops_of rows)

  -- as many rows as workers
  pub rows_are : length rows ≡ length world.workers
  rows_are = is.closed.all ∙ is.made.workers

  list_is : (i : ℕ) → list_of lists i ≡ servings_of (row_at rows i).list
  list_is i = get_or-map (λ (row : Row). servings_of row.list) rows i new_row

  -- a worker of the world, with its log or without
  pub of_world : {A : Type 0} (show : Worker → A) (i : ℕ) → show (unlogged (worker_at host before i)) ≡ show (unlogged (worker_at host world i))
  of_world show i = ap show (same_unlogged logs world.workers i (fresh settings.header))

  -- the clock that a worker's list leaves
  pub clock_left : (i : ℕ) → i < length world.workers
      → (worker_at host later i).clock ≡ clock_behind (worker_at host before i).clock (list_of lists i)
  clock_left i there =
      (is.parts i there).clock
      ∙ sym (clock_told (worker_at host world i).clock (row_at rows i).list)
      ∙ ap (λ (clock : Reading). clock_behind clock (servings_of (row_at rows i).list)) (sym (of_world (λ w. w.clock) i))
      ∙ ap (λ (servings : List (Serving Content Request)). clock_behind (worker_at host before i).clock servings) (sym (list_is i))

  -- whether it is stopped
  pub stopped_left : (i : ℕ) → i < length world.workers
      → (worker_at host later i).stopped ≡ ((worker_at host before i).stopped || stops_by i (stops_of rows))
  stopped_left i there =
      let here : i ≡ 0 + i = omega arith in
      (is.parts i there).stopped
      ∙ sym (stopped_by_row 0 i i rows here (omega (arith, there, rows_are)))
      ∙ ap (λ (b : Bool). b || stops_by i (stops_of rows)) (sym (of_world (λ w. w.stopped) i ∙ is.running i there))

  module _ (ends : EndsWith host before (run_events host before events) lists pasts (stops_of rows))
      (contents : (place : ℕ) → place < place_count terms
      → content_at host (run_events host before events) (place_of place) ≡ shown_content (get_or after place Vacant)) where
    abbrev behind : World Content
    behind = run_events host before events

    abbrev run : World Content
    run = run_events host world events

    run_is : with_logs logs run ≡ behind
    run_is = run-with host logs world events

    run_count : length run.workers ≡ length world.workers
    run_count = run-workers host world events

    -- ---- the workers

    of_run : {A : Type 0} (show : Worker → A) (i : ℕ) → show (unlogged (worker_at host run i)) ≡ show (unlogged (worker_at host behind i))
    of_run show i =
        sym (ap show (same_unlogged logs run.workers i (fresh settings.header)))
        ∙ ap (λ (w : World Content). show (unlogged (worker_at host w i))) run_is

    module _ (i : ℕ) (there : i < length world.workers) where
      part : HasDone (asked_of i tasks) (row_at rows i) (worker_at host world i) (worker_at host later i)
      part = is.parts i there

      there_before : i < length before.workers
      there_before = let count = length-before_each logs world.workers in omega (arith, there, count)

      log_same : (worker_at host later i).log ≡ (worker_at host run i).log
      log_same =
          let front : List Command = get_or logs i [] in
          let list = (row_at rows i).list in
          part.log
          ∙ append_cancel_left front ((worker_at host world i).log ++ commands_of list) (worker_at host run i).log
          (sym (append_assoc front (worker_at host world i).log (commands_of list))
          ∙ ap (λ (xs : List Command). xs ++ commands_of list) (sym (log_before logs world.workers i (fresh settings.header) each there))
          ∙ ap (λ (xs : List Command). (worker_at host before i).log ++ xs) (sym (ap commands_in (list_is i) ∙ commands_told list))
          ∙ sym (ends.logs i)
          ∙ ap (λ (w : World Content). (worker_at host w i).log) (sym run_is)
          ∙ log_before logs run.workers i (fresh settings.header) (each ∙ sym run_count) (omega (arith, there, run_count)))

      served_same : (worker_at host later i).served ≡ (worker_at host run i).served
      served_same =
          let list = (row_at rows i).list in
          let many : length (list_of lists i) ≡ length list = ap (λ (servings : List (Serving Content Request)). length servings) (list_is i) ∙ length-map list serving_of in
          omega (arith, part.served, of_run (λ w. w.served) i, ends.served i, of_world (λ w. w.served) i, many)

      one_same : worker_at host later i ≡ worker_at host run i
      one_same = same_worker (worker_at host later i) (worker_at host run i) log_same
          (clock_left i there ∙ sym (ends.clocks i) ∙ sym (of_run (λ w. w.clock) i))
          served_same
          (part.holds ∙ (is.begins.each i there).idle ∙ sym (of_run (λ w. w.holds) i ∙ ends.idle i there_before))
          (stopped_left i there ∙ sym (ends.stopped i there_before) ∙ sym (of_run (λ w. w.stopped) i))
          (part.stuck ∙ sym (of_run (λ w. w.stuck) i ∙ ends.stuck i ∙ of_world (λ w. w.stuck) i))

    workers_same : later.workers ≡ run.workers
    workers_same = ext_get_or (fresh settings.header) later.workers run.workers (is.count ∙ sym run_count)
        (λ i there. one_same i (omega (arith, there, is.count)))

    -- ---- the shards

    shaped : AreShaped world.shards run.shards
    shaped = run-shaped host world events (phase-turns lists (stops_of rows))

    shards_count : length run.shards ≡ length world.shards
    shards_count = shaped-count world.shards run.shards shaped

    five_behind : HaveFive run.shards
    five_behind s there = shaped-seats world.shards run.shards s shaped ∙ five s (omega (arith, there, shards_count))

    as_many : length (all_contents run.shards) ≡ length (map shown_content after)
    as_many =
        let one = all_count run.shards five_behind in
        let two = length-map after shown_content in
        omega (arith, one, two, shards_count, is.closed.as_many, is.made.places)

    all_same : all_contents run.shards ≡ map shown_content after
    all_same = ext_get_or vacant (all_contents run.shards) (map shown_content after) as_many at
      where
        at : (place : ℕ) → place < length (all_contents run.shards) → get_or (all_contents run.shards) place vacant ≡ get_or (map shown_content after) place vacant
        at place within =
            let one = all_count run.shards five_behind in
            all_at run.shards five_behind (place / 5) (place % 5) place vacant (omega (arith, within, one)) (omega arith) (omega arith)
            ∙ ap (λ (w : World Content). content_at host w (place_of place)) run_is
            ∙ contents place (omega (arith, within, one, shards_count, is.made.places))
            ∙ sym (get_or-map shown_content after place Vacant)

    shards_same : filled world.shards (map shown_content after) ≡ run.shards
    shards_same =
        ap (filled world.shards) (sym all_same) ∙ filled_back world.shards run.shards shaped

    -- ---- the whole

    -- The later world is the one that the events lead to.
    pub world_same : later ≡ run
    world_same =
        is.is
        ∙ same_world (record world { shards = filled world.shards (map shown_content after); workers = later.workers }) run shards_same workers_same
        (sym (ap (λ (w : World Content). w.phase) run_is ∙ ends.phase.0))
        (is.begins.phase ∙ sym (ap (λ (w : World Content). w.closing) run_is ∙ ends.phase.1))
        (is.begins.going ∙ sym (ap (λ (w : World Content). w.over) run_is ∙ ends.phase.2))
        (sym (ap (λ (w : World Content). w.newest) run_is ∙ ends.words.0))
        (sym (ap (λ (w : World Content). w.scanned) run_is ∙ ends.words.1))
