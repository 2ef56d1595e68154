-- The world that the code puts together behind a round is the one that the round's events lead to.
use Rattle.std.proofs.Common.{◌≡◌, ℕ, ◌/◌, ◌%◌, ◌<◌, List, [], ◌++◌, map, length, get_or, sym, ◌∙◌, ap, append_assoc, arith}
use Rattle.std.proofs.Math.ListN.{get_or-map}
use Rattle.std.proofs.lemmas.List.{length-map, append_cancel_left, ext_get_or}
use Rattle.lamport_clocks.specs.Reading.{Reading}
use Rattle.log_codec.specs.declared.command.Command.{Command}
use Rattle.record_hash.specs.Functions.{DigestFunctions}
use Rattle.record_text.specs.declared.request.Request.{Request}
use Rattle.script_text.specs.declared.task.Task.{Task}
use Rattle.host_core.specs.Host.{Host}
use Rattle.host_core.specs.World.{Worker, World, fresh, worker_at}
use Rattle.host_core.specs.WorldEvent.{WorldEvent, run_events}
use Rattle.round_order.specs.Turn.{Turn, on_to, clock_behind, served_behind, logged, content_at}
use Rattle.round_order.specs.Told.{EndsWith, list_of}
use Rattle.host_shard.specs.declared.content.Content as code
use Rattle.host_shard.specs.declared.content.Content.TheVariants.{Vacant}
use Rattle.host_shard.specs.Content.{Content, vacant}
use Rattle.host_shard.specs.Shown.{shown_content}
use Rattle.host_epochs.specs.declared.views.Row.{Row}
use Rattle.host_epochs.specs.Plays.{new_row}
use Rattle.host_epochs.specs.Round.{row_at}
use Rattle.host_epochs.specs.Terms.{Terms, place_count}
use Rattle.shipped_host.specs.declared.settings.Settings.{Settings}
use Rattle.host_world.specs.Behind.{with_logs}
use Rattle.host_world.specs.Lending.{all_contents, filled}
use Rattle.host_world.specs.Places.{place_of}
use Rattle.shipped_host.specs.ShippedHost.{shipped_host}
use Rattle.host_world.proofs.FrontLaws.{unlogged, same_unlogged, log_before, length-before_each}
use Rattle.host_serving.proofs.LeadingLaws.{run-with}
use Rattle.table_order.specs.Rounds.{finals_of, lists_of, turns_of}
use Rattle.round_workers.specs.Parts.{HasDone}
use Rattle.worker_threads.specs.Round.{asked_in_round, IsRoundServed}
use Rattle.worker_threads.proofs.FilledLemmas.{HaveFive, filled_back, all_count, all_at}
use Rattle.worker_threads.proofs.ShapeLemmas.{AreShaped, shaped-count, run-workers}
use Rattle.worker_threads.proofs.RoundShapeLemmas.{AreKept, shaped-kept}
use Rattle.worker_threads.proofs.WorldLemmas.{same_worker, same_world}

module _ (functions : DigestFunctions) (settings : Settings) (script : List (List Task)) (logs : List (List Command)) (world later : World Content)
    (each : length logs ≡ length world.workers) (terms : Terms) (after : List code.Content) (rows : List Row)
    (is : IsRoundServed (shipped_host functions settings script) settings.absent script world later terms after rows) where
  abbrev host : Host Content Request
  host = shipped_host functions settings script

  abbrev before : World Content
  before = with_logs logs world

  abbrev lists : List (List (Turn Content Request))
  lists = lists_of rows

  -- as many rows as workers
  pub rows_are : length rows ≡ length world.workers
  rows_are = is.closed.all ∙ is.made.workers

  pub list_is : (i : ℕ) → list_of lists i ≡ turns_of (row_at rows i).list
  list_is i = get_or-map (λ (row : Row). turns_of row.list) rows i new_row

  -- a worker of the world, with its log or without
  pub of_world : {A : Type 0} (show : Worker → A) (i : ℕ) → show (unlogged (worker_at host before i)) ≡ show (unlogged (worker_at host world i))
  of_world show i = ap show (same_unlogged logs world.workers i (fresh settings.header))

  part : (i : ℕ) → i < length world.workers → HasDone terms (asked_in_round host script world i) (row_at rows i) (worker_at host world i) (worker_at host later i)
  part i there = is.parts i there

  -- the clock that a worker's turns leave
  pub clock_left : (i : ℕ) → i < length world.workers
      → (worker_at host later i).clock ≡ on_to (finals_of terms rows i) (clock_behind (worker_at host before i).clock (list_of lists i))
  clock_left i there =
      (part i there).so_far.clock
      ∙ ap (λ (clock : Reading). on_to (finals_of terms rows i) (clock_behind clock (turns_of (row_at rows i).list))) (sym (of_world (λ w. w.clock) i))
      ∙ ap (λ (turns : List (Turn Content Request)). on_to (finals_of terms rows i) (clock_behind (worker_at host before i).clock turns)) (sym (list_is i))

  module _ (five : HaveFive world.shards) (events : List (WorldEvent Request)) (top : ℕ) (pasts : List (List (List (Turn Content Request))))
      (ends : EndsWith host before (run_events host before events) top (finals_of terms rows) lists pasts)
      (contents : (place : ℕ) → place < place_count terms
      → content_at host (run_events host before events) (place_of place) ≡ shown_content (get_or after place Vacant))
      (flags : (i : ℕ) → i < length world.workers → (worker_at host later i).stopped ≡ (worker_at host (run_events host before events) i).stopped)
      (kept : AreKept world.shards (run_events host world events).shards) (five_behind : HaveFive (run_events host world events).shards)
      (newest : later.newest ≡ (run_events host before events).newest) (scanned : later.scanned ≡ (run_events host before events).scanned) where
    abbrev behind : World Content
    behind = run_events host before events

    abbrev run : World Content
    run = run_events host world events

    run_is : with_logs logs run ≡ behind
    run_is = run-with host logs world events

    run_count : length run.workers ≡ length world.workers
    run_count = run-workers host world events

    -- ---- the workers

    of_run : {A : Type 0} (show : Worker → A) (i : ℕ) → show (unlogged (worker_at host run i)) ≡ show (unlogged (worker_at host behind i))
    of_run show i =
        sym (ap show (same_unlogged logs run.workers i (fresh settings.header)))
        ∙ ap (λ (w : World Content). show (unlogged (worker_at host w i))) run_is

    module _ (i : ℕ) (there : i < length world.workers) where
      there_before : i < length before.workers
      there_before = let count = length-before_each logs world.workers in omega (arith, there, count)

      -- what the worker logged
      abbrev own : List Command
      own = logged (finals_of terms rows i) (worker_at host world i).clock (turns_of (row_at rows i).list)

      own_is : own ≡ logged (finals_of terms rows i) (worker_at host before i).clock (list_of lists i)
      own_is =
          ap (λ (clock : Reading). logged (finals_of terms rows i) clock (turns_of (row_at rows i).list)) (sym (of_world (λ w. w.clock) i))
          ∙ ap (λ (turns : List (Turn Content Request)). logged (finals_of terms rows i) (worker_at host before i).clock turns) (sym (list_is i))

      log_same : (worker_at host later i).log ≡ (worker_at host run i).log
      log_same =
          let front : List Command = get_or logs i [] in
          (part i there).so_far.log
          ∙ append_cancel_left front ((worker_at host world i).log ++ own) (worker_at host run i).log
          (sym (append_assoc front (worker_at host world i).log own)
          ∙ ap (λ (xs : List Command). xs ++ own) (sym (log_before logs world.workers i (fresh settings.header) each there))
          ∙ ap (λ (xs : List Command). (worker_at host before i).log ++ xs) own_is
          ∙ sym (ends.logs i there_before)
          ∙ ap (λ (w : World Content). (worker_at host w i).log) (sym run_is)
          ∙ log_before logs run.workers i (fresh settings.header) (each ∙ sym run_count) (omega (arith, there, run_count)))

      served_same : (worker_at host later i).served ≡ (worker_at host run i).served
      served_same =
          (part i there).so_far.served
          ∙ ap (λ (n : ℕ). served_behind n (turns_of (row_at rows i).list)) (sym (of_world (λ w. w.served) i))
          ∙ ap (served_behind (worker_at host before i).served) (sym (list_is i))
          ∙ sym (of_run (λ w. w.served) i ∙ ends.served i)

      one_same : worker_at host later i ≡ worker_at host run i
      one_same = same_worker (worker_at host later i) (worker_at host run i) log_same
          (clock_left i there ∙ sym (ends.clocks i there_before) ∙ sym (of_run (λ w. w.clock) i))
          served_same
          ((part i there).so_far.holds ∙ (is.begins.served.each i there).idle ∙ sym (of_run (λ w. w.holds) i ∙ ends.idle i there_before))
          (flags i there ∙ sym (of_run (λ w. w.stopped) i))
          ((part i there).so_far.stuck ∙ sym (of_run (λ w. w.stuck) i ∙ ends.stuck i ∙ of_world (λ w. w.stuck) i))

    workers_same : later.workers ≡ run.workers
    workers_same = ext_get_or (fresh settings.header) later.workers run.workers (is.count ∙ sym run_count)
        (λ i there. one_same i (omega (arith, there, is.count)))

    -- ---- the shards

    shaped : AreShaped world.shards run.shards
    shaped = shaped-kept world.shards run.shards kept five five_behind

    as_many : length (all_contents run.shards) ≡ length (map shown_content after)
    as_many =
        let one = all_count run.shards five_behind in
        let two = length-map after shown_content in
        omega (arith, one, two, shaped-count world.shards run.shards shaped, is.closed.as_many, is.made.places)

    all_same : all_contents run.shards ≡ map shown_content after
    all_same = ext_get_or vacant (all_contents run.shards) (map shown_content after) as_many at
      where
        at : (place : ℕ) → place < length (all_contents run.shards) → get_or (all_contents run.shards) place vacant ≡ get_or (map shown_content after) place vacant
        at place within =
            let one = all_count run.shards five_behind in
            all_at run.shards five_behind (place / 5) (place % 5) place vacant (omega (arith, within, one)) (omega arith) (omega arith)
            ∙ ap (λ (w : World Content). content_at host w (place_of place)) run_is
            ∙ contents place (omega (arith, within, one, shaped-count world.shards run.shards shaped, is.made.places))
            ∙ sym (get_or-map shown_content after place Vacant)

    shards_same : filled world.shards (map shown_content after) ≡ run.shards
    shards_same =
        ap (filled world.shards) (sym all_same) ∙ filled_back world.shards run.shards shaped

    -- The later world is the one that the events lead to.
    pub world_same : later ≡ run
    world_same =
        is.is
        ∙ same_world (record world { shards = filled world.shards (map shown_content after); workers = later.workers; newest = later.newest; scanned = later.scanned }) run
        shards_same workers_same
        (sym (ap (λ (w : World Content). w.phase) run_is ∙ ends.phase.0))
        (is.begins.served.phase ∙ sym (ap (λ (w : World Content). w.closing) run_is ∙ ends.phase.1))
        (is.begins.served.going ∙ sym (ap (λ (w : World Content). w.over) run_is ∙ ends.phase.2))
        (newest ∙ sym (ap (λ (w : World Content). w.newest) run_is))
        (scanned ∙ sym (ap (λ (w : World Content). w.scanned) run_is))
