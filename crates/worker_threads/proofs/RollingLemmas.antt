-- The round of a rolling host that was served at once: what its table tells leads from the world before it to the one behind it, and the
-- first end is that of the first worker that is stopped.
use Rattle.std.proofs.Common.{◌≡◌, ◌⊎◌, inl, inr, ℕ, zero, suc, ◌+◌, ◌-◌, ◌<◌, ◌≤◌, ◌||◌, max, Bool, true, false, List, [], ◌∷◌, ◌++◌, drop, length, get_or, slice_get, replicate, Option, Some, None, is_some, if◌then◌else◌, refl, sym, ◌∙◌, ap, subst, true≢false, arith}
use Rattle.std.specs.List.{AllByRecursion}
use Rattle.std.proofs.lemmas.Bool.{cases_lt}
use Rattle.std.proofs.lemmas.Option.{none-some}
use Rattle.std.proofs.lemmas.List.{length-replicate, get_or-replicate, ext_get_or}
use Rattle.lamport_clocks.specs.Reading.{Reading}
use Rattle.log_codec.specs.declared.command.Command.{Command}
use Rattle.record_hash.specs.Functions.{DigestFunctions}
use Rattle.record_text.specs.declared.request.Request.{Request}
use Rattle.merkle_records.specs.Merkle.{GivesDigests}
use Rattle.script_text.specs.declared.task.Task.{Task}
use Rattle.host_core.specs.Core.{IsStanding}
use Rattle.host_core.specs.Host.{Host, asked}
use Rattle.host_core.specs.World.{Worker, World, fresh, worker_at, scanned_at, epoch_of, set_up}
use Rattle.host_core.specs.WorldEvent.{WorldEvent, IsRoundOver, AreEnabled, run_events}
use Rattle.host_core.proofs.EventLaws.{enabled-append, run-append}
use Rattle.round_order.specs.Turn.{Turn, on_to, clock_behind, served_behind, content_at, in_one_order}
use Rattle.round_order.specs.Told.{IsLevel, AreTold, HasOneOrder, EndsWith, EndsWhole, EndsStopped, joined, list_of, finishes_from, round_events, whole_events, stop_events, stopped_events, stops_by}
use Rattle.round_order.proofs.GoingLaws.{on_to-epoch, on_to-there}
use Rattle.host_shard.specs.declared.content.Content as code
use Rattle.host_shard.specs.declared.content.Content.TheVariants.{Vacant}
use Rattle.host_shard.specs.Content.{Content}
use Rattle.host_shard.specs.Shown.{shown_content}
use Rattle.host_epochs.specs.declared.told.Stop.{Stop}
use Rattle.host_epochs.specs.declared.views.Row.{Row}
use Rattle.host_epochs.specs.Round.{row_at}
use Rattle.host_epochs.specs.Terms.{Terms, place_count, first_epoch}
use Rattle.host_fits.specs.Mirroring.{PlacesMirror}
use Rattle.shipped_host.specs.declared.settings.Settings.{Settings}
use Rattle.shipped_host.specs.ShippedHost.{shipped_host}
use Rattle.host_world.specs.declared.fault.ClockEnd.{ClockEnd}
use Rattle.host_world.specs.Behind.{IsBehindSetup, with_logs}
use Rattle.host_world.specs.Places.{place_of}
use Rattle.host_world.proofs.FrontLaws.{length-before_each}
use Rattle.host_serving.specs.Leading.{first_of, first_end, LeadsAs}
use Rattle.host_serving.specs.Loop.{KeepsToLoop}
use Rattle.host_serving.specs.Form.{AreOfRound, AreByWorker}
use Rattle.host_serving.specs.Standing.{asked_by, first_of_round, EndsRound}
use Rattle.host_serving.proofs.BeforeLaws.{rolling_last}
use Rattle.host_serving.proofs.FormLaws.{round-without}
use Rattle.host_serving.proofs.LeadingLaws.{run-with, first-with, first_end-append}
use Rattle.host_serving.proofs.TurnLaws.{round_served}
use Rattle.table_order.specs.Rounds.{AreTermsOf, AreThrough, AreTurnsOf, BeginsAt, IsTableOfRound, finals_of, lists_of, pasts_of, stops_of, turns_of}
use Rattle.table_order.specs.Rounds as told
use Rattle.round_workers.specs.Parts.{AreDone, HasDone, IsWhole}
use Rattle.worker_threads.specs.Phase.{first_stopped}
use Rattle.worker_threads.specs.Round.{asked_in_round, newest_of, noted_of, IsRoundServed}
use Rattle.worker_threads.proofs.EndLemmas.{unended}
use Rattle.worker_threads.proofs.FilledLemmas.{HaveFive}
use Rattle.worker_threads.proofs.LeadLemmas.{enabled-without}
use Rattle.worker_threads.proofs.LoopLemmas.{keeps_to_loop}
use Rattle.worker_threads.proofs.MakingLemmas.{five}
use Rattle.worker_threads.proofs.RoundAskedLemmas.{cut-none, are_next, asked_whole}
use Rattle.worker_threads.proofs.RoundShapeLemmas.{finishes-of, round-of, finishes-newest, run-kept, run-then-kept}
use Rattle.worker_threads.proofs.RoundStopLemmas.{by_worker_from, NoneFirst, SomeFirst, first_stop}
use Rattle.worker_threads.proofs.RoundWorldLemmas.{rows_are, list_is, of_world, clock_left, world_same}
use Rattle.worker_threads.proofs.ShapeLemmas.{IsOfRound}
use Rattle.stamp_order.proofs.InOrderLaws.{every-append}

-- ---- the newest epoch

-- none is past a bound that is past all,
pub newest-within : (low most : ℕ) (workers : List Worker) (d : Worker) → low ≤ most → ((i : ℕ) → i < length workers → (get_or workers i d).clock.at.epoch ≤ most)
    → newest_of low workers ≤ most
newest-within low most [] d within each = within
newest-within low most (worker ∷ workers) d within each =
    let own = each 0 (omega arith) in
    newest-within (max low worker.clock.at.epoch) most workers d (omega (arith, within, own)) (λ i there. each (suc i) (omega (arith, there)))

-- and it is not before any.
pub newest-low : (low : ℕ) (workers : List Worker) → low ≤ newest_of low workers
newest-low low [] = omega arith
newest-low low (worker ∷ workers) = let rest = newest-low (max low worker.clock.at.epoch) workers in omega (arith, rest)

pub newest-each : (low : ℕ) (workers : List Worker) (d : Worker) (i : ℕ) → i < length workers → (get_or workers i d).clock.at.epoch ≤ newest_of low workers
newest-each low [] d i there = absurd (omega (arith, there))
newest-each low (worker ∷ workers) d zero there = let rest = newest-low (max low worker.clock.at.epoch) workers in omega (arith, rest)
newest-each low (worker ∷ workers) d (suc i) there = newest-each (max low worker.clock.at.epoch) workers d i (omega (arith, there))

-- a clock that was brought to an epoch stands at that epoch of its own
on_to-again : (epoch : ℕ) (clock : Reading) → on_to epoch clock ≡ on_to (on_to epoch clock).at.epoch clock
on_to-again epoch clock = go (cases_lt clock.at.epoch epoch)
  where
    go : (clock.at.epoch < epoch) ⊎ (epoch ≤ clock.at.epoch) → on_to epoch clock ≡ on_to (on_to epoch clock).at.epoch clock
    go (inl less) = ap (λ (n : ℕ). on_to n clock) (sym (on_to-epoch epoch clock (omega (arith, less))))
    go (inr there) =
        on_to-there epoch clock there ∙ sym (on_to-there clock.at.epoch clock (omega arith))
        ∙ ap (λ (c : Reading). on_to c.at.epoch clock) (sym (on_to-there epoch clock there))

module _ (functions : DigestFunctions) (settings : Settings) (script : List (List Task)) (logs : List (List Command)) (world later : World Content)
    (each : length logs ≡ length world.workers) (terms : Terms) (after : List code.Content) (rows : List Row)
    (is : IsRoundServed (shipped_host functions settings script) settings.absent script world later terms after rows)
    (digests : GivesDigests functions.digest) (behind : IsBehindSetup functions settings script (with_logs logs world)) (rolling : settings.rolling ≡ true)
    (stands : (w : World Content) → IsBehindSetup functions settings script w → IsStanding (PlacesMirror functions settings) (shipped_host functions settings script) w)
    (level : IsLevel (shipped_host functions settings script) (with_logs logs world) (first_epoch terms)) where
  abbrev host : Host Content Request
  host = shipped_host functions settings script

  abbrev before : World Content
  before = with_logs logs world

  abbrev first : ℕ
  first = first_epoch terms

  abbrev finals : ℕ → ℕ
  finals = finals_of terms rows

  abbrev lists : List (List (Turn Content Request))
  lists = lists_of rows

  -- the epoch in which it begins is the bundle's first
  pub is_first : first ≡ settings.header.first
  is_first =
      let none : first_of_round host world ≡ 0 = ap (λ (b : Bool). if b then 0 else world.phase) rolling in
      omega (arith, is.epoch, none)

  count : length before.workers ≡ length world.workers
  count = length-before_each logs world.workers

  some : 0 < length world.workers
  some = omega (arith, count, (stands before behind).workers, behind.settings_fit.header.some_verifiers)

  last : length host.script ≤ suc world.phase
  last = subst (λ (w : World Content). length host.script ≤ suc w.phase) (sym behind.is) (rolling_last host rolling behind.events)

  -- ---- what was done

  served_none : (i : ℕ) → i < length world.workers → (worker_at host before i).served ≡ 0
  served_none i there = of_world functions settings script logs world later each terms after rows is (λ w. w.served) i ∙ go (is.begins.served.each i there).served
    where
      none : asked_by host i (first_of_round host world) 0 ≡ 0
      none = ap (λ (b : Bool). asked_by host i (if b then 0 else world.phase) 0) rolling

      go : ((worker_at host world i).stopped ≡ true)
          ⊎ (((worker_at host world i).stopped ≡ false) × ((worker_at host world i).served ≡ asked_by host i (first_of_round host world) 0))
          → (worker_at host world i).served ≡ 0
      go (inl stopped) = absurd (true≢false (sym stopped ∙ is.running i there))
      go (inr served) = served.1 ∙ none

  -- what the worker tells was next, and this is left
  done_next : (i : ℕ) (there : i < length world.workers)
      → told.AreNext host i (worker_at host before i).served (row_at rows i).list
      × (drop (served_behind (worker_at host before i).served (turns_of (row_at rows i).list)) (asked host i) ≡ (is.parts i there).rest)
      × (served_behind (worker_at host before i).served (turns_of (row_at rows i).list) ≤ length (asked host i))
  done_next i there =
      are_next host first i is_first (worker_at host before i).served (asked host i) (is.parts i there).rest (row_at rows i).list
      (let none = served_none i there in omega (arith, none))
      (ap (λ (n : ℕ). drop n (asked host i)) (served_none i there))
      (subst (λ (asks : List (ℕ × Request)). AreDone first asks (row_at rows i).list (is.parts i there).rest)
      (asked_whole functions settings script i world rolling is.begins.served.within last) (is.parts i there).so_far.done)

  turns : (i : ℕ) → i < length before.workers → AreTurnsOf host before i (row_at rows i)
  turns i within = record {
    running = of_world functions settings script logs world later each terms after rows is (λ w. w.stopped) i ∙ is.running i there;
    begins = subst (λ (clock : Reading). BeginsAt clock (row_at rows i).list)
        (sym (of_world functions settings script logs world later each terms after rows is (λ w. w.clock) i)) part.so_far.begins;
    next = (done_next i there).0;
    ends = λ stop found. part_ends stop found;
  }
    where
      there : i < length world.workers
      there = omega (arith, within, count)

      part : HasDone terms (asked_in_round host script world i) (row_at rows i) (worker_at host world i) (worker_at host later i)
      part = is.parts i there

      clock_is : (worker_at host later i).clock ≡ on_to (first + (row_at rows i).entered) (clock_behind (worker_at host before i).clock (turns_of (row_at rows i).list))
      clock_is =
          part.so_far.clock
          ∙ ap (λ (clock : Reading). on_to (first + (row_at rows i).entered) (clock_behind clock (turns_of (row_at rows i).list)))
          (sym (of_world functions settings script logs world later each terms after rows is (λ w. w.clock) i))

      part_ends : (stop : Stop) → (row_at rows i).stop ≡ Some stop
          → stop.clock ≡ on_to stop.clock.at.epoch (clock_behind (worker_at host before i).clock (turns_of (row_at rows i).list))
      part_ends stop found =
          let left = clock_behind (worker_at host before i).clock (turns_of (row_at rows i).list) in
          let at : stop.clock ≡ on_to (first + (row_at rows i).entered) left = (part.so_far.ended stop found).clock_is ∙ clock_is in
          at ∙ on_to-again (first + (row_at rows i).entered) left ∙ ap (λ (clock : Reading). on_to clock.at.epoch left) (sym at)

  -- The table is that of a round.
  pub table : IsTableOfRound functions settings script before terms rows
  table = record {
    digests = digests;
    behind = behind;
    level = level;
    newest = λ _. (is.begins.newest rolling ∙ sym is_first, (stands before behind).marks);
    made = record {
      header = is.made.header;
      digest = is.made.digest;
      absent_is = is.made.absent_is;
      workers = is.made.workers ∙ sym count;
      places = is.made.places;
      contents = is.made.contents;
      final = is.made.final;
    };
    turns = turns;
  }

  -- Where there is one worker, it keeps to its loop.
  keeps_loop : length before.workers ≡ 1 → KeepsToLoop host (worker_at host before 0).served before.newest (list_of lists 0)
  keeps_loop one =
      let alone : terms.workers ≡ 1 = is.made.workers ∙ sym count ∙ one in
      let asks : List (ℕ × Request) = asked_in_round host script world 0 in
      let cut : drop (worker_at host before 0).served (asked host 0) ≡ asks =
      ap (λ (n : ℕ). drop n (asked host 0)) (served_none 0 some)
      ∙ sym (asked_whole functions settings script 0 world rolling is.begins.served.within last) in
      subst (λ (epoch : ℕ). KeepsToLoop host (worker_at host before 0).served epoch (list_of lists 0)) (sym (table.newest rolling).0)
      (subst (KeepsToLoop host (worker_at host before 0).served first)
      (sym (list_is functions settings script logs world later each terms after rows is 0))
      (keeps_to_loop functions settings script terms alone is_first (worker_at host before 0).served asks (is.parts 0 some).rest (row_at rows 0)
      (worker_at host world 0) (worker_at host later 0) (is.closed.own 0 (omega (arith, alone))).own cut (is.parts 0 some).so_far))

  -- ---- the worlds behind events

  behind_run : (events : List (WorldEvent Request)) → AreEnabled host before events → IsBehindSetup functions settings script (run_events host before events)
  behind_run events enabled = record {
    settings_fit = behind.settings_fit;
    counters = behind.counters;
    keys = behind.keys;
    values = behind.values;
    events = behind.events ++ events;
    enabled = enabled-append host (set_up host) behind.events events behind.enabled (subst (λ (w : World Content). AreEnabled host w events) behind.is enabled);
    is = ap (λ (w : World Content). run_events host w events) behind.is ∙ sym (run-append host (set_up host) behind.events events);
  }

  five_before : HaveFive world.shards
  five_before = five functions settings script before (stands before behind)

  five_run : (events : List (WorldEvent Request)) → AreEnabled host before events → HaveFive (run_events host world events).shards
  five_run events enabled =
      subst HaveFive (ap (λ (w : World Content). w.shards) (sym (run-with host logs world events)))
      (five functions settings script (run_events host before events) (stands (run_events host before events) (behind_run events enabled)))

  module _ (pasts : List (List (List (Turn Content Request)))) (newest : ℕ)
      (told_of : AreTold host settings.rolling before (first + newest) finals lists pasts)
      (order : HasOneOrder host before first (first + newest) finals lists pasts)
      (contents : (place : ℕ) → place < place_count terms
      → let events = round_events finals (length before.workers) (first + newest) first (in_one_order (joined lists)) in
      content_at host (run_events host before events) (place_of place) ≡ shown_content (get_or after place Vacant))
      (entered : (i : ℕ) → i < length world.workers → (row_at rows i).entered ≤ newest) where
    abbrev turn_events : List (WorldEvent Request)
    turn_events = round_events finals (length before.workers) (first + newest) first (in_one_order (joined lists))

    standing : length world.scanned ≡ length world.workers
    standing = (stands before behind).marks ∙ count

    -- the epoch of a worker's last clock
    pub epoch_left : (i : ℕ) → i < length world.workers → (worker_at host later i).clock.at.epoch ≡ first + (row_at rows i).entered
    epoch_left i there =
        ap (λ (clock : Reading). clock.at.epoch) (clock_left functions settings script logs world later each terms after rows is i there)
        ∙ on_to-epoch (finals i) (clock_behind (worker_at host before i).clock (list_of lists i)) (told_of.final i (omega (arith, there, count))).0

    contents_end : (top : ℕ) (w : World Content) → EndsWith host before w top finals lists pasts → (place : ℕ) → place < place_count terms
        → content_at host w (place_of place) ≡ shown_content (get_or after place Vacant)
    contents_end top w ends place there = ends.contents (place_of place) ∙ sym (order.ends.contents (place_of place)) ∙ contents place there

    flag_is : (i : ℕ) → i < length world.workers → (worker_at host later i).stopped ≡ is_some (row_at rows i).stop
    flag_is i there = (is.parts i there).so_far.stopped

    running_before : (i : ℕ) → (worker_at host before i).stopped ≡ (worker_at host world i).stopped
    running_before i = of_world functions settings script logs world later each terms after rows is (λ w. w.stopped) i

    -- ---- all are through

    module _ (none : NoneFirst 0 rows later.workers) where
      whole_part : (i : ℕ) (there : i < length world.workers) → IsWhole terms.more (is.parts i there).rest (row_at rows i)
      whole_part i there = (is.parts i there).whole (none.each i (omega (arith, there, is.count))) (unwarned (row_at rows i).warned refl)
        where
          unwarned : (b : Bool) → (row_at rows i).warned ≡ b → (row_at rows i).warned ≡ false
          unwarned false is_not = is_not
          unwarned true warned =
              let stop = is.closed.warned i (omega (arith, there, is.made.workers)) warned in
              absurd (none-some stop.stop (sym (none.each stop.worker (omega (arith, stop.known, is.made.workers, is.count))) ∙ stop.is))

      pub through : AreThrough host before terms rows
      through = record {
        done = λ i within. (whole_part i (omega (arith, within, count))).done;
        served = λ i within.
            let there : i < length world.workers = omega (arith, within, count) in
            cut-none (asked host i) (served_behind (worker_at host before i).served (turns_of (row_at rows i).list))
            ((done_next i there).1 ∙ (whole_part i there).served);
      }

      -- the newest epoch is the last phase's, and all came to it
      all_come : newest ≤ terms.more → newest ≡ terms.more
      all_come within = let most = entered 0 some in let all = (whole_part 0 some).entered in omega (arith, within, most, all)

      module _ (within : newest ≤ terms.more) (ends : EndsWhole host before first (first + newest) finals lists pasts) where
        abbrev whole : List (WorldEvent Request)
        whole = whole_events before finals (first + newest) first lists

        abbrev run : World Content
        run = run_events host before whole

        later_newest : later.newest ≡ first + newest
        later_newest =
            is.notes.newest rolling
            ∙ both (newest_of settings.header.first later.workers)
            (newest-within settings.header.first (first + newest) later.workers (fresh settings.header) (omega (arith, is_first))
            (λ i there. let here = epoch_left i (omega (arith, there, is.count)) in let most = entered i (omega (arith, there, is.count)) in omega (arith, here, most)))
            (newest-each settings.header.first later.workers (fresh settings.header) 0 (omega (arith, some, is.count)))
          where
            both : (n : ℕ) → n ≤ first + newest → (worker_at host later 0).clock.at.epoch ≤ n → n ≡ first + newest
            both n most least =
                let here = epoch_left 0 some in
                let own = (whole_part 0 some).entered in
                let all = all_come within in
                omega (arith, most, least, here, own, all)

        run_newest : run.newest ≡ first + newest
        run_newest =
            ap (λ (w : World Content). w.newest) (run-append host before turn_events (finishes_from 0 (length before.workers)))
            ∙ finishes-newest host (run_events host before turn_events) 0 (length before.workers)
            ∙ go (cases_lt first (first + newest))
          where
            go : (first < first + newest) ⊎ (first + newest ≤ first) → (run_events host before turn_events).newest ≡ first + newest
            go (inl less) = order.raised.newest less
            go (inr same) = (order.raised.still (omega (arith, same))).0 ∙ (table.newest rolling).0 ∙ omega (arith, same)

        marks_count : length run.scanned ≡ length world.scanned
        marks_count = ends.ends.counts.2

        top_is : first + newest ≡ epoch_of host world
        top_is = ap (λ (n : ℕ). first + n) (all_come within) ∙ is.made.final

        later_scanned : later.scanned ≡ run.scanned
        later_scanned =
            is.notes.scanned rolling
            ∙ ap (λ (e : Option ClockEnd). replicate (length world.scanned) (noted_of e settings.header.first later.newest)) none.ended
            ∙ ext_get_or settings.header.first (replicate (length world.scanned) later.newest) run.scanned
            (length-replicate (length world.scanned) later.newest ∙ sym marks_count)
            (λ i within'.
            let there : i < length world.scanned = omega (arith, within', length-replicate (length world.scanned) later.newest) in
            get_or-replicate (length world.scanned) i later.newest settings.header.first there
            ∙ later_newest ∙ top_is ∙ ap (λ (n : ℕ). settings.header.first + n) (sym ends.ends.phase.0)
            ∙ sym (ends.over i (omega (arith, there, standing, count, ends.ends.counts.0))).2)

        quiet_run : AllByRecursion IsOfRound whole
        quiet_run = every-append IsOfRound turn_events (finishes_from 0 (length before.workers))
            (round-of finals (length before.workers) (first + newest) first (in_one_order (joined lists))) (finishes-of Request 0 (length before.workers))

        later_is : later ≡ run_events host world whole
        later_is = world_same functions settings script logs world later each terms after rows is five_before whole (first + newest) pasts ends.ends
            (contents_end (first + newest) run ends.ends)
            (λ i there. flag_is i there ∙ ap (λ (o : Option Stop). is_some o) (none.each i (omega (arith, there, is.count)))
            ∙ sym (ends.over i (omega (arith, there, count, ends.ends.counts.0))).0)
            (run-kept host world whole quiet_run) (five_run whole ends.enabled) (later_newest ∙ sym run_newest) later_scanned

        pub leads_whole : LeadsAs AreOfRound host world later (first_stopped 0 later.workers)
        leads_whole = record {
          events = whole;
          enabled = enabled-without host logs world whole ends.enabled;
          is = later_is;
          first = sym (first-with host logs world whole)
              ∙ unended host before whole quiet_run ends.enabled (λ i there. (ends.over i (omega (arith, there, ends.ends.counts.0))).0)
              ∙ sym none.ended;
          form = round-without host logs world whole (record {
            plain = λ plain. absurd (true≢false (sym rolling ∙ plain));
            rolling = λ _. inr (record {
              top = first + newest;
              finals = finals;
              lists = lists;
              pasts = pasts;
              stops = [];
              told = told_of;
              loop = keeps_loop;
              by_worker = tt;
              are = ap (λ (n : ℕ). whole_events before finals (first + newest) n lists) (sym (table.newest rolling).0);
            });
          });
        }

        later_phase : later.phase ≡ world.phase
        later_phase = ap (λ (w : World Content). w.phase) is.is

        round_over : IsRoundOver host later
        round_over i within' =
            let there : i < length world.workers = omega (arith, within', is.count) in
            let over = ends.over i (omega (arith, there, count, ends.ends.counts.0)) in (
              flag_is i there ∙ ap (λ (o : Option Stop). is_some o) (none.each i within'),
              ap (slice_get (asked host i)) ((is.parts i there).so_far.served
                  ∙ ap (λ (n : ℕ). served_behind n (turns_of (row_at rows i).list)) (sym (of_world functions settings script logs world later each terms after rows is (λ w. w.served) i)))
                  ∙ through.served i (omega (arith, there, count)),
              ap (λ (marks : List ℕ). get_or marks i settings.header.first) later_scanned ∙ over.2
                  ∙ ap (λ (n : ℕ). settings.header.first + n) (ends.ends.phase.0 ∙ sym later_phase),
            )

        pub served_out : EndsRound host later
        served_out = inl (round_served host later
            (ap (λ (w : World Content). w.over) is.is ∙ is.begins.served.going)
            (ap (λ (w : World Content). w.closing) is.is ∙ is.begins.served.phase)
            (subst (λ (n : ℕ). n < length host.script) (sym later_phase) is.begins.served.within)
            (omega (arith, last, later_phase))
            (λ i within'.
            let there : i < length world.workers = omega (arith, within', is.count) in (
              (is.parts i there).so_far.holds ∙ (is.begins.served.each i there).idle,
              (is.parts i there).so_far.stuck ∙ (is.begins.served.each i there).going,
              subst (λ (n : ℕ). n ≤ length (asked host i))
                  (sym ((is.parts i there).so_far.served
                  ∙ ap (λ (n : ℕ). served_behind n (turns_of (row_at rows i).list)) (sym (of_world functions settings script logs world later each terms after rows is (λ w. w.served) i))))
                  (done_next i there).2,
            ))
            round_over)

    -- ---- some stopped

    module _ (found : SomeFirst (fresh settings.header) 0 rows later.workers) (least : newest_of settings.header.first later.workers ≡ first + newest)
        (flags : (worker : ℕ) → worker < length rows → stops_by worker (stops_of rows) ≡ is_some (row_at rows worker).stop)
        (ends_all : EndsStopped host before first (first + newest) finals lists pasts (stops_of rows)) where
      abbrev stopped : List (WorldEvent Request)
      stopped = stopped_events before finals (first + newest) first lists (found.stop ∷ found.others)

      abbrev halted : World Content
      halted = run_events host before stopped

      abbrev middle : World Content
      middle = run_events host before turn_events

      ends : EndsStopped host before first (first + newest) finals lists pasts (found.stop ∷ found.others)
      ends = subst (EndsStopped host before first (first + newest) finals lists pasts) found.stops ends_all

      stopped_newest : later.newest ≡ first + newest
      stopped_newest = is.notes.newest rolling ∙ least

      halted_newest : halted.newest ≡ first + newest
      halted_newest = go (cases_lt first (first + newest))
        where
          go : (first < first + newest) ⊎ (first + newest ≤ first) → halted.newest ≡ first + newest
          go (inl less) = ends.raised.newest less
          go (inr same) = (ends.raised.still (omega (arith, same))).0 ∙ (table.newest rolling).0 ∙ omega (arith, same)

      abbrev noted : ℕ
      noted = max (later.newest - 1) settings.header.first

      mark_is : (i : ℕ) → i < length world.workers → noted ≡ scanned_at host halted i
      mark_is i there = go (cases_lt first (first + newest))
        where
          go : (first < first + newest) ⊎ (first + newest ≤ first) → noted ≡ scanned_at host halted i
          go (inl less) = let mark = ends.raised.marks less i (omega (arith, there, count)) in omega (arith, mark, stopped_newest, is_first, less)
          go (inr same) =
              let here : noted ≡ settings.header.first = omega (arith, stopped_newest, is_first, same) in
              here ∙ sym (is.begins.marks rolling i there)
              ∙ ap (λ (marks : List ℕ). get_or marks i settings.header.first) (sym (ends.raised.still (omega (arith, same))).1)

      halted_scanned : later.scanned ≡ halted.scanned
      halted_scanned =
          is.notes.scanned rolling
          ∙ ap (λ (e : Option ClockEnd). replicate (length world.scanned) (noted_of e settings.header.first later.newest)) found.ended
          ∙ ext_get_or settings.header.first (replicate (length world.scanned) noted) halted.scanned
          (length-replicate (length world.scanned) noted ∙ sym ends.ends.counts.2)
          (λ i within'.
          let there : i < length world.scanned = omega (arith, within', length-replicate (length world.scanned) noted) in
          get_or-replicate (length world.scanned) i noted settings.header.first there ∙ mark_is i (omega (arith, there, standing)))

      flag_run : (i : ℕ) → i < length world.workers → (worker_at host later i).stopped ≡ (worker_at host halted i).stopped
      flag_run i there =
          flag_is i there ∙ sym (flags i (omega (arith, there, rows_are functions settings script logs world later each terms after rows is)))
          ∙ ap (stops_by i) found.stops
          ∙ ap (λ (b : Bool). b || stops_by i (found.stop ∷ found.others)) (sym (running_before i ∙ is.running i there))
          ∙ sym (ends.stopped i (omega (arith, there, count)))

      halted_is : later ≡ run_events host world stopped
      halted_is = world_same functions settings script logs world later each terms after rows is five_before stopped (first + newest) pasts ends.ends
          (contents_end (first + newest) halted ends.ends) flag_run
          (run-then-kept host world turn_events (found.stop ∷ found.others) (round-of finals (length before.workers) (first + newest) first (in_one_order (joined lists))))
          (five_run stopped ends.enabled) (stopped_newest ∙ sym halted_newest) halted_scanned

      -- no clock ended in the turns
      none_ended : first_end host before turn_events ≡ None
      none_ended = unended host before turn_events (round-of finals (length before.workers) (first + newest) first (in_one_order (joined lists))) order.enabled
          (λ i there. order.stopped i ∙ running_before i ∙ is.running i (omega (arith, there, count, order.ends.counts.0)))

      own_is : found.stop.worker ≡ found.k
      own_is = let own = found.own in omega (arith, own)

      clock_there : (worker_at host middle found.stop.worker).clock.at ≡ (get_or later.workers found.k (fresh settings.header)).clock.at
      clock_there =
          ap (λ (n : ℕ). (worker_at host middle n).clock.at) own_is
          ∙ ap (λ (clock : Reading). clock.at) (order.ends.clocks found.k (omega (arith, found.there, is.count, count))
          ∙ sym (clock_left functions settings script logs world later each terms after rows is found.k (omega (arith, found.there, is.count))))

      first_is : first_end host before stopped ≡ first_stopped 0 later.workers
      first_is =
          first_end-append host before turn_events (stop_events (found.stop ∷ found.others))
          ∙ ap (λ (e : Option ClockEnd). first_of e (first_end host middle (stop_events (found.stop ∷ found.others)))) none_ended
          ∙ (λ j. Some (record { worker = found.own j; at = clock_there j }))
          ∙ sym found.ended

      pub leads_stopped : LeadsAs AreOfRound host world later (first_stopped 0 later.workers)
      leads_stopped = record {
        events = stopped;
        enabled = enabled-without host logs world stopped ends.enabled;
        is = halted_is;
        first = sym (first-with host logs world stopped) ∙ first_is;
        form = round-without host logs world stopped (record {
          plain = λ plain. absurd (true≢false (sym rolling ∙ plain));
          rolling = λ _. inr (record {
            top = first + newest;
            finals = finals;
            lists = lists;
            pasts = pasts;
            stops = found.stop ∷ found.others;
            told = told_of;
            loop = keeps_loop;
            by_worker = subst (AreByWorker 0) found.stops (by_worker_from 0 0 rows (omega arith));
            are = ap (λ (n : ℕ). stopped_events before finals (first + newest) n lists (found.stop ∷ found.others)) (sym (table.newest rolling).0);
          });
        });
      }

  pub ends_stopped : SomeFirst (fresh settings.header) 0 rows later.workers → EndsRound host later
  ends_stopped found = inr (record {
    rolling = rolling;
    going = ap (λ (w : World Content). w.over) is.is ∙ is.begins.served.going;
    phase = ap (λ (w : World Content). w.closing) is.is ∙ is.begins.served.phase;
    within = subst (λ (n : ℕ). n < length host.script) (ap (λ (w : World Content). w.phase) (sym is.is)) is.begins.served.within;
    idle = λ i within'.
        let there : i < length world.workers = omega (arith, within', is.count) in
        (is.parts i there).so_far.holds ∙ (is.begins.served.each i there).idle;
    stopped = (found.k, found.there, found.stopped);
  })

  -- the stops come first as the workers' flags say
  pub first_found : NoneFirst 0 rows later.workers ⊎ SomeFirst (fresh settings.header) 0 rows later.workers
  first_found = first_stop (fresh settings.header) 0 rows later.workers
      (rows_are functions settings script logs world later each terms after rows is ∙ sym is.count)
      (λ k there. (is.parts k (omega (arith, there, is.count))).so_far.stopped)
