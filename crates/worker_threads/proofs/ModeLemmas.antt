-- A round that was served at once, in a host of either mode.
use Rattle.std.proofs.Common.{◌≡◌, ◌⊎◌, inl, inr, ℕ, suc, ◌+◌, ◌-◌, ◌<◌, ◌≤◌, Bool, true, false, List, [], map, length, get_or, refl, sym, ◌∙◌, ap, subst, is_some, true≢false, arith}
use Rattle.stamp_order.proofs.InOrderLaws.{every-weaker}
use Rattle.log_codec.specs.declared.command.Command.{Command}
use Rattle.merkle_records.specs.Merkle.{GivesDigests}
use Rattle.record_hash.specs.Functions.{DigestFunctions}
use Rattle.record_text.specs.declared.element.Element.{Element}
use Rattle.record_text.specs.declared.request.Request.{Request}
use Rattle.script_text.specs.declared.task.Task.{Task}
use Rattle.host_core.specs.Core.{IsStanding}
use Rattle.host_core.specs.Host.{Host}
use Rattle.host_core.specs.World.{World, fresh, worker_at}
use Rattle.host_core.specs.WorldEvent.{run_events}
use Rattle.round_order.specs.Turn.{Turn, content_at, content_behind, in_one_order}
use Rattle.round_order.specs.Told.{IsLevel, AreTold, HasOneOrder, EndsWhole, EndsStopped, joined, past_of, round_events, stops_by}
use Rattle.host_shard.specs.declared.content.Content as code
use Rattle.host_shard.specs.declared.content.Content.TheVariants.{Vacant}
use Rattle.host_shard.specs.Content.{Content}
use Rattle.host_shard.specs.Shown.{shown_content}
use Rattle.host_epochs.specs.declared.views.Row as rounds
use Rattle.host_epochs.specs.Round.{row_at}
use Rattle.host_epochs.specs.Terms.{Terms, place_count, first_epoch}
use Rattle.host_table.specs.declared.views.Row.{Row}
use Rattle.host_table.specs.Services.{row_of}
use Rattle.host_table.specs.Terms.{phase_of}
use Rattle.host_table.proofs.RoundLaws.{round_phase, row_at_phase}
use Rattle.host_fits.specs.Mirroring.{PlacesMirror}
use Rattle.shipped_host.specs.declared.settings.Settings.{Settings}
use Rattle.shipped_host.specs.ShippedHost.{shipped_host}
use Rattle.host_world.specs.Behind.{IsBehindSetup, with_logs}
use Rattle.host_world.specs.Lending.{filled}
use Rattle.host_world.specs.Places.{place_of}
use Rattle.host_world.proofs.FrontLaws.{length-before_each, clock_with}
use Rattle.host_serving.specs.Leading.{LeadsAs}
use Rattle.host_serving.specs.Form.{AreOfPhase, AreOfRound}
use Rattle.host_serving.specs.Standing.{first_of_round, IsServedUpTo, EndsRound}
use Rattle.host_serving.proofs.BeforeLaws.{first_plain}
use Rattle.table_order.specs.Rounds.{AreThrough, finals_of, lists_of, pasts_of, stops_of}
use Rattle.round_workers.specs.Parts as parts
use Rattle.worker_threads.specs.Parts.{asked_of, HasDone}
use Rattle.worker_threads.specs.Phase.{IsServedAtOnce, first_stopped}
use Rattle.worker_threads.specs.Round.{newest_of, IsRoundServed}
use Rattle.worker_threads.proofs.PlainLemmas.{has_done_plain}
use Rattle.worker_threads.proofs.RoundAskedLemmas.{asked_plain}
use Rattle.worker_threads.proofs.RoundStopLemmas.{NoneFirst, SomeFirst}
use Rattle.worker_threads.proofs.RollingLemmas.{is_first, newest-within, newest-low, newest-each, epoch_left, through, leads_whole, served_out, leads_stopped, ends_stopped, first_found}

pub by_mode : {A : Type 0} (b : Bool) → (b ≡ false → A) → (b ≡ true → A) → A
by_mode false plain rolling = plain refl
by_mode true plain rolling = rolling refl

module _ (functions : DigestFunctions) (settings : Settings) (script : List (List Task)) (logs : List (List Command)) (world later : World Content)
    (each : length logs ≡ length world.workers) (terms : Terms) (after : List code.Content) (rows : List rounds.Row)
    (is : IsRoundServed (shipped_host functions settings script) settings.absent script world later terms after rows) where
  abbrev host : Host Content Request
  host = shipped_host functions settings script

  abbrev before : World Content
  before = with_logs logs world

  module _ (level : IsLevel (shipped_host functions settings script) (with_logs logs world) (first_epoch terms)) where
    -- ---- a host that is not rolling

    module _ (plain : settings.rolling ≡ false) where
      abbrev phase_rows : List Row
      phase_rows = map row_of rows

      phase_is : first_of_round host world ≡ world.phase
      phase_is = first_plain host plain world

      one : terms.more ≡ 0
      one = let final = is.made.final in omega (arith, final, is.epoch, phase_is)

      here : (i : ℕ) → i < length world.workers → (worker_at host world i).clock.at.epoch ≡ first_epoch terms
      here i there =
          ap (λ clock. clock.at.epoch) (sym (clock_with host logs world i))
          ∙ level.clocks i (let count = length-before_each logs world.workers in omega (arith, there, count))

      -- It was a phase served at once.
      pub phase_served : IsServedAtOnce host settings.absent (get_or script world.phase []) world later (phase_of terms) after phase_rows
      phase_served = record {
        begins = subst (λ (n : ℕ). IsServedUpTo host world n 0) phase_is is.begins.served;
        running = is.running;
        made = record {
          header = is.made.header;
          digest = is.made.digest;
          absent_is = is.made.absent_is;
          workers = is.made.workers;
          places = is.made.places;
          contents = is.made.contents;
        };
        closed = round_phase terms one after rows is.closed;
        count = is.count;
        parts = λ i there.
            let asks = asked_of i (get_or script world.phase []) in
            let part = subst (λ (all : List (ℕ × Request)). parts.HasDone terms all (row_at rows i) (worker_at host world i) (worker_at host later i))
            (asked_plain functions settings script i world plain) (is.parts i there) in
            subst (λ (row : Row). HasDone asks row (worker_at host world i) (worker_at host later i)) (sym (row_at_phase rows i))
            (has_done_plain terms one i asks (row_at rows i) (worker_at host world i) (worker_at host later i)
            (is.closed.own i (let told = is.made.workers in omega (arith, there, told))) (here i there) part);
        is = is.is ∙ (λ k. record world {
          shards = filled world.shards (map shown_content after);
          workers = later.workers;
          newest = (is.notes.plain plain).0 k;
          scanned = (is.notes.plain plain).1 k;
        });
      }

      pub leads_plain : LeadsAs AreOfPhase host world later (first_stopped 0 later.workers) → LeadsAs AreOfRound host world later (first_stopped 0 later.workers)
      leads_plain way = record {
        events = way.events;
        enabled = way.enabled;
        is = way.is;
        first = way.first;
        form = record { plain = λ _. way.form; rolling = λ rolling. absurd (true≢false (sym rolling ∙ plain)) };
      }

    -- ---- a rolling host

    module _ (digests : GivesDigests functions.digest) (behind : IsBehindSetup functions settings script (with_logs logs world)) (rolling : settings.rolling ≡ true)
        (stands : (w : World Content) → IsBehindSetup functions settings script w → IsStanding (PlacesMirror functions settings) (shipped_host functions settings script) w) where
      abbrev first : ℕ
      first = first_epoch terms

      abbrev finals : ℕ → ℕ
      finals = finals_of terms rows

      abbrev lists : List (List (Turn Content Request))
      lists = lists_of rows

      abbrev pasts : List (List (List (Turn Content Request)))
      pasts = pasts_of (length before.shards) is.closed.past

      abbrev Ends : ℕ → Type 0
      Ends newest = (place : ℕ) → place < place_count terms
          → let events = round_events finals (length before.workers) (first + newest) first (in_one_order (joined lists)) in
          content_at host (run_events host before events) (place_of place) ≡ shown_content (get_or after place Vacant)

      module _ (told_of : AreTold host settings.rolling before (first + is.closed.newest) finals lists pasts)
          (order : HasOneOrder host before first (first + is.closed.newest) finals lists pasts)
          (contents : Ends is.closed.newest)
          (whole : AreThrough host before terms rows → EndsWhole host before first (first + is.closed.newest) finals lists pasts)
          (order_to : (newest : ℕ) → newest ≤ is.closed.newest → ((worker : ℕ) → worker < terms.workers → (row_at rows worker).entered ≤ newest)
          → HasOneOrder host before first (first + newest) finals lists pasts)
          (stopped_to : (newest : ℕ) → newest ≤ is.closed.newest → ((worker : ℕ) → worker < terms.workers → (row_at rows worker).entered ≤ newest)
          → EndsStopped host before first (first + newest) finals lists pasts (stops_of rows))
          (flags : (worker : ℕ) → worker < length rows → stops_by worker (stops_of rows) ≡ is_some (row_at rows worker).stop) where
        entered : (i : ℕ) → i < length world.workers → (row_at rows i).entered ≤ is.closed.newest
        entered i there = is.closed.entered i (let told = is.made.workers in omega (arith, there, told))

        at_first : first ≡ settings.header.first
        at_first = is_first functions settings script logs world later each terms after rows is digests behind rolling stands level

        -- ---- some stopped

        -- how many epochs the first of them came to
        abbrev come : ℕ
        come = newest_of settings.header.first later.workers - first

        epoch_at : (i : ℕ) → i < length world.workers → (worker_at host later i).clock.at.epoch ≡ first + (row_at rows i).entered
        epoch_at = epoch_left functions settings script logs world later each terms after rows is digests behind rolling stands level pasts is.closed.newest told_of order contents entered

        come_within : newest_of settings.header.first later.workers ≤ first + is.closed.newest
        come_within =
            newest-within settings.header.first (first + is.closed.newest) later.workers (fresh settings.header) (omega (arith, at_first))
            (λ i there. let at = epoch_at i (omega (arith, there, is.count)) in let most = entered i (omega (arith, there, is.count)) in omega (arith, at, most))

        come_is : newest_of settings.header.first later.workers ≡ first + come
        come_is = let low = newest-low settings.header.first later.workers in omega (arith, low, at_first)

        come_least : come ≤ is.closed.newest
        come_least = omega (arith, come_within)

        come_all : (worker : ℕ) → worker < terms.workers → (row_at rows worker).entered ≤ come
        come_all worker known =
            let told = is.made.workers in
            let at = epoch_at worker (omega (arith, known, told)) in
            let least = newest-each settings.header.first later.workers (fresh settings.header) worker (omega (arith, known, told, is.count)) in
            omega (arith, at, least)

        told_come : AreTold host settings.rolling before (first + come) finals lists pasts
        told_come = record {
          taken = told_of.taken;
          same = told_of.same;
          own_worker = told_of.own_worker;
          own_place = told_of.own_place;
          workers = told_of.workers;
          places = told_of.places;
          final = λ i there.
              let final = told_of.final i there in
              let all = come_all i (let count = length-before_each logs world.workers in let told = is.made.workers in omega (arith, there, count, told)) in
              (final.0, omega (arith, all), omega (arith, final.2, come_least));
          ends = λ place at.
              every-weaker (λ (element : Element). first + is.closed.newest ≤ suc element.stamp.epoch) (λ (element : Element). first + come ≤ suc element.stamp.epoch)
              (λ element above. omega (arith, above, come_least)) (host.pending (content_behind (content_at host before place) (past_of pasts place))) (told_of.ends place at);
        }

        order_come : HasOneOrder host before first (first + come) finals lists pasts
        order_come = order_to come come_least come_all

        contents_come : Ends come
        contents_come place there = order_come.ends.contents (place_of place) ∙ sym (order.ends.contents (place_of place)) ∙ contents place there

        come_entered : (i : ℕ) → i < length world.workers → (row_at rows i).entered ≤ come
        come_entered i there = come_all i (let told = is.made.workers in omega (arith, there, told))

        -- ---- the whole

        found : NoneFirst 0 rows later.workers ⊎ SomeFirst (fresh settings.header) 0 rows later.workers
        found = first_found functions settings script logs world later each terms after rows is digests behind rolling stands level

        pub leads_rolling : LeadsAs AreOfRound host world later (first_stopped 0 later.workers)
        leads_rolling = go found
          where
            go : NoneFirst 0 rows later.workers ⊎ SomeFirst (fresh settings.header) 0 rows later.workers
                → LeadsAs AreOfRound host world later (first_stopped 0 later.workers)
            go (inl none) = leads_whole functions settings script logs world later each terms after rows is digests behind rolling stands level pasts is.closed.newest
                told_of order contents entered none is.closed.more
                (whole (through functions settings script logs world later each terms after rows is digests behind rolling stands level pasts is.closed.newest
                told_of order contents entered none))
            go (inr some) = leads_stopped functions settings script logs world later each terms after rows is digests behind rolling stands level pasts come
                told_come order_come contents_come come_entered some come_is flags (stopped_to come come_least come_all)

        pub ends_rolling : EndsRound host later
        ends_rolling = go found
          where
            go : NoneFirst 0 rows later.workers ⊎ SomeFirst (fresh settings.header) 0 rows later.workers → EndsRound host later
            go (inl none) = served_out functions settings script logs world later each terms after rows is digests behind rolling stands level pasts is.closed.newest
                told_of order contents entered none is.closed.more
                (whole (through functions settings script logs world later each terms after rows is digests behind rolling stands level pasts is.closed.newest
                told_of order contents entered none))
            go (inr some) = ends_stopped functions settings script logs world later each terms after rows is digests behind rolling stands level some
