-- What a table with epochs tells of a round of the shipped host was one list of events, and how it ended.
use Rattle.std.proofs.Common.{◌≡◌, ℕ, suc, ◌+◌, ◌<◌, ◌≤◌, Bool, true, false, List, ◌++◌, length, get_or, slice_get, None, refl, sym, ◌∙◌, ap, subst, arith}
use Rattle.record_hash.specs.Functions.{DigestFunctions}
use Rattle.record_text.specs.declared.element.Element.{Element}
use Rattle.record_text.specs.declared.request.Request.{Request}
use Rattle.script_text.specs.declared.task.Task.{Task}
use Rattle.stamp_order.proofs.InOrderLaws.{every-weaker}
use Rattle.host_core.specs.Core.{AreAccepted, IsEven, IsStanding}
use Rattle.host_core.specs.Host.{Host, asked}
use Rattle.host_core.specs.World.{World, worker_at, set_up}
use Rattle.host_core.specs.WorldEvent.{WorldEvent, AreEnabled, run_events}
use Rattle.host_core.proofs.EventLaws.{enabled-append, run-append}
use Rattle.host_order.specs.Steady as plain
use Rattle.round_order.specs.Turn.{Turn, content_behind, served_behind, content_at, in_one_order}
use Rattle.round_order.specs.Steady.{IsSteady}
use Rattle.round_order.specs.Told.{joined, past_of, round_events, CanRoll, AreTold, HasOneOrder, IsWholeRound, EndsWhole, EndsStopped}
use Rattle.round_order.proofs.RoundLaws.{orders_round}
use Rattle.round_order.proofs.EndLaws.{ends_rounds}
use Rattle.host_shard.specs.declared.content.Content as code
use Rattle.host_shard.specs.declared.content.Content.TheVariants.{Vacant}
use Rattle.host_shard.specs.Content.{Content}
use Rattle.host_shard.specs.Shown.{shown_content}
use Rattle.host_epochs.specs.declared.views.Row.{Row}
use Rattle.host_epochs.specs.Round.{IsRound, row_at}
use Rattle.host_epochs.specs.Terms.{Terms, place_count, first_epoch}
use Rattle.shipped_host.specs.declared.settings.Settings.{Settings}
use Rattle.shipped_host.specs.ShippedHost.{shipped_host}
use Rattle.host_fits.specs.Mirroring.{PlacesMirror}
use Rattle.host_world.specs.Behind.{IsBehindSetup}
use Rattle.host_world.specs.Places.{place_of}
use Rattle.table_order.specs.Rounds.{lists_of, pasts_of, finals_of, stops_of, IsTableOfRound, AreThrough}
use Rattle.table_order.proofs.Keeping.{DoesPlans}
use Rattle.table_order.proofs.RoundShapeLemmas.{list_is}
use Rattle.table_order.proofs.RoundPastLemmas.{IsOfMode}
use Rattle.table_order.proofs.RoundTurnLemmas.{stops_apart}
use Rattle.table_order.proofs.RoundLemmas.{running, known, past_leaves, last_waits, are_told}
use Rattle.table_order.proofs.RoundStopLemmas.{stops_told}

-- The shipped host is steady in its mode.
pub steady_in : (functions : DigestFunctions) (settings : Settings) (script : List (List Task)) → (settings.rolling ≡ true → settings.hot ≡ None)
    → plain.IsSteady (shipped_host functions settings script) → (settings.hot ≡ None → IsSteady (shipped_host functions settings script) true)
    → IsSteady (shipped_host functions settings script) settings.rolling
steady_in functions settings script cold_only steady rolls = record {
  serves_on = λ i clock before request done one does. let moves = steady.moves_on i clock before request done one does in
      record { epoch = moves.epoch; later = moves.later; above = moves.above; new = moves.new };
  scans_on = λ rolling. (rolls (cold_only rolling)).scans_on refl;
  owners = steady.owners;
  scan_owners = λ rolling. (rolls (cold_only rolling)).scan_owners refl;
  waits = steady.waits;
}

module _ (functions : DigestFunctions) (settings : Settings) (script : List (List Task)) (world : World Content) (terms : Terms)
    (after : List code.Content) (rows : List Row) (is : IsTableOfRound functions settings script world terms rows) (round : IsRound terms after rows)
    (standing : IsStanding (PlacesMirror functions settings) (shipped_host functions settings script) world)
    (mode : IsOfMode settings world terms) (does : DoesPlans functions settings script)
    (steady : IsSteady (shipped_host functions settings script) settings.rolling) where
  abbrev host : Host Content Request
  host = shipped_host functions settings script

  abbrev first : ℕ
  first = first_epoch terms

  abbrev top : ℕ
  top = first_epoch terms + round.newest

  abbrev finals : ℕ → ℕ
  finals = finals_of terms rows

  abbrev lists : List (List (Turn Content Request))
  lists = lists_of rows

  abbrev pasts : List (List (List (Turn Content Request)))
  pasts = pasts_of (length world.shards) round.past

  abbrev events : List (WorldEvent Request)
  events = round_events finals (length world.workers) top first (in_one_order (joined lists))

  told : AreTold host settings.rolling world top finals lists pasts
  told = are_told functions settings script world terms after rows is round standing mode does

  up : first ≤ top
  up = omega arith

  some_workers : 0 < length world.workers
  some_workers = omega (arith, standing.workers, is.behind.settings_fit.header.some_verifiers)

  -- epochs are entered in a rolling host alone
  rolls : first < top → settings.rolling ≡ true
  rolls less = go settings.rolling refl
    where
      go : (b : Bool) → settings.rolling ≡ b → settings.rolling ≡ true
      go true rolling = rolling
      go false rolling = absurd (let none = mode.plain rolling in let more = round.more in omega (arith, none, more, less))

  can_roll : first < top → CanRoll host world first top
  can_roll less = record {
    rolling = rolls less;
    newest = (is.newest (rolls less)).0;
    within = let more = round.more in let final = is.made.final in omega (arith, more, final);
    last = round.room (omega (arith, less));
    marks = (is.newest (rolls less)).1;
    some = some_workers;
    running = λ i there. running functions settings script world terms after rows is round standing mode i there;
  }

  -- The round has one order.
  pub one_order : HasOneOrder host world first top finals lists pasts
  one_order = orders_round host settings.rolling world first top finals lists pasts steady is.level up can_roll told

  -- It ends in the contents that the table gives.
  pub one_end : (number : ℕ) → number < place_count terms → content_at host (run_events host world events) (place_of number) ≡ shown_content (get_or after number Vacant)
  one_end number there = one_order.ends.contents (place_of number) ∙ past_leaves functions settings script world terms after rows is round standing mode number there

  -- That world stands behind the setup, as the one before.
  pub one_behind : IsBehindSetup functions settings script (run_events host world events)
  one_behind = record {
    settings_fit = is.behind.settings_fit;
    counters = is.behind.counters;
    keys = is.behind.keys;
    values = is.behind.values;
    events = is.behind.events ++ events;
    enabled = enabled-append host (set_up host) is.behind.events events is.behind.enabled
        (subst (λ (w : World Content). AreEnabled host w events) is.behind.is one_order.enabled);
    is = ap (λ (w : World Content). run_events host w events) is.behind.is ∙ sym (run-append host (set_up host) is.behind.events events);
  }

  -- ---- how it ends

  module _ (rolling : settings.rolling ≡ true) where
    is_whole : AreThrough host world terms rows → IsWholeRound host world top finals lists pasts
    is_whole through = record {
      rolling = rolling;
      last = ap (λ (n : ℕ). first + n) newest_is ∙ is.made.final;
      come = λ i there.
          let entered = round.entered i (known functions settings script world terms after rows is round standing mode i there) in
          let done = round.done i (known functions settings script world terms after rows is round standing mode i there) in
          let all = through.done i there in
          ap (λ (n : ℕ). first + n) (omega (arith, entered, done, all, newest_is));
      served = λ i there. ap (λ (turns : List (Turn Content Request)). slice_get (asked host i) (served_behind (worker_at host world i).served turns)) (list_is rows i)
          ∙ through.served i there;
      reached = last_waits functions settings script world terms after rows is round standing mode (λ epoch. top ≤ epoch)
          (λ worker epoch there from. let all = through.done worker (omega (arith, there, is.made.workers)) in omega (arith, from, all, newest_is));
      running = λ i there. running functions settings script world terms after rows is round standing mode i there;
      marks = (is.newest rolling).1;
    }
      where
        newest_is : round.newest ≡ terms.more
        newest_is =
            let more = round.more in
            let entered = round.entered 0 (known functions settings script world terms after rows is round standing mode 0 some_workers) in
            let done = round.done 0 (known functions settings script world terms after rows is round standing mode 0 some_workers) in
            let all = through.done 0 some_workers in
            omega (arith, more, entered, done, all)

    -- Where all are through, the round is over.
    pub ends_whole : AreThrough host world terms rows → EndsWhole host world first top finals lists pasts
    ends_whole through = (ends_rounds host settings.rolling world first top finals lists pasts steady is.level up can_roll told).0 (is_whole through)

    module _ (newest : ℕ) (least : newest ≤ round.newest) (all : (worker : ℕ) → worker < terms.workers → (row_at rows worker).entered ≤ newest) where
      told_to : AreTold host settings.rolling world (first + newest) finals lists pasts
      told_to = record {
        taken = told.taken;
        same = told.same;
        own_worker = told.own_worker;
        own_place = told.own_place;
        workers = told.workers;
        places = told.places;
        final = λ i there.
            let final = told.final i there in
            let entered = all i (known functions settings script world terms after rows is round standing mode i there) in
            (final.0, omega (arith, entered), omega (arith, final.2, least));
        ends = λ place at.
            every-weaker (λ (element : Element). top ≤ suc element.stamp.epoch) (λ (element : Element). first + newest ≤ suc element.stamp.epoch)
            (λ element above. omega (arith, above, least)) (host.pending (content_behind (content_at host world place) (past_of pasts place))) (told.ends place at);
      }

      can_roll_to : first < first + newest → CanRoll host world first (first + newest)
      can_roll_to less = let can = can_roll (omega (arith, less, least)) in record {
        rolling = can.rolling;
        newest = can.newest;
        within = omega (arith, can.within, least);
        last = omega (arith, can.last, least);
        marks = can.marks;
        some = can.some;
        running = can.running;
      }

      -- It has one order so too,
      pub one_order_to : HasOneOrder host world first (first + newest) finals lists pasts
      one_order_to = orders_round host settings.rolling world first (first + newest) finals lists pasts steady is.level (omega arith) can_roll_to told_to

      -- and where some stopped, the stops stand behind the turns, up to any epoch that is not past the newest and to which all came.
      pub ends_stopped : AreAccepted host world → IsEven host world → EndsStopped host world first (first + newest) finals lists pasts (stops_of rows)
      ends_stopped accepted even =
          (ends_rounds host settings.rolling world first (first + newest) finals lists pasts steady is.level (omega arith) can_roll_to told_to).1 (stops_of rows)
          (stops_told functions settings script world terms after rows is round standing mode accepted even rolling) (stops_apart 0 rows)
