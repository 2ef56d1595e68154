-- A round with no further epoch is a phase: what its table tells, with the stops, was one list of events.
use Rattle.std.proofs.Common.{◌≡◌, ◌⊎◌, ℕ, zero, suc, ◌+◌, ◌-◌, ◌<◌, ◌≤◌, ◌||◌, Bool, true, false, List, [], ◌∷◌, ◌++◌, length, map, get_or, slice_get, replicate, is_some, Option, Some, None, refl, sym, ◌∙◌, ap, subst, inl, inr, arith}
use Rattle.std.specs.List.{AllByRecursion}
use Rattle.std.specs.Option.{ForSome}
use Rattle.std.proofs.lemmas.Bool.{cases_lt, eq-eqb, ne_eqb}
use Rattle.std.proofs.lemmas.List.{get_or_past, length-map}
use Rattle.std.proofs.lemmas.Option.{none-some, same_Some}
use Rattle.lamport_clocks.specs.Reading.{Reading}
use Rattle.log_codec.specs.declared.command.Command.{Command}
use Rattle.log_codec.specs.declared.command.Command.TheVariants.{NextEpoch}
use Rattle.record_hash.specs.Functions.{DigestFunctions}
use Rattle.record_text.specs.declared.request.Request.{Request}
use Rattle.script_text.specs.declared.task.Task.{Task}
use Rattle.host_core.specs.Core.{IsInPhase, IsStanding}
use Rattle.host_core.specs.Host.{Host, asked}
use Rattle.host_core.specs.World.{World, worker_at}
use Rattle.host_core.specs.WorldEvent.{AreEnabled, run_events}
use Rattle.host_order.specs.Serving as serving
use Rattle.host_order.specs.Told as order
use Rattle.round_order.specs.Turn.{Turn, on_to, served_more, content_behind, clock_behind, served_behind, logged, content_at}
use Rattle.round_order.specs.Phase.{IsOfPhase}
use Rattle.round_order.specs.Told.{list_of, EndsWith}
use Rattle.round_order.proofs.GoingLaws.{on_to-there}
use Rattle.host_shard.specs.declared.content.Content as code
use Rattle.host_shard.specs.Content.{Content}
use Rattle.host_epochs.specs.declared.told.Entry.{Entry}
use Rattle.host_epochs.specs.declared.told.Meeting.{Meeting}
use Rattle.host_epochs.specs.declared.told.Stop.{Stop}
use Rattle.host_epochs.specs.declared.views.Row.{Row}
use Rattle.host_epochs.specs.Plays.{new_row}
use Rattle.host_epochs.specs.Round.{row_at, IsRound}
use Rattle.host_epochs.specs.Terms.{Terms, first_epoch}
use Rattle.host_epochs.specs.Told as told
use Rattle.host_epochs.proofs.WorkLaws.{later_epoch}
use Rattle.host_table.specs.declared.told.Service.{Service}
use Rattle.host_table.specs.declared.told.Stop as phase_stops
use Rattle.host_table.specs.declared.views.Row as phase_rows
use Rattle.host_table.specs.Phase as phase
use Rattle.host_table.specs.Services.{request_in, services_of, end_of, row_of}
use Rattle.host_table.specs.Services as services
use Rattle.host_table.specs.Terms.{phase_of}
use Rattle.host_table.proofs.RoundLaws.{row_at_phase, round_phase, round_past}
use Rattle.shipped_host.specs.declared.settings.Settings.{Settings}
use Rattle.shipped_host.specs.ShippedHost.{shipped_host}
use Rattle.host_fits.specs.Mirroring.{PlacesMirror}
use Rattle.host_world.specs.Places.{places_each}
use Rattle.table_order.specs.Phases.{first_clock, IsTableOf}
use Rattle.table_order.specs.Phases as phases
use Rattle.table_order.specs.Servings.{servings_of}
use Rattle.table_order.specs.Servings as servings
use Rattle.table_order.specs.Rounds.{turns_of, lists_of, pasts_at, pasts_from, pasts_of, finals_of, BeginsAt, AreTurnsOf, AreOfPhase, request_at, IsOfOnePhase, events_in, IsTableOfPhase, EndsInPhase}
use Rattle.table_order.proofs.ShapeLemmas as shapes
use Rattle.table_order.proofs.RoundShapeLemmas.{list_is}
use Rattle.table_order.proofs.RoundPastLemmas.{plain_made}

-- ---- what is left behind servings, and behind turns

content_same : (content : Content) (entries : List Entry) → serving.content_behind content (servings_of (services_of entries)) ≡ content_behind content (turns_of entries)
content_same content [] = refl
content_same content (entry ∷ entries) = content_same _ entries

clock_same : (clock : Reading) (entries : List Entry) → serving.clock_behind clock (servings_of (services_of entries)) ≡ clock_behind clock (turns_of entries)
clock_same clock [] = refl
clock_same clock (entry ∷ entries) = clock_same entry.later entries

-- ---- the same of pasts

module _ (past : ℕ → List Entry) (content : Content) where
  seat_same : (place count seat : ℕ)
      → serving.content_behind content (get_or (servings.pasts_at place count (λ n. services_of (past n))) seat []) ≡ content_behind content (get_or (pasts_at place count past) seat [])
  seat_same place zero seat = refl
  seat_same place (suc count) zero = content_same content (past place)
  seat_same place (suc count) (suc seat) = seat_same (suc place) count seat

  shard_same : (place shards s seat : ℕ)
      → serving.content_behind content (get_or (get_or (servings.pasts_from place shards (λ n. services_of (past n))) s []) seat [])
      ≡ content_behind content (get_or (get_or (pasts_from place shards past) s []) seat [])
  shard_same place zero s seat = refl
  shard_same place (suc shards) zero seat = seat_same place places_each seat
  shard_same place (suc shards) (suc s) seat = shard_same (place + places_each) shards s seat

-- ---- the flags of workers

flag_of : (worker i : ℕ) (stop : Option phase_stops.Stop) (rest : List (order.Stop Request)) → (worker ≡ i → ⊥)
    → order.stops_by i (servings.stop_of worker stop ++ rest) ≡ order.stops_by i rest
flag_of worker i None rest apart = refl
flag_of worker i (Some stop) rest apart = ap (λ (b : Bool). b || order.stops_by i rest) (ne_eqb worker i apart)

later_flags : (i number : ℕ) (rows : List phase_rows.Row) → i < number → order.stops_by i (servings.stops_from number rows) ≡ false
later_flags i number [] before = refl
later_flags i number (row ∷ rows) before =
    flag_of number i row.stop (servings.stops_from (suc number) rows) (λ same. absurd (omega (arith, before, same)))
    ∙ later_flags i (suc number) rows (omega (arith, before))

flags_from : (number k i : ℕ) (rows : List phase_rows.Row) → k < length rows → i ≡ number + k → order.stops_by i (servings.stops_from number rows) ≡ is_some (phase.row_at rows k).stop
flags_from number k i [] there is = absurd (omega (arith, there))
flags_from number zero i (row ∷ rows) there is = go row.stop
  where
    go : (stop : Option phase_stops.Stop) → order.stops_by i (servings.stop_of number stop ++ servings.stops_from (suc number) rows) ≡ is_some stop
    go None = later_flags i (suc number) rows (omega (arith, is))
    go (Some stop) = ap (λ (b : Bool). b || order.stops_by i (servings.stops_from (suc number) rows)) (eq-eqb number i (omega (arith, is)))
flags_from number (suc k) i (row ∷ rows) there is =
    flag_of number i row.stop (servings.stops_from (suc number) rows) (λ same. absurd (omega (arith, is, same)))
    ∙ flags_from (suc number) k i rows (omega (arith, there)) (omega (arith, is))

-- ---- requests

-- the request is there, and is the worker's next of the phase
asked_there : (host : Host Content Request) (number worker served : ℕ) (request : Option Request) → IsOfPhase host number worker served request
    → (slice_get (asked host worker) served ≡ Some (number, request_in request)) × (served_more served request ≡ suc served)
asked_there host number worker served None is = absurd is
asked_there host number worker served (Some request) is = (is, refl)

services_next : (host : Host Content Request) (number worker served : ℕ) (entries : List Entry) → AreOfPhase host number worker served entries
    → phases.AreNext host number worker served (services_of entries)
services_next host number worker served [] next = tt
services_next host number worker served (entry ∷ entries) next =
    let here = asked_there host number worker served entry.request next.0 in
    (here.0, services_next host number worker (suc served) entries (subst (λ (n : ℕ). AreOfPhase host number worker n entries) here.1 next.1))

served_same : (host : Host Content Request) (number worker served : ℕ) (entries : List Entry) → AreOfPhase host number worker served entries
    → served + length (servings_of (services_of entries)) ≡ served_behind served (turns_of entries)
served_same host number worker served [] next = omega arith
served_same host number worker served (entry ∷ entries) next =
    let here = asked_there host number worker served entry.request next.0 in
    let rest = served_same host number worker (served_more served entry.request) entries next.1 in
    omega (arith, here.1) ∙ rest

as_many : (entries : List Entry) → length (services_of entries) ≡ length (servings_of (services_of entries))
as_many [] = refl
as_many (entry ∷ entries) = ap (λ (n : ℕ). suc n) (as_many entries)

-- ---- clocks

-- entries of one epoch log their commands alone, and leave the clock there
module _ (epoch : ℕ) where
  abbrev IsAt : Entry → Type 0
  IsAt entry = (entry.clock.at.epoch ≡ epoch) × (entry.later.at.epoch ≡ epoch)

  logged_same : (clock : Reading) (entries : List Entry) → clock.at.epoch ≡ epoch → AllByRecursion IsAt entries
      → serving.commands_in (servings_of (services_of entries)) ≡ logged epoch clock (turns_of entries)
  logged_same clock [] here all =
      let none : 0 ≡ epoch - clock.at.epoch = omega (arith, here) in
      ap (λ (n : ℕ). replicate n NextEpoch) none
  logged_same clock (entry ∷ entries) here all =
      let none : 0 ≡ entry.clock.at.epoch - clock.at.epoch = omega (arith, here, all.0.0) in
      ap (λ (rest : List Command). entry.plan.commands ++ rest) (logged_same entry.later entries all.0.1 all.1)
      ∙ ap (λ (n : ℕ). replicate n NextEpoch ++ (entry.plan.commands ++ logged epoch entry.later (turns_of entries))) none

  behind_at : (clock : Reading) (entries : List Entry) → clock.at.epoch ≡ epoch → AllByRecursion IsAt entries → (clock_behind clock (turns_of entries)).at.epoch ≡ epoch
  behind_at clock [] here all = here
  behind_at clock (entry ∷ entries) here all = behind_at entry.later entries all.0.1 all.1

-- ---- the phase

module _ (functions : DigestFunctions) (settings : Settings) (script : List (List Task)) (world : World Content) (terms : Terms)
    (after : List code.Content) (rows : List Row) (is : IsTableOfPhase functions settings script world terms rows) (round : IsRound terms after rows)
    (standing : IsStanding (PlacesMirror functions settings) (shipped_host functions settings script) world)
    (in_phase : IsInPhase (shipped_host functions settings script) world) (one : terms.more ≡ 0) where
  abbrev host : Host Content Request
  host = shipped_host functions settings script

  abbrev first : ℕ
  first = first_epoch terms

  known : (worker : ℕ) → worker < length world.workers → worker < terms.workers
  known worker there = omega (arith, there, is.table.made.workers)

  -- no epoch is entered
  entered_none : (worker : ℕ) → worker < length world.workers → (row_at rows worker).entered ≡ 0
  entered_none worker there = let entered = round.entered worker (known worker there) in let more = round.more in omega (arith, entered, more, one)

  own_clock : (worker : ℕ) → worker < length world.workers → (worker_at host world worker).clock.at.epoch ≡ first
  own_clock worker there = is.table.level.clocks worker there

  entries_at : (entries : List Entry) → AllByRecursion (told.IsDone terms) entries → AllByRecursion (IsAt first) entries
  entries_at [] done = tt
  entries_at (entry ∷ entries) done =
      let from = done.0.asked.clock.from in
      let to = done.0.asked.clock.to in
      let here : entry.clock.at.epoch ≡ first = omega (arith, from, to, one) in
      ((here, later_epoch terms entry done.0.asked ∙ here), entries_at entries done.1)

  list_at : (worker : ℕ) → worker < length world.workers → AllByRecursion (IsAt first) (row_at rows worker).list
  list_at worker there = entries_at (row_at rows worker).list (round.own worker (known worker there)).done

  -- ---- as a table of a phase

  stop_there : (worker : ℕ) (stop : Stop) → worker < length world.workers → (row_at rows worker).stop ≡ Some stop → stop.clock.at.epoch ≡ first
  stop_there worker stop there stops =
      let noted = round.stopped worker stop (known worker there) stops in
      let epoch = noted.behind.epoch in
      omega (arith, epoch, entered_none worker there)

  -- the clock at which a worker begins, or stops if it served nothing
  begins : (worker : ℕ) → worker < length world.workers
      → ForSome (first_clock (services_of (row_at rows worker).list) (services.stop_of (row_at rows worker).stop)) (λ clock. clock ≡ (worker_at host world worker).clock)
  begins worker there = go (row_at rows worker).list refl (row_at rows worker).stop refl
    where
      turns : AreTurnsOf host world worker (row_at rows worker)
      turns = is.table.turns worker there

      at_request : (clock : Reading) (met : Meeting) (request : Option Request) → clock ≡ (worker_at host world worker).clock
          → (begun : Reading) → first_clock [] (services.end_at clock met request) ≡ Some begun → begun ≡ (worker_at host world worker).clock
      at_request clock met None same begun found = absurd (none-some begun found)
      at_request clock met (Some request) same begun found = sym (same_Some clock begun found) ∙ same

      at_end : (clock : Reading) (met : Option Meeting) → clock ≡ (worker_at host world worker).clock
          → (begun : Reading) → first_clock [] (end_of clock met) ≡ Some begun → begun ≡ (worker_at host world worker).clock
      at_end clock None same begun found = absurd (none-some begun found)
      at_end clock (Some met) same begun found = at_request clock met met.request same begun found

      go : (entries : List Entry) → (row_at rows worker).list ≡ entries → (stop : Option Stop) → (row_at rows worker).stop ≡ stop
          → (clock : Reading) → first_clock (services_of entries) (services.stop_of stop) ≡ Some clock → clock ≡ (worker_at host world worker).clock
      go (entry ∷ entries) lists stop stops clock found =
          let begun = subst (BeginsAt (worker_at host world worker).clock) lists turns.begins in
          let here = (subst (AllByRecursion (IsAt first)) lists (list_at worker there)).0.0 in
          sym (same_Some entry.clock clock found)
          ∙ (begun.0 ∙ on_to-there entry.clock.at.epoch (worker_at host world worker).clock (omega (arith, here, own_clock worker there)))
      go [] lists None stops clock found = absurd (none-some clock found)
      go [] lists (Some stop) stops clock found = at_end stop.clock stop.met
          (turns.ends stop stops
          ∙ (ap (λ (entries : List Entry). on_to stop.clock.at.epoch (clock_behind (worker_at host world worker).clock (turns_of entries))) lists
          ∙ on_to-there stop.clock.at.epoch (worker_at host world worker).clock (omega (arith, stop_there worker stop there stops, own_clock worker there))))
          clock found

  -- where it stopped, it did so at its next request
  last : (worker : ℕ) → worker < length world.workers
      → ForSome (services.stop_of (row_at rows worker).stop) (λ stop.
      slice_get (asked host worker) ((worker_at host world worker).served + length (services_of (row_at rows worker).list)) ≡ Some (world.phase, stop.request))
  last worker there = go (row_at rows worker).stop refl
    where
      of_phase : IsOfOnePhase host world worker (row_at rows worker)
      of_phase = is.of_phase worker there

      count : (worker_at host world worker).served + length (services_of (row_at rows worker).list) ≡ served_behind (worker_at host world worker).served (turns_of (row_at rows worker).list)
      count = omega (arith, as_many (row_at rows worker).list, served_same host world.phase worker (worker_at host world worker).served (row_at rows worker).list of_phase.next)

      -- it is what the script asks next
      IsNext : phase_stops.Stop → Type 0
      IsNext stop = slice_get (asked host worker) ((worker_at host world worker).served + length (services_of (row_at rows worker).list)) ≡ Some (world.phase, stop.request)

      at_request : (clock : Reading) (met : Meeting) (request : Option Request)
          → IsOfPhase host world.phase worker (served_behind (worker_at host world worker).served (turns_of (row_at rows worker).list)) request
          → (stop : phase_stops.Stop) → services.end_at clock met request ≡ Some stop → IsNext stop
      at_request clock met None next stop found = absurd next
      at_request clock met (Some request) next stop found =
          ap (slice_get (asked host worker)) count ∙ next
          ∙ ap (λ (s : phase_stops.Stop). Some (world.phase, s.request)) (same_Some _ stop found)

      at_end : (clock : Reading) (met : Option Meeting)
          → IsOfPhase host world.phase worker (served_behind (worker_at host world worker).served (turns_of (row_at rows worker).list)) (request_at met)
          → (stop : phase_stops.Stop) → end_of clock met ≡ Some stop → IsNext stop
      at_end clock None next stop found = absurd next
      at_end clock (Some met) next stop found = at_request clock met met.request next stop found

      go : (stop : Option Stop) → (row_at rows worker).stop ≡ stop → (ended : phase_stops.Stop) → services.stop_of stop ≡ Some ended → IsNext ended
      go None stops ended found = absurd (none-some ended found)
      go (Some stop) stops ended found = at_end stop.clock stop.met (of_phase.last stop stops) ended found

  pub phase_table : IsTableOf functions settings script world (phase_of terms) (map row_of rows)
  phase_table = record {
    digests = is.table.digests;
    behind = is.table.behind;
    rest = record { going = is.table.level.going; phase = is.table.level.phase; idle = is.table.level.idle; epochs = in_phase };
    made = plain_made functions settings script world terms is.table.made;
    turns = λ worker there. subst (phases.AreTurnsOf host world worker) (sym (row_at_phase rows worker)) (record {
      running = (is.table.turns worker there).running;
      begins = begins worker there;
      next = services_next host world.phase worker (worker_at host world worker).served (row_at rows worker).list (is.of_phase worker there).next;
      last = last worker there;
    });
  }

  pub phase_told : phase.IsPhase (phase_of terms) after (map row_of rows)
  phase_told = round_phase terms one after rows round

  past_is : phase_told.past ≡ (λ n. services_of (round.past n))
  unfolding phase_told
  past_is = round_past terms one after rows round

  -- ---- what is left

  abbrev phase_lists : List (List (serving.Serving Content Request))
  phase_lists = servings.lists_of (map row_of rows)

  abbrev phase_pasts : List (List (List (serving.Serving Content Request)))
  phase_pasts = servings.pasts_of (length world.shards) (λ n. services_of (round.past n))

  abbrev stops : List (order.Stop Request)
  stops = servings.stops_of (map row_of rows)

  phase_list : (i : ℕ) → order.list_of phase_lists i ≡ servings_of (services_of (row_at rows i).list)
  phase_list i = shapes.list_is (map row_of rows) i ∙ ap (λ (row : phase_rows.Row). servings_of row.list) (row_at_phase rows i)

  -- who is no worker served nothing
  no_list : (i : ℕ) → length world.workers ≤ i → row_at rows i ≡ new_row
  no_list i past = get_or_past rows i new_row (omega (arith, past, round.all, is.table.made.workers))

  module _ (ends : order.EndsWith host world (run_events host world (events_in rows)) phase_lists phase_pasts stops)
      (standing_later : IsStanding (PlacesMirror functions settings) (shipped_host functions settings script) (run_events host world (events_in rows))) where
    ends_served : (i : ℕ) → (i < length world.workers) ⊎ (length world.workers ≤ i)
        → (worker_at host world i).served + length (order.list_of phase_lists i) ≡ served_behind (worker_at host world i).served (list_of (lists_of rows) i)
    ends_served i (inl there) =
        ap (λ (zs : List (serving.Serving Content Request)). (worker_at host world i).served + length zs) (phase_list i)
        ∙ (served_same host world.phase i (worker_at host world i).served (row_at rows i).list (is.of_phase i there).next
        ∙ ap (served_behind (worker_at host world i).served) (sym (list_is rows i)))
    ends_served i (inr past) =
        ap (λ (zs : List (serving.Serving Content Request)). (worker_at host world i).served + length zs)
        (phase_list i ∙ ap (λ (row : Row). servings_of (services_of row.list)) (no_list i past))
        ∙ (omega arith
        ∙ ap (served_behind (worker_at host world i).served) (sym (list_is rows i ∙ ap (λ (row : Row). turns_of row.list) (no_list i past))))

    pub ends_round : EndsWith host world (run_events host world (events_in rows)) (first + round.newest) (finals_of terms rows) (lists_of rows) (pasts_of (length world.shards) round.past)
    ends_round = record {
      contents = λ place. ends.contents place ∙ shard_same round.past (content_at host world place) 0 (length world.shards) place.shard place.seat;
      logs = λ i there. ends.logs i
          ∙ ap (λ (zs : List Command). (worker_at host world i).log ++ zs)
          (ap (λ (zs : List (serving.Serving Content Request)). serving.commands_in zs) (phase_list i)
          ∙ (logged_same first (worker_at host world i).clock (row_at rows i).list (own_clock i there) (list_at i there)
          ∙ ap (λ (n : ℕ). logged n (worker_at host world i).clock (turns_of (row_at rows i).list)) (sym (final_first i there))
          ∙ ap (logged (finals_of terms rows i) (worker_at host world i).clock) (sym (list_is rows i))));
      clocks = λ i there. ends.clocks i
          ∙ (ap (serving.clock_behind (worker_at host world i).clock) (phase_list i)
          ∙ clock_same (worker_at host world i).clock (row_at rows i).list
          ∙ sym (on_to-there (finals_of terms rows i) (clock_behind (worker_at host world i).clock (turns_of (row_at rows i).list))
          (omega (arith, final_first i there, behind_at first (worker_at host world i).clock (row_at rows i).list (own_clock i there) (list_at i there))))
          ∙ ap (λ (zs : List (Turn Content Request)). on_to (finals_of terms rows i) (clock_behind (worker_at host world i).clock zs)) (sym (list_is rows i)));
      served = λ i. ends.served i ∙ ends_served i (cases_lt i (length world.workers));
      stuck = ends.stuck;
      idle = ends.idle;
      counts = (
        standing_later.workers ∙ sym standing.workers,
        standing_later.shards ∙ sym standing.shards,
        ap (λ (marks : List ℕ). length marks) ends.words.1,
      );
      phase = ends.phase;
    }
      where
        final_first : (i : ℕ) → i < length world.workers → finals_of terms rows i ≡ first
        final_first i there = omega (arith, entered_none i there)

    -- a worker is stopped where it stopped
    flag_is : (i : ℕ) → i < length world.workers → is_some (services.stop_of (row_at rows i).stop) ≡ is_some (row_at rows i).stop
    flag_is i there = go (row_at rows i).stop refl
      where
        at_request : (clock : Reading) (met : Meeting) (request : Option Request)
            → IsOfPhase host world.phase i (served_behind (worker_at host world i).served (turns_of (row_at rows i).list)) request
            → is_some (services.end_at clock met request) ≡ true
        at_request clock met None next = absurd next
        at_request clock met (Some request) next = refl

        at_end : (clock : Reading) (met : Option Meeting)
            → IsOfPhase host world.phase i (served_behind (worker_at host world i).served (turns_of (row_at rows i).list)) (request_at met)
            → is_some (end_of clock met) ≡ true
        at_end clock None next = absurd next
        at_end clock (Some met) next = at_request clock met met.request next

        go : (stop : Option Stop) → (row_at rows i).stop ≡ stop → is_some (services.stop_of stop) ≡ is_some stop
        go None stops' = refl
        go (Some stop) stops' = at_end stop.clock stop.met ((is.of_phase i there).last stop stops')

    ends_stopped : (i : ℕ) → i < length world.workers → (worker_at host (run_events host world (events_in rows)) i).stopped ≡ is_some (row_at rows i).stop
    ends_stopped i there =
        ends.stopped i there
        ∙ ap (λ (b : Bool). b || order.stops_by i stops) (is.table.turns i there).running
        ∙ flags_from 0 i i (map row_of rows) (omega (arith, there, length-map rows row_of, round.all, is.table.made.workers)) (omega arith)
        ∙ ap (λ (row : phase_rows.Row). is_some row.stop) (row_at_phase rows i)
        ∙ flag_is i there

  -- The phase ends as it is told.
  pub ends_in_phase : order.EndsWith host world (run_events host world (events_in rows)) phase_lists (servings.pasts_of (length world.shards) phase_told.past) stops
      → IsStanding (PlacesMirror functions settings) (shipped_host functions settings script) (run_events host world (events_in rows)) → AreEnabled host world (events_in rows)
      → EndsInPhase host world (first + round.newest) (finals_of terms rows) rows (pasts_of (length world.shards) round.past)
  ends_in_phase ends standing_later enabled =
      let as_told = subst (λ (past : ℕ → List Service). order.EndsWith host world (run_events host world (events_in rows)) phase_lists (servings.pasts_of (length world.shards) past) stops) past_is ends in
      record { enabled = enabled; ends = ends_round as_told standing_later; stopped = ends_stopped as_told standing_later }
