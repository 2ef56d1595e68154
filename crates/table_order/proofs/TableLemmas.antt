-- What a table tells of a phase of the shipped host is what `host_order` asks.
use Rattle.std.proofs.Common.{◌≡◌, ◌⊎◌, ℕ, suc, ◌+◌, ◌<◌, ◌≤◌, false, List, [], ◌∷◌, ◌++◌, length, get_or, slice_get, Option, Some, None, refl, sym, ◌∙◌, ap, subst, inl, inr, arith, IsPermutation}
use Rattle.std.specs.List.{AllByRecursion}
use Rattle.std.specs.Option.{ForSome}
use Rattle.std.proofs.lemmas.Bool.{cases_lt}
use Rattle.std.proofs.lemmas.List.{get_or_past}
use Rattle.std.proofs.lemmas.List.Sorted.{IsPermutation-map, IsPermutation-sym}
use Rattle.lamport_clocks.specs.Reading.{Reading}
use Rattle.record_hash.specs.Functions.{DigestFunctions}
use Rattle.record_text.specs.declared.request.Request.{Request}
use Rattle.script_text.specs.declared.task.Task.{Task}
use Rattle.host_core.specs.Host.{Host, asked}
use Rattle.host_core.specs.World.{Place, World, worker_at, set_up}
use Rattle.host_core.specs.WorldEvent.{AreEnabled, run_events}
use Rattle.host_core.proofs.EventLaws.{enabled-append, run-append}
use Rattle.host_order.specs.Serving.{Serving, IsPlaceChain, IsWorkerChain, content_at, content_behind, clock_behind, IsHad}
use Rattle.host_order.specs.Steady.{IsSteady}
use Rattle.host_order.specs.Told.{joined, joined_pasts, list_of, past_of, IsServed, AreTold, IsNoted, AreOfOthers, phase_events, HasOneOrder, OrdersPhase}
use Rattle.host_shard.specs.declared.content.Content as code
use Rattle.host_shard.specs.declared.content.Content.TheVariants.{Vacant}
use Rattle.host_shard.specs.Content.{Content}
use Rattle.host_shard.specs.Shown.{shown_content}
use Rattle.host_table.specs.declared.told.Service.{Service}
use Rattle.host_table.specs.declared.told.Stop.{Stop}
use Rattle.host_table.specs.declared.views.Row.{Row}
use Rattle.host_table.specs.Phase.{new_row, row_at, IsPhase}
use Rattle.host_table.specs.Terms.{Terms, place_count, first_at}
use Rattle.host_table.specs.Told as told
use Rattle.host_table.specs.Told.{joined_from}
use Rattle.shipped_host.specs.declared.settings.Settings.{Settings}
use Rattle.host_world.specs.Behind.{IsBehindSetup}
use Rattle.host_core.specs.Core.{IsStanding}
use Rattle.host_fits.specs.Mirroring.{PlacesMirror}
use Rattle.host_world.specs.Places.{places_each, place_of}
use Rattle.shipped_host.specs.ShippedHost.{shipped_host}
use Rattle.table_order.specs.Servings.{serving_of, servings_of, lists_of, pasts_of, stop_of, stops_of}
use Rattle.table_order.specs.Phases.{first_clock, IsTableOf}
use Rattle.table_order.proofs.Keeping.{DoesPlans, EndsClocks}
use Rattle.table_order.proofs.ListLemmas.{all-moved, all-flat, all-part, all-map, all-joined, all-numbered}
use Rattle.table_order.proofs.ShapeLemmas.{list_is, services_in, lists_joined, pasts_joined, number_of, past_is, past_cases}
use Rattle.table_order.proofs.PlaceLemmas.{place_back, is_place, owns_there}
use Rattle.table_order.proofs.PastLemmas.{behind_leads, chain_leads, place_leads, had_shown, IsSmall, past_served}
use Rattle.table_order.proofs.TurnLemmas.{worker_chain, stop_clock, next_value, next_small, all-stops, stops_apart}

module _ (functions : DigestFunctions) (settings : Settings) (script : List (List Task)) (world : World Content) (terms : Terms)
    (after : List code.Content) (rows : List Row) (is : IsTableOf functions settings script world terms rows) (phase : IsPhase terms after rows)
    (standing : IsStanding (PlacesMirror functions settings) (shipped_host functions settings script) world) (does : DoesPlans functions settings script) where
  abbrev host : Host Content Request
  host = shipped_host functions settings script

  abbrev lists : List (List (Serving Content Request))
  lists = lists_of rows

  abbrev pasts : List (List (List (Serving Content Request)))
  pasts = pasts_of (length world.shards) phase.past

  -- the service is what the host does
  abbrev IsDone : Service → Type 0
  IsDone service = IsServed host world (serving_of service)

  running : (worker : ℕ) → worker < length world.workers → (worker_at host world worker).stopped ≡ false
  running worker there = (is.turns worker there).running

  -- as many rows as workers
  rows_are : length rows ≡ length world.workers
  rows_are = phase.all ∙ is.made.workers

  known : (worker : ℕ) → worker < length world.workers → worker < terms.workers
  known worker there = omega (arith, there, is.made.workers)

  -- ---- the services

  rows_small : AllByRecursion (IsSmall settings.header) (services_in rows)
  rows_small = all-flat (IsSmall settings.header) (λ (row : Row). row.list) new_row rows
      (λ i there. next_small functions settings script is.behind.keys is.behind.values world.phase i (worker_at host world i).served (row_at rows i).list
      (is.turns i (omega (arith, there, rows_are))).next)

  pasts_done : AllByRecursion IsDone (joined_from 0 (place_count terms) phase.past)
  pasts_done = all-joined IsDone phase.past 0 (place_count terms) (λ place from below.
      let there : place < place_count terms = omega (arith, below) in
      past_served functions settings script world standing terms is.made is.digests does running place there (get_or after place Vacant) (phase.past place) (phase.leads place there)
      (all-numbered (IsSmall settings.header) phase.past 0 (place_count terms) place from below
      (all-moved (IsSmall settings.header) (services_in rows) (joined_from 0 (place_count terms) phase.past) phase.same rows_small)))

  rows_done : AllByRecursion IsDone (services_in rows)
  rows_done = all-moved IsDone (joined_from 0 (place_count terms) phase.past) (services_in rows)
      (IsPermutation-sym (services_in rows) (joined_from 0 (place_count terms) phase.past) phase.same) pasts_done

  -- Each service of a worker's list is what the host does.
  pub list_done : (worker : ℕ) → worker < length world.workers → AllByRecursion IsDone (row_at rows worker).list
  list_done worker there = all-part IsDone (λ (row : Row). row.list) new_row rows worker (omega (arith, there, rows_are)) rows_done

  -- ---- workers

  -- who is no worker has no list
  no_list : (worker : ℕ) → length world.workers ≤ worker → row_at rows worker ≡ new_row
  no_list worker none_there = get_or_past rows worker new_row (omega (arith, none_there, rows_are))

  -- of the list of a worker, or of an empty one
  of_list : (P : List (Serving Content Request) → Type 0) (worker : ℕ) → (worker < length world.workers → P (servings_of (row_at rows worker).list)) → P [] → P (list_of lists worker)
  of_list P worker there nothing = subst P (sym (list_is rows worker)) (go (cases_lt worker (length world.workers)))
    where
      go : (worker < length world.workers) ⊎ (length world.workers ≤ worker) → P (servings_of (row_at rows worker).list)
      go (inl is_there) = there is_there
      go (inr none_there) = subst (λ (row : Row). P (servings_of row.list)) (sym (no_list worker none_there)) nothing

  -- A worker's list is a chain from its clock.
  pub list_chained : (worker : ℕ) → IsWorkerChain host world.phase worker (worker_at host world worker).clock (worker_at host world worker).served (list_of lists worker)
  list_chained worker =
      of_list (IsWorkerChain host world.phase worker (worker_at host world worker).clock (worker_at host world worker).served) worker
      (λ there.
      let turns = is.turns worker there in
      let own = phase.own worker (known worker there) in
      worker_chain host world.phase worker (worker_at host world worker).clock own.last (worker_at host world worker).served
      (row_at rows worker).list (row_at rows worker).stop own.chained turns.begins turns.next)
      tt

  own_list : (worker : ℕ) → AllByRecursion (λ serving. serving.worker ≡ worker) (list_of lists worker)
  own_list worker =
      of_list (AllByRecursion (λ serving. serving.worker ≡ worker)) worker
      (λ there. all-map (λ serving. serving.worker ≡ worker) serving_of (row_at rows worker).list (phase.own worker (known worker there)).own)
      tt

  -- ---- places

  -- the number of a place that there is
  place_there : (place : Place) → place.shard < length world.shards → place.seat < places_each → number_of phase.past place < place_count terms
  place_there place shard seat = omega (arith, shard, seat, is.made.places)

  place_is : (place : Place) → place.seat < places_each → place_of (number_of phase.past place) ≡ place
  place_is place seat = place_back (number_of phase.past place) place.shard place.seat refl seat

  -- of the past of a place, or of an empty one
  of_past : (P : Place → List (Serving Content Request) → Type 0) (place : Place)
      → ((number : ℕ) → number < place_count terms → P (place_of number) (servings_of (phase.past number))) → P place [] → P place (past_of pasts place)
  of_past P place there nothing = go (past_cases phase.past (length world.shards) place)
    where
      go : ((place.shard < length world.shards) × (place.seat < places_each)) ⊎ (past_of pasts place ≡ []) → P place (past_of pasts place)
      go (inl is_there) =
          subst (P place) (sym (past_is phase.past (length world.shards) place is_there.0 is_there.1))
          (subst (λ (p : Place). P p (servings_of (phase.past (number_of phase.past place)))) (place_is place is_there.1)
          (there (number_of phase.past place) (place_there place is_there.0 is_there.1)))
      go (inr is_none) = subst (P place) (sym is_none) nothing

  -- A place's past is a chain from its content.
  pub past_chained : (place : Place) → IsPlaceChain (content_at host world place) (past_of pasts place)
  past_chained place =
      of_past (λ p servings. IsPlaceChain (content_at host world p) servings) place
      (λ number there. subst (λ (c : Content). IsPlaceChain c (servings_of (phase.past number))) (sym (is.made.contents number there))
      (chain_leads terms number (first_at terms number) (get_or after number Vacant) (phase.past number) (phase.leads number there)))
      tt

  own_past : (place : Place) → AllByRecursion (λ serving. serving.place ≡ place) (past_of pasts place)
  own_past place =
      of_past (λ p servings. AllByRecursion (λ serving. serving.place ≡ p) servings) place
      (λ number there. place_leads terms number (first_at terms number) (get_or after number Vacant) (phase.past number) (phase.leads number there))
      tt

  -- the past of the place of a number
  numbered_past : (number : ℕ) → number < place_count terms → past_of pasts (place_of number) ≡ servings_of (phase.past number)
  numbered_past number there =
      past_is phase.past (length world.shards) (place_of number) (omega (arith, there, is.made.places)) (omega arith)
      ∙ ap (λ (n : ℕ). servings_of (phase.past n)) (omega arith)

  -- Behind it the place has the last content that the table gives.
  pub past_leaves : (number : ℕ) → number < place_count terms
      → content_behind (content_at host world (place_of number)) (past_of pasts (place_of number)) ≡ shown_content (get_or after number Vacant)
  past_leaves number there =
      (λ k. content_behind (is.made.contents number there k) (numbered_past number there k))
      ∙ behind_leads terms number (first_at terms number) (get_or after number Vacant) (phase.past number) (phase.leads number there)

  -- ---- the whole

  -- The lists have the servings of the pasts.
  pub same_servings : IsPermutation (joined lists) (joined_pasts pasts)
  same_servings =
      subst (λ (xs : List (Serving Content Request)). IsPermutation xs (joined_pasts pasts)) (sym (lists_joined rows))
      (subst (IsPermutation (servings_of (services_in rows))) (sym (pasts_joined phase.past (length world.shards) (place_count terms) is.made.places))
      (IsPermutation-map serving_of (services_in rows) (joined_from 0 (place_count terms) phase.past) phase.same))

  -- What a table tells of a phase is told as it is asked.
  pub are_told : AreTold host world lists pasts
  are_told = record {
    served = subst (AllByRecursion (IsServed host world)) (sym (lists_joined rows)) (all-map (IsServed host world) serving_of (services_in rows) rows_done);
    same = same_servings;
    own_worker = own_list;
    own_place = own_past;
    workers = list_chained;
    places = past_chained;
  }

  -- ---- stops

  -- A worker's stop is noted.
  stop_noted : EndsClocks functions settings script → (worker : ℕ) (stop : Stop) → worker < length world.workers → (row_at rows worker).stop ≡ Some stop
      → IsNoted host world lists pasts (record { place = place_of stop.place; worker = worker; request = stop.request })
  stop_noted ends worker stop there stops = record {
    may = record {
      there = there;
      at = is_place functions settings script world standing terms is.made stop.place noted.at.there;
      running = running worker there;
      owns = owns_there functions settings script world standing terms is.made stop.place noted.at.there stop.request noted.at
          (next_value functions settings script is.behind.values world.phase worker _ stop.request ((is.turns worker there).last stop stops));
    };
    next =
        ap (λ (servings : List (Serving Content Request)). slice_get (asked host worker) ((worker_at host world worker).served + length servings)) (list_is rows worker)
        ∙ ap (λ (n : ℕ). slice_get (asked host worker) ((worker_at host world worker).served + n)) (as_many (row_at rows worker).list)
        ∙ (is.turns worker there).last stop stops;
    noted = shown_content stop.content;
    had = subst (λ (c : Content). IsHad c (past_of pasts (place_of stop.place)) (shown_content stop.content)) (sym (is.made.contents stop.place noted.at.there))
        (subst (λ (servings : List (Serving Content Request)). IsHad (shown_content (first_at terms stop.place)) servings (shown_content stop.content))
        (sym (numbered_past stop.place noted.at.there)) (had_shown (first_at terms stop.place) stop.content (phase.past stop.place) noted.had));
    ends =
        ap (λ (clock : Reading). host.serve worker clock (shown_content stop.content) stop.request) clock_is
        ∙ ends worker (shown_content stop.content) stop.request stop.clock noted.ends;
  }
    where
      noted : told.IsStop terms (phase.past stop.place) (row_at rows worker).list stop
      noted = phase.ended worker stop (known worker there) stops

      as_many : (services : List Service) → length (servings_of services) ≡ length services
      as_many [] = refl
      as_many (service ∷ services) = ap (λ (n : ℕ). suc n) (as_many services)

      clock_is : clock_behind (worker_at host world worker).clock (list_of lists worker) ≡ stop.clock
      clock_is =
          ap (clock_behind (worker_at host world worker).clock) (list_is rows worker)
          ∙ stop_clock (worker_at host world worker).clock (row_at rows worker).list stop noted.behind
          (subst (λ (o : Option Stop). ForSome (first_clock (row_at rows worker).list o) (λ first. first ≡ (worker_at host world worker).clock)) stops
          (is.turns worker there).begins)

  -- All stops are.
  pub stops_noted : EndsClocks functions settings script → AllByRecursion (IsNoted host world lists pasts) (stops_of rows)
  stops_noted ends = all-stops (IsNoted host world lists pasts) 0 rows (λ i there. one i (omega (arith, there, rows_are)) (row_at rows i).stop refl)
    where
      one : (i : ℕ) → i < length world.workers → (stop : Option Stop) → (row_at rows i).stop ≡ stop → AllByRecursion (IsNoted host world lists pasts) (stop_of (0 + i) stop)
      one i there None stops = tt
      one i there (Some stop) stops =
          (subst (λ (n : ℕ). IsNoted host world lists pasts (record { place = place_of stop.place; worker = n; request = stop.request })) (omega arith) (stop_noted ends i stop there stops), tt)

  pub others_stop : AreOfOthers (stops_of rows)
  others_stop = stops_apart 0 rows

  -- ---- one order

  -- The phase has one order.
  pub one_order : EndsClocks functions settings script → IsSteady host → OrdersPhase host → HasOneOrder host world lists pasts (stops_of rows)
  one_order ends steady orders = orders world lists pasts (stops_of rows) steady is.rest are_told (stops_noted ends) others_stop

  -- And it ends in the contents that the table gives.
  pub one_end : EndsClocks functions settings script → IsSteady host → OrdersPhase host → (number : ℕ) → number < place_count terms
      → content_at host (run_events host world (phase_events lists (stops_of rows))) (place_of number) ≡ shown_content (get_or after number Vacant)
  one_end ends steady orders number there = (one_order ends steady orders).ends.contents (place_of number) ∙ past_leaves number there

  -- That world stands behind the setup, as the one before.
  pub one_behind : EndsClocks functions settings script → IsSteady host → OrdersPhase host
      → IsBehindSetup functions settings script (run_events host world (phase_events lists (stops_of rows)))
  one_behind ends steady orders = record {
    settings_fit = is.behind.settings_fit;
    counters = is.behind.counters;
    keys = is.behind.keys;
    values = is.behind.values;
    events = is.behind.events ++ phase_events lists (stops_of rows);
    enabled = enabled-append host (set_up host) is.behind.events (phase_events lists (stops_of rows)) is.behind.enabled
        (subst (λ (w : World Content). AreEnabled host w (phase_events lists (stops_of rows))) is.behind.is (one_order ends steady orders).enabled);
    is = ap (λ (w : World Content). run_events host w (phase_events lists (stops_of rows))) is.behind.is
        ∙ sym (run-append host (set_up host) is.behind.events (phase_events lists (stops_of rows)));
  }
