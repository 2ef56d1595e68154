-- What a table with epochs tells of a round of the shipped host is what `round_order` asks.
use Rattle.std.proofs.Common.{◌≡◌, ◌⊎◌, ℕ, suc, ◌+◌, ◌<◌, ◌≤◌, ◌/◌, false, List, [], None, length, get_or, refl, sym, ◌∙◌, ap, subst, inl, inr, arith, IsPermutation}
use Rattle.std.specs.List.{AllByRecursion}
use Rattle.std.proofs.lemmas.Bool.{cases_lt}
use Rattle.std.proofs.lemmas.Nat.{mod_below}
use Rattle.std.proofs.lemmas.List.{get_or_past}
use Rattle.std.proofs.lemmas.List.Sorted.{IsPermutation-map, IsPermutation-sym}
use Rattle.record_hash.specs.Functions.{DigestFunctions}
use Rattle.record_text.specs.declared.request.Request.{Request}
use Rattle.script_text.specs.declared.task.Task.{Task}
use Rattle.host_core.specs.Host.{Host}
use Rattle.host_core.specs.World.{Place, World, worker_at, set_up}
use Rattle.host_core.specs.WorldEvent.{WorldEvent, IsPlace, AreEnabled, run_events}
use Rattle.host_core.specs.Core.{IsInPhase, IsStanding}
use Rattle.round_order.specs.Turn.{Turn, IsPlaceChain, IsWorkerChain, content_at, content_behind, clock_behind}
use Rattle.round_order.specs.Told.{joined, joined_pasts, list_of, past_of, IsTaken, AreTold}
use Rattle.host_shard.specs.declared.content.Content as code
use Rattle.host_shard.specs.declared.content.Content.TheVariants.{Vacant}
use Rattle.host_shard.specs.Content.{Content}
use Rattle.host_shard.specs.Shown.{shown_content}
use Rattle.host_epochs.specs.declared.told.Entry.{Entry}
use Rattle.host_epochs.specs.declared.views.Row.{Row}
use Rattle.host_epochs.specs.Plays.{new_row}
use Rattle.host_epochs.specs.Round.{row_at, IsRound}
use Rattle.host_epochs.specs.Terms.{Terms, place_count, first_at, first_epoch, owner}
use Rattle.host_epochs.specs.Told.{IsListOf, joined_from}
use Rattle.host_table.specs.Terms.{phase_of}
use Rattle.shipped_host.specs.declared.settings.Settings.{Settings}
use Rattle.shipped_host.specs.ShippedHost.{shipped_host}
use Rattle.host_fits.specs.Mirroring.{PlacesMirror}
use Rattle.host_world.specs.Places.{places_each, place_of}
use Rattle.round_fits.specs.Rounds.{HasNothingHot}
use Rattle.table_order.specs.Rounds.{turn_of, turns_of, lists_of, pasts_of, finals_of, IsTableOfRound}
use Rattle.table_order.proofs.Keeping.{DoesPlans}
use Rattle.table_order.proofs.ListLemmas.{all-moved, all-flat, all-map}
use Rattle.table_order.proofs.PlaceLemmas.{place_back, five_seats}
use Rattle.table_order.proofs.RoundShapeLemmas.{all-joined, all-numbered, list_is, entries_in, lists_joined, pasts_joined, number_of, past_is, past_cases}
use Rattle.table_order.proofs.RoundPastLemmas.{behind_leads, chain_leads, place_leads, waits_each, IsSmall, IsOfMode, plain_made, past_taken}
use Rattle.table_order.proofs.RoundTurnLemmas.{list_behind, worker_chain, next_small}

-- A table of a round is in one of the two modes.
pub of_mode : (functions : DigestFunctions) (settings : Settings) (script : List (List Task)) (world : World Content) (terms : Terms) (rows : List Row)
    → IsTableOfRound functions settings script world terms rows
    → IsStanding (PlacesMirror functions settings) (shipped_host functions settings script) world
    → (settings.rolling ≡ false → IsInPhase (shipped_host functions settings script) world)
    → ((events : List (WorldEvent Request)) → let host = shipped_host functions settings script in
    settings.hot ≡ None → AreEnabled host (set_up host) events → HasNothingHot (run_events host (set_up host) events))
    → IsOfMode settings world terms
of_mode functions settings script world terms rows is standing in_phase hot = record {
  cold_only = is.behind.settings_fit.cold;
  nothing_hot = λ rolling. subst HasNothingHot (sym is.behind.is) (hot is.behind.events (is.behind.settings_fit.cold rolling) is.behind.enabled);
  plain = λ plain.
      let some : 0 < length world.workers = omega (arith, standing.workers, is.behind.settings_fit.header.some_verifiers) in
      let here = is.level.clocks 0 some in
      let of_phase = (in_phase plain is.level.phase).0 0 some in
      let final = is.made.final in
      omega (arith, here, of_phase, final);
}

module _ (functions : DigestFunctions) (settings : Settings) (script : List (List Task)) (world : World Content) (terms : Terms)
    (after : List code.Content) (rows : List Row) (is : IsTableOfRound functions settings script world terms rows) (round : IsRound terms after rows)
    (standing : IsStanding (PlacesMirror functions settings) (shipped_host functions settings script) world)
    (mode : IsOfMode settings world terms) where
  abbrev host : Host Content Request
  host = shipped_host functions settings script

  abbrev top : ℕ
  top = first_epoch terms + round.newest

  abbrev finals : ℕ → ℕ
  finals = finals_of terms rows

  abbrev lists : List (List (Turn Content Request))
  lists = lists_of rows

  abbrev pasts : List (List (List (Turn Content Request)))
  pasts = pasts_of (length world.shards) round.past

  pub running : (worker : ℕ) → worker < length world.workers → (worker_at host world worker).stopped ≡ false
  running worker there = (is.turns worker there).running

  -- as many rows as workers
  pub rows_are : length rows ≡ length world.workers
  rows_are = round.all ∙ is.made.workers

  pub known : (worker : ℕ) → worker < length world.workers → worker < terms.workers
  known worker there = omega (arith, there, is.made.workers)

  -- ---- the entries

  rows_small : AllByRecursion (IsSmall settings.header) (entries_in rows)
  rows_small = all-flat (IsSmall settings.header) (λ (row : Row). row.list) new_row rows
      (λ i there. next_small functions settings script is.behind.keys is.behind.values i (worker_at host world i).served (row_at rows i).list
      (is.turns i (omega (arith, there, rows_are))).next)

  module _ (does : DoesPlans functions settings script) where
    -- the entry is what the host does
    abbrev IsDone : Entry → Type 0
    IsDone entry = IsTaken host settings.rolling world (turn_of entry)

    pasts_taken : AllByRecursion IsDone (joined_from 0 (place_count terms) round.past)
    pasts_taken = all-joined IsDone round.past 0 (place_count terms) (λ place from below.
        let there : place < place_count terms = omega (arith, below) in
        past_taken functions settings script world standing terms is.made is.digests does mode running place there (get_or after place Vacant) (round.past place) (round.leads place there)
        (all-numbered (IsSmall settings.header) round.past 0 (place_count terms) place from below
        (all-moved (IsSmall settings.header) (entries_in rows) (joined_from 0 (place_count terms) round.past) round.same rows_small)))

    rows_taken : AllByRecursion IsDone (entries_in rows)
    rows_taken = all-moved IsDone (joined_from 0 (place_count terms) round.past) (entries_in rows)
        (IsPermutation-sym (entries_in rows) (joined_from 0 (place_count terms) round.past) round.same) pasts_taken

  -- ---- workers

  -- who is no worker has no list
  no_list : (worker : ℕ) → length world.workers ≤ worker → row_at rows worker ≡ new_row
  no_list worker none_there = get_or_past rows worker new_row (omega (arith, none_there, rows_are))

  -- of the list of a worker, or of an empty one
  of_list : (P : List (Turn Content Request) → Type 0) (worker : ℕ) → (worker < length world.workers → P (turns_of (row_at rows worker).list)) → P [] → P (list_of lists worker)
  of_list P worker there nothing = subst P (sym (list_is rows worker)) (go (cases_lt worker (length world.workers)))
    where
      go : (worker < length world.workers) ⊎ (length world.workers ≤ worker) → P (turns_of (row_at rows worker).list)
      go (inl is_there) = there is_there
      go (inr none_there) = subst (λ (row : Row). P (turns_of row.list)) (sym (no_list worker none_there)) nothing

  pub list_told : (worker : ℕ) → worker < length world.workers → IsListOf terms worker (row_at rows worker).list (row_at rows worker).entered
  list_told worker there = round.own worker (known worker there)

  -- A worker's list is a chain from its clock.
  pub row_chained : (worker : ℕ) → worker < length world.workers
      → IsWorkerChain host worker (worker_at host world worker).clock (worker_at host world worker).served (turns_of (row_at rows worker).list)
  row_chained worker there =
      let turns = is.turns worker there in
      let own = list_told worker there in
      worker_chain host worker terms (worker_at host world worker).clock own.last (worker_at host world worker).served
      (row_at rows worker).list own.behind.chained turns.begins turns.next

  list_chained : (worker : ℕ) → IsWorkerChain host worker (worker_at host world worker).clock (worker_at host world worker).served (list_of lists worker)
  list_chained worker = of_list (IsWorkerChain host worker (worker_at host world worker).clock (worker_at host world worker).served) worker (row_chained worker) tt

  own_list : (worker : ℕ) → AllByRecursion (λ turn. turn.worker ≡ worker) (list_of lists worker)
  own_list worker =
      of_list (AllByRecursion (λ turn. turn.worker ≡ worker)) worker
      (λ there. all-map (λ turn. turn.worker ≡ worker) turn_of (row_at rows worker).list (list_told worker there).own)
      tt

  -- its last clock is in the last epoch that it entered, or before it
  last_clock : (worker : ℕ) → worker < length world.workers → (clock_behind (worker_at host world worker).clock (list_of lists worker)).at.epoch ≤ finals worker
  last_clock worker there =
      let own = list_told worker there in
      let epoch = own.behind.epoch in
      let from : (worker_at host world worker).clock.at.epoch ≤ own.last.at.epoch = let level = is.level.clocks worker there in omega (arith, level, epoch) in
      subst (λ (turns : List (Turn Content Request)). (clock_behind (worker_at host world worker).clock turns).at.epoch ≤ finals worker) (sym (list_is rows worker))
      (subst (λ (n : ℕ). (clock_behind (worker_at host world worker).clock (turns_of (row_at rows worker).list)).at.epoch ≤ n) epoch
      (list_behind terms (worker_at host world worker).clock own.last (row_at rows worker).list from own.behind.chained))

  -- ---- places

  -- the number of a place that there is
  place_there : (place : Place) → place.shard < length world.shards → place.seat < places_each → number_of round.past place < place_count terms
  place_there place shard seat = omega (arith, shard, seat, is.made.places)

  place_is : (place : Place) → place.seat < places_each → place_of (number_of round.past place) ≡ place
  place_is place seat = place_back (number_of round.past place) place.shard place.seat refl seat

  -- of the past of a place, or of an empty one
  of_past : (P : Place → List (Turn Content Request) → Type 0) (place : Place)
      → ((number : ℕ) → number < place_count terms → P (place_of number) (turns_of (round.past number))) → P place [] → P place (past_of pasts place)
  of_past P place there nothing = go (past_cases round.past (length world.shards) place)
    where
      go : ((place.shard < length world.shards) × (place.seat < places_each)) ⊎ (past_of pasts place ≡ []) → P place (past_of pasts place)
      go (inl is_there) =
          subst (P place) (sym (past_is round.past (length world.shards) place is_there.0 is_there.1))
          (subst (λ (p : Place). P p (turns_of (round.past (number_of round.past place)))) (place_is place is_there.1)
          (there (number_of round.past place) (place_there place is_there.0 is_there.1)))
      go (inr is_none) = subst (P place) (sym is_none) nothing

  -- A place's past is a chain from its content.
  past_chained : (place : Place) → IsPlaceChain (content_at host world place) (past_of pasts place)
  past_chained place =
      of_past (λ p turns. IsPlaceChain (content_at host world p) turns) place
      (λ number there. subst (λ (c : Content). IsPlaceChain c (turns_of (round.past number))) (sym (is.made.contents number there))
      (chain_leads terms number (first_at terms number) (get_or after number Vacant) (round.past number) (round.leads number there)))
      tt

  own_past : (place : Place) → AllByRecursion (λ turn. turn.place ≡ place) (past_of pasts place)
  own_past place =
      of_past (λ p turns. AllByRecursion (λ turn. turn.place ≡ p) turns) place
      (λ number there. place_leads terms number (first_at terms number) (get_or after number Vacant) (round.past number) (round.leads number there))
      tt

  -- the past of the place of a number
  numbered_past : (number : ℕ) → number < place_count terms → past_of pasts (place_of number) ≡ turns_of (round.past number)
  numbered_past number there =
      past_is round.past (length world.shards) (place_of number) (omega (arith, there, is.made.places)) (omega arith)
      ∙ ap (λ (n : ℕ). turns_of (round.past n)) (omega arith)

  -- Behind it the place has the last content that the table gives.
  pub past_leaves : (number : ℕ) → number < place_count terms
      → content_behind (content_at host world (place_of number)) (past_of pasts (place_of number)) ≡ shown_content (get_or after number Vacant)
  past_leaves number there =
      (λ k. content_behind (is.made.contents number there k) (numbered_past number there k))
      ∙ behind_leads terms number (first_at terms number) (get_or after number Vacant) (round.past number) (round.leads number there)

  -- the owner of a place is a worker
  pub owner_there : (number : ℕ) → number < place_count terms → owner terms number < terms.workers
  owner_there number there =
      let some : 0 < terms.workers = omega (arith, standing.workers, is.behind.settings_fit.header.some_verifiers, is.made.workers) in
      mod_below (number / 5) terms.workers some

  -- what waits at a place at the end is of the epoch with which its owner is through, or of a later one
  pub last_waits : (P : ℕ → Type 0) → ((worker epoch : ℕ) → worker < terms.workers → first_epoch terms + (row_at rows worker).done ≤ epoch → P epoch) → (place : Place) → IsPlace world place
      → AllByRecursion (λ element. P element.stamp.epoch) (host.pending (content_behind (content_at host world place) (past_of pasts place)))
  last_waits P from place at =
      subst (λ (p : Place). AllByRecursion (λ element. P element.stamp.epoch) (host.pending (content_behind (content_at host world p) (past_of pasts p)))) (place_is place few)
      (subst (λ (c : Content). AllByRecursion (λ element. P element.stamp.epoch) (host.pending c)) (sym (past_leaves number there))
      (waits_each _ P (λ epoch within. from (owner terms number) epoch (owner_there number there) within.0)
      (shown_content (get_or after number Vacant)) (round.epochs number there)))
    where
      few : place.seat < 5
      few = omega (
        arith,
        at.1,
        five_seats functions settings script world standing (phase_of terms)
            (plain_made functions settings script world terms is.made) place.shard at.0,
      )

      number : ℕ
      number = number_of round.past place

      there : number < place_count terms
      there = place_there place at.0 few

  -- ---- the whole

  -- The lists have the turns of the pasts.
  same_turns : IsPermutation (joined lists) (joined_pasts pasts)
  same_turns =
      subst (λ (xs : List (Turn Content Request)). IsPermutation xs (joined_pasts pasts)) (sym (lists_joined rows))
      (subst (IsPermutation (turns_of (entries_in rows))) (sym (pasts_joined round.past (length world.shards) (place_count terms) is.made.places))
      (IsPermutation-map turn_of (entries_in rows) (joined_from 0 (place_count terms) round.past) round.same))

  -- What a table tells of a round is told as it is asked.
  pub are_told : DoesPlans functions settings script → AreTold host settings.rolling world top finals lists pasts
  are_told does = record {
    taken = subst (AllByRecursion (IsTaken host settings.rolling world)) (sym (lists_joined rows)) (all-map (IsTaken host settings.rolling world) turn_of (entries_in rows) (rows_taken does));
    same = same_turns;
    own_worker = own_list;
    own_place = own_past;
    workers = list_chained;
    places = past_chained;
    final = λ i there.
        let entered = round.entered i (known i there) in
        let done = round.done i (known i there) in
        let behind = round.behind i (known i there) in
        (last_clock i there, omega (arith, entered), omega (arith, done, behind));
    ends = last_waits (λ epoch. top ≤ suc epoch) (λ worker epoch there from. let behind = round.behind worker there in omega (arith, from, behind));
  }
