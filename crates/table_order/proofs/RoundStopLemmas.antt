-- Where a worker of a round stopped its clock has ended, by itself or at an element that its place has had.
use Rattle.std.proofs.Common.{◌≡◌, ◌⊎◌, ℕ, ◌+◌, ◌==◌, ◌<◌, ◌≤◌, ◌/◌, ◌%◌, max, Bool, true, false, List, [], ◌∷◌, length, get_or, Option, Some, None, if◌then◌else◌, refl, sym, ◌∙◌, ap, subst, inl, inr, arith}
use Rattle.std.specs.List.{AllByRecursion}
use Rattle.std.proofs.lemmas.Bool.{cases_lt, eqb-true}
use Rattle.std.proofs.lemmas.Option.{none-some, same_Some}
use Rattle.lamport_clocks.specs.declared.stamp.Stamp.{Stamp}
use Rattle.lamport_clocks.specs.Clock.{last_epoch, greater_counter}
use Rattle.lamport_clocks.specs.Reading.{Reading}
use Rattle.record_hash.specs.Functions.{DigestFunctions}
use Rattle.record_text.specs.declared.element.Element.{Element}
use Rattle.record_text.specs.declared.request.Request.{Request}
use Rattle.script_text.specs.declared.task.Task.{Task}
use Rattle.verifier_commands.proofs.TickLaws.{IsUpTo, up_to-trans}
use Rattle.host_core.specs.Core.{AreAccepted, IsEven, IsStanding}
use Rattle.host_core.specs.Deeds.{pending_of}
use Rattle.host_core.specs.Host.{Host}
use Rattle.host_core.specs.WorldEvent.{IsPlace}
use Rattle.host_core.specs.World.{Seats, World, unmoved, worker_at, shard_at, epoch_of}
use Rattle.round_order.specs.Turn.{Turn, on_to, served_more, IsWorkerChain, clock_behind}
use Rattle.round_order.specs.Told.{final_clock, IsInTheWay, IsStopTold}
use Rattle.round_order.proofs.GoingLaws.{on_to-later, on_to-there}
use Rattle.host_shard.specs.declared.content.Content as code
use Rattle.host_shard.specs.declared.content.Content.TheVariants.{Vacant}
use Rattle.host_shard.specs.Shard.{pending_shard}
use Rattle.host_shard.specs.Content.{Content, cold, hot, vacant, pending, pending_hot}
use Rattle.host_shard.specs.Shown.{shown_content}
use Rattle.host_plan.specs.Plan.{IsPastEnd, clock_after}
use Rattle.host_epochs.specs.declared.told.Entry.{Entry}
use Rattle.host_epochs.specs.declared.told.Meeting.{Meeting}
use Rattle.host_epochs.specs.declared.told.Stop.{Stop}
use Rattle.host_epochs.specs.declared.views.Row.{Row}
use Rattle.host_epochs.specs.Plays.{new_row}
use Rattle.host_epochs.specs.Round.{row_at, IsRound}
use Rattle.host_epochs.specs.Stops.{EndsSo, IsStop}
use Rattle.host_epochs.specs.Terms.{Terms, place_count, first_at}
use Rattle.host_epochs.specs.Told.{IsDone, IsAsked, Leads, IsHad, joined_from}
use Rattle.host_epochs.proofs.WorkLaws.{later_is}
use Rattle.host_table.specs.Terms.{phase_of}
use Rattle.shipped_host.specs.declared.settings.Settings.{Settings}
use Rattle.shipped_host.specs.ShippedHost.{shipped_host}
use Rattle.host_fits.specs.Mirroring.{PlacesMirror}
use Rattle.host_world.specs.Places.{place_of}
use Rattle.table_order.specs.Rounds.{turns_of, lists_of, finals_of, in_way, found_at, stop_of, stops_of, IsTableOfRound}
use Rattle.table_order.proofs.ComeLemmas.{both_ways, HasComeUp, stand_of, pending_come}
use Rattle.table_order.proofs.EvictLemmas.{entry_evict}
use Rattle.table_order.proofs.ListLemmas.{all-moved, all-flat, all-part}
use Rattle.table_order.proofs.MakingLemmas.{of_waiting}
use Rattle.table_order.proofs.PlaceLemmas.{is_place}
use Rattle.table_order.proofs.RoundShapeLemmas.{all-numbered, list_is, entries_in}
use Rattle.table_order.proofs.RoundPastLemmas.{plain_made, IsOfMode}
use Rattle.table_order.proofs.RoundTurnLemmas.{all-stops}
use Rattle.table_order.proofs.RoundLemmas.{rows_are, known, list_told, row_chained}

-- ---- clocks rise

-- a worker that goes on to an epoch does not fall
on_up : (epoch : ℕ) (clock : Reading) → IsUpTo clock.at (on_to epoch clock).at
on_up epoch clock = go (cases_lt clock.at.epoch epoch)
  where
    go : (clock.at.epoch < epoch) ⊎ (epoch ≤ clock.at.epoch) → IsUpTo clock.at (on_to epoch clock).at
    go (inl less) = subst (λ (r : Reading). IsUpTo clock.at r.at) (sym (on_to-later epoch clock less)) (inl less)
    go (inr there) = subst (λ (r : Reading). IsUpTo clock.at r.at) (sym (on_to-there epoch clock there)) (inr (refl, omega arith))

after_up : (content : Content) (clock : Reading) → IsUpTo clock.at (clock_after content clock).at
after_up (cold shard) clock = inr (refl, omega arith)
after_up (hot found) clock = inr (refl, omega arith)
after_up vacant clock = inr (refl, omega arith)

entry_up : (terms : Terms) (entry : Entry) → IsAsked terms entry → IsUpTo entry.clock.at entry.later.at
entry_up terms entry asked =
    subst (λ (r : Reading). IsUpTo entry.clock.at r.at) (sym (later_is terms entry entry.request asked.work)) (after_up (shown_content entry.before) entry.clock)

-- from the first clock of a list to the last, by way of what each entry leaves
module _ (host : Host Content Request) (worker : ℕ) (terms : Terms) (final : ℕ) where
  chain_up : (clock : Reading) (served : ℕ) (entries : List Entry) → IsWorkerChain host worker clock served (turns_of entries) → AllByRecursion (IsDone terms) entries
      → IsUpTo clock.at (on_to final (clock_behind clock (turns_of entries))).at
      × AllByRecursion (λ entry. IsUpTo entry.later.at (on_to final (clock_behind clock (turns_of entries))).at) entries
  chain_up clock served [] chain done = (on_up final clock, tt)
  chain_up clock served (entry ∷ entries) chain done =
      let last : Stamp = (on_to final (clock_behind entry.later (turns_of entries))).at in
      let rest = chain_up entry.later (served_more served entry.request) entries chain.3 done.1 in
      let from : IsUpTo clock.at entry.clock.at = subst (λ (r : Reading). IsUpTo clock.at r.at) (sym chain.0) (on_up entry.clock.at.epoch clock) in
      let all : AllByRecursion (λ (e : Entry). IsUpTo e.later.at last) (entry ∷ entries) = (rest.0, rest.1) in
      (up_to-trans clock.at entry.clock.at last from (up_to-trans entry.clock.at entry.later.at last (entry_up terms entry done.0.asked) rest.0), all)

-- ---- where two counters more pass the end

past_alone : (content : Content) (clock : Reading) → pending content ≡ None → IsPastEnd content clock → clock.end < clock.at.counter + 2
past_alone (cold shard) clock waits past = absurd (none-some _ (sym waits))
past_alone (hot found) clock waits past = absurd (none-some _ (sym waits))
past_alone vacant clock waits past = omega (arith, past)

past_at : (content : Content) (element : Element) (clock : Reading) → pending content ≡ Some element → IsPastEnd content clock
    → clock.end < 1 + (1 + greater_counter clock.at element.stamp)
past_at (cold shard) element clock waits past =
    subst (λ (e : Element). clock.end < 1 + (1 + greater_counter clock.at e.stamp)) (same_Some (pending_shard shard) element waits) past
past_at (hot found) element clock waits past =
    subst (λ (e : Element). clock.end < 1 + (1 + greater_counter clock.at e.stamp)) (same_Some (pending_hot found) element waits) past
past_at vacant element clock waits past = absurd (none-some element waits)

-- ---- a round

leads_done : (terms : Terms) (place : ℕ) (x y : code.Content) (entries : List Entry) → Leads terms place x entries y → AllByRecursion (IsDone terms) entries
leads_done terms place x y [] leads = tt
leads_done terms place x y (entry ∷ entries) leads = (leads.2, leads_done terms place entry.after y entries leads.3)

module _ (functions : DigestFunctions) (settings : Settings) (script : List (List Task)) (world : World Content) (terms : Terms)
    (after : List code.Content) (rows : List Row) (is : IsTableOfRound functions settings script world terms rows) (round : IsRound terms after rows)
    (standing : IsStanding (PlacesMirror functions settings) (shipped_host functions settings script) world)
    (mode : IsOfMode settings world terms)
    (accepted : AreAccepted (shipped_host functions settings script) world) (even : IsEven (shipped_host functions settings script) world) where
  abbrev host : Host Content Request
  host = shipped_host functions settings script

  abbrev finals : ℕ → ℕ
  finals = finals_of terms rows

  abbrev lists : List (List (Turn Content Request))
  lists = lists_of rows

  -- a worker's last clock
  abbrev final : ℕ → Reading
  final i = final_clock host world finals lists i

  final_is : (i : ℕ) → final i ≡ on_to (finals i) (clock_behind (worker_at host world i).clock (turns_of (row_at rows i).list))
  final_is i = ap (λ (turns : List (Turn Content Request)). on_to (finals i) (clock_behind (worker_at host world i).clock turns)) (list_is rows i)

  -- it is not before its first one, nor before what an entry left
  final_up : (i : ℕ) → i < length world.workers
      → IsUpTo (worker_at host world i).clock.at (final i).at × AllByRecursion (λ entry. IsUpTo entry.later.at (final i).at) (row_at rows i).list
  final_up i there =
      subst (λ (r : Reading). IsUpTo (worker_at host world i).clock.at r.at × AllByRecursion (λ (entry : Entry). IsUpTo entry.later.at r.at) (row_at rows i).list) (sym (final_is i))
      (chain_up host i terms (finals i) (worker_at host world i).clock (worker_at host world i).served (row_at rows i).list
      (row_chained functions settings script world terms after rows is round standing mode i there)
      (list_told functions settings script world terms after rows is round standing mode i there).done)

  -- ---- what has come

  -- the element is of a worker, whose last clock has come to its stamp
  abbrev HasCome : Element → Type 0
  HasCome element = HasComeUp (length world.workers) (λ i. (final i).at) element

  abbrev HaveCome : Content → Type 0
  HaveCome content = (element : Element) → pending content ≡ Some element → HasCome element

  abbrev IsComeEntry : Entry → Type 0
  IsComeEntry entry = (entry.worker < length world.workers) × IsUpTo entry.later.at (final entry.worker).at

  rows_come : AllByRecursion IsComeEntry (entries_in rows)
  rows_come = all-flat IsComeEntry (λ (row : Row). row.list) new_row rows (λ i below.
      let there : i < length world.workers = omega (arith, below, rows_are functions settings script world terms after rows is round standing mode) in
      both_ways (λ (entry : Entry). entry.worker ≡ i) (λ (entry : Entry). IsUpTo entry.later.at (final i).at) IsComeEntry
      (λ entry own up. (
        subst (λ (n : ℕ). n < length world.workers) (sym own) there,
        subst (λ (n : ℕ). IsUpTo entry.later.at (final n).at) (sym own) up,
      ))
      (row_at rows i).list (list_told functions settings script world terms after rows is round standing mode i there).own (final_up i there).1)

  past_come : (place : ℕ) → place < place_count terms → AllByRecursion IsComeEntry (round.past place)
  past_come place there = all-numbered IsComeEntry round.past 0 (place_count terms) place (omega arith) (omega (arith, there))
      (all-moved IsComeEntry (entries_in rows) (joined_from 0 (place_count terms) round.past) round.same rows_come)

  -- the same of where the clocks stand at the beginning
  abbrev IsFound : Element → Type 0
  IsFound = HasComeUp (length world.workers) (stand_of host world)

  -- what a place had at the making has come
  first_come : (place : ℕ) → place < place_count terms → HaveCome (shown_content (first_at terms place))
  first_come place there element waits =
      (found.0, up_to-trans element.stamp (stand_of host world element.verifier) (final element.verifier).at found.1 (final_up element.verifier found.0).0)
    where
      at : IsPlace world (place_of place)
      at = is_place functions settings script world standing (phase_of terms) (plain_made functions settings script world terms is.made) place there

      here : AllByRecursion IsFound (host.pending (get_or (shard_at world (place / 5)).contents (place % 5) vacant))
      here = all-part IsFound host.pending vacant (shard_at world (place / 5)).contents (place % 5) at.1
          (all-part IsFound (λ (seats : Seats Content). pending_of host seats.contents) (unmoved []) world.shards (place / 5) at.0 (pending_come host world accepted even))

      found : IsFound element
      found = of_waiting IsFound (pending (shown_content (first_at terms place))) element waits
          (subst (λ (c : Content). AllByRecursion IsFound (host.pending c)) (is.made.contents place there) here)

  -- and what an entry left
  left_come : (entry : Entry) → IsComeEntry entry → IsDone terms entry → HaveCome (shown_content entry.after)
  left_come entry come done element waits =
      let evict = entry_evict terms entry entry.request done.asked.work in
      let same : evict.element ≡ element = same_Some evict.element element (sym evict.waits ∙ waits) in
      let own : element.verifier ≡ entry.worker = ap (λ (e : Element). e.verifier) (sym same) ∙ evict.own in
      let at : element.stamp ≡ entry.later.at = ap (λ (e : Element). e.stamp) (sym same) ∙ evict.at in (
        subst (λ (n : ℕ). n < length world.workers) (sym own) come.0,
        subst (λ (n : ℕ). IsUpTo element.stamp (final n).at) (sym own) (subst (λ (s : Stamp). IsUpTo s (final entry.worker).at) (sym at) come.1),
      )

  -- so all that a place has had
  had_come : (x had : code.Content) (entries : List Entry) → HaveCome (shown_content x) → AllByRecursion IsComeEntry entries → AllByRecursion (IsDone terms) entries
      → IsHad x entries had → HaveCome (shown_content had)
  had_come x had [] first come done same element waits = first element (ap pending (sym same) ∙ waits)
  had_come x had (entry ∷ entries) first come done (inl same) element waits = first element (ap pending (sym same) ∙ waits)
  had_come x had (entry ∷ entries) first come done (inr later) element waits =
      had_come entry.after had entries (left_come entry come.0 done.0) come.1 done.1 later element waits

  -- ---- a stop

  -- the clock has ended, by itself or at what stands in its way
  abbrev HasEnded : Reading → Option Element → Type 0
  HasEnded clock found =
      ((clock.at.epoch ≡ last_epoch) × (clock.at.epoch < epoch_of host world))
      ⊎ (clock.end < clock.at.counter + 2)
      ⊎ IsInTheWay host world finals lists clock found

  -- at an element of its epoch, or before it
  ends_at : (clock : Reading) (element : Element) → HasCome element → (same : Bool) → (element.stamp.epoch == clock.at.epoch) ≡ same
      → clock.end < 1 + (1 + max clock.at.counter (if same then element.stamp.counter else 0)) → HasEnded clock (if same then Some element else None)
  ends_at clock element come false other past = inr (inl (omega (arith, past)))
  ends_at clock element come true same past = go (cases_lt clock.at.counter element.stamp.counter)
    where
      go : (clock.at.counter < element.stamp.counter) ⊎ (element.stamp.counter ≤ clock.at.counter) → HasEnded clock (Some element)
      go (inr up) = inr (inl (omega (arith, past, up)))
      go (inl less) = inr (inr (record {
        element = element;
        is = refl;
        of_epoch = eqb-true element.stamp.epoch clock.at.epoch same;
        there = come.0;
        come = come.1;
        ends = omega (arith, past, less);
      }))

  ends_so : (clock : Reading) (met : Option Meeting) → EndsSo terms round.past clock met → HasEnded clock (found_at clock met)
  ends_so clock None (inl last) = inl (last.0, let within = last.1 in let final' = is.made.final in omega (arith, within, final'))
  ends_so clock None (inr past) = inr (inl past)
  ends_so clock (Some met) at = go (pending (shown_content met.content)) refl
    where
      go : (found : Option Element) → pending (shown_content met.content) ≡ found → HasEnded clock (in_way clock found)
      go None waits = inr (inl (past_alone (shown_content met.content) clock waits at.ends))
      go (Some element) waits =
          ends_at clock element
          (had_come (first_at terms met.place) met.content (round.past met.place) (first_come met.place at.there) (past_come met.place at.there)
          (leads_done terms met.place (first_at terms met.place) (get_or after met.place Vacant) (round.past met.place) (round.leads met.place at.there)) at.had element waits)
          (element.stamp.epoch == clock.at.epoch) refl (past_at (shown_content met.content) element clock waits at.ends)

  stop_told : settings.rolling ≡ true → (worker : ℕ) (stop : Stop) → worker < length world.workers → (row_at rows worker).stop ≡ Some stop
      → IsStopTold host world finals lists (record { worker = worker; found = found_at stop.clock stop.met })
  stop_told rolling worker stop there stops = record {
    rolling = rolling;
    there = there;
    running = (is.turns worker there).running;
    ended = subst (λ (clock : Reading). HasEnded clock (found_at stop.clock stop.met)) (sym clock_is) (ends_so stop.clock stop.met noted.ends);
  }
    where
      noted : IsStop terms round.past (row_at rows worker).list (row_at rows worker).entered stop
      noted = round.stopped worker stop (known functions settings script world terms after rows is round standing mode worker there) stops

      clock_is : final worker ≡ stop.clock
      clock_is = final_is worker
          ∙ ap (λ (n : ℕ). on_to n (clock_behind (worker_at host world worker).clock (turns_of (row_at rows worker).list))) (sym noted.behind.epoch)
          ∙ sym ((is.turns worker there).ends stop stops)

  -- Each stop is told as it is asked.
  pub stops_told : settings.rolling ≡ true → AllByRecursion (IsStopTold host world finals lists) (stops_of rows)
  stops_told rolling = all-stops (IsStopTold host world finals lists) 0 rows (λ i below.
      one i (omega (arith, below, rows_are functions settings script world terms after rows is round standing mode)) (row_at rows i).stop refl)
    where
      one : (i : ℕ) → i < length world.workers → (stop : Option Stop) → (row_at rows i).stop ≡ stop → AllByRecursion (IsStopTold host world finals lists) (stop_of (0 + i) stop)
      one i there None stops = tt
      one i there (Some stop) stops =
          (subst (λ (n : ℕ). IsStopTold host world finals lists (record { worker = n; found = found_at stop.clock stop.met })) (omega arith) (stop_told rolling i stop there stops), tt)
