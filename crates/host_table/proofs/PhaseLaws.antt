-- A round with no further epoch is a phase: its entries are services, its clocks are chained without a turn.
use Rattle.std.proofs.Common.{◌≡◌, ◌⊎◌, ℕ, zero, suc, ◌+◌, ◌<◌, ◌≤◌, List, [], ◌∷◌, ◌++◌, map, Option, Some, None, refl, sym, ap, ◌∙◌, subst, inl, inr, ⊎_elim, arith}
use Rattle.std.proofs.lemmas.List.{map-append}
use Rattle.std.proofs.lemmas.Option.{none-some, same_Some}
use Rattle.std.specs.List.{AllByRecursion}
use Rattle.lamport_clocks.specs.Reading.{Reading}
use Rattle.record_text.specs.declared.request.Request.{Request}
use Rattle.host_shard.specs.declared.content.Content.{Content}
use Rattle.host_shard.specs.Content as shown
use Rattle.host_shard.specs.Shown.{shown_content}
use Rattle.host_epochs.specs.declared.told.Entry.{Entry}
use Rattle.host_epochs.specs.declared.told.Meeting.{Meeting}
use Rattle.host_epochs.specs.declared.told.Stop as rounds
use Rattle.host_epochs.specs.Scan.{IsStale}
use Rattle.host_epochs.specs.Stops as ends
use Rattle.host_epochs.specs.Terms as epochs
use Rattle.host_epochs.specs.Told as told
use Rattle.host_epochs.proofs.WorkLaws.{later_clock}
use Rattle.host_table.specs.declared.told.Service.{Service}
use Rattle.host_table.specs.declared.told.Stop.{Stop}
use Rattle.host_table.specs.Services.{end_at, end_of, service_of, services_of, stop_of}
use Rattle.host_table.specs.Terms.{Terms, IsClockOf, phase_of, phase_epoch}
use Rattle.host_table.specs.Told.{IsSame, IsServed, Leads, Continues, TakesUp, IsListOf, IsHad, IsStop, joined_from}

-- ---- what needs no terms

pub continues_back : (clock : Reading) (entries : List Entry) (later : Reading) → Continues clock (services_of entries) later → told.Continues clock entries later
continues_back clock [] later same = inl same
continues_back clock (entry ∷ entries) later goes = (inl goes.0, continues_back entry.later entries later goes.1)

pub had_phase : (x : Content) (entries : List Entry) (had : Content) → told.IsHad x entries had → IsHad x (services_of entries) had
had_phase x [] had is = is
had_phase x (entry ∷ entries) had is = ⊎_elim (λ h. inl h) (λ h. inr (had_phase entry.after entries had h)) is

pub all_services : (P : Entry → Type 0) (Q : Service → Type 0) (entries : List Entry) → ((entry : Entry) → P entry → Q (service_of entry)) → AllByRecursion P entries
    → AllByRecursion Q (services_of entries)
all_services P Q [] f all = tt
all_services P Q (entry ∷ entries) f all = (f entry all.0, all_services P Q entries f all.1)

pub joined_phase : (number count : ℕ) (lists : ℕ → List Entry) → services_of (told.joined_from number count lists) ≡ joined_from number count (λ k. services_of (lists k))
joined_phase number zero lists = refl
joined_phase number (suc count) lists = map-append service_of (lists number) (told.joined_from (suc number) count lists)
    ∙ ap (λ es. services_of (lists number) ++ es) (joined_phase (suc number) count lists)

-- ---- entries

module _ (t : epochs.Terms) (one : t.more ≡ 0) where
  pub clock_phase : (clock : Reading) → epochs.IsClockOf t clock → IsClockOf (phase_of t) clock
  clock_phase clock is = record { first = is.first; end = is.end; epoch = let from = is.from in let to = is.to in omega (arith, from, to, one) }

  pub clock_back : (clock : Reading) → IsClockOf (phase_of t) clock → epochs.IsClockOf t clock
  clock_back clock is = record { first = is.first; end = is.end; from = let e = is.epoch in omega (arith, e); to = let e = is.epoch in omega (arith, e) }

  -- no element is of an epoch before the clock's, and none before that of the making
  no_stale : (content : shown.Content) (clock : ℕ) → clock ≡ epochs.first_epoch t → epochs.Waits (λ epoch. epochs.first_epoch t ≤ epoch) content → IsStale clock content → ⊥
  no_stale (shown.cold shard) clock same waits stale = omega (arith, same, waits, stale)
  no_stale (shown.hot record') clock same waits stale = omega (arith, same, waits, stale)
  no_stale shown.vacant clock same waits stale = stale

  not_before : (clock : Reading) (content : shown.Content) → epochs.Waits (λ epoch. (epochs.first_epoch t ≤ epoch) × (epoch ≤ clock.at.epoch) × (clock.at.epoch ≤ suc epoch)) content
      → epochs.Waits (λ epoch. epochs.first_epoch t ≤ epoch) content
  not_before clock (shown.cold shard) is = is.0
  not_before clock (shown.hot record') is = is.0
  not_before clock shown.vacant is = tt

  -- each entry is a service
  pub done_served : (entry : Entry) → told.IsDone t entry → IsServed (phase_of t) (service_of entry)
  done_served entry done =
      let clock : IsClockOf (phase_of t) entry.clock = clock_phase entry.clock done.asked.clock in
      go clock entry.request refl done.asked.work
    where
      go : IsClockOf (phase_of t) entry.clock → (request : Option Request) → entry.request ≡ request → told.IsWork t entry request → IsServed (phase_of t) (service_of entry)
      go clock (Some request) is work =
          subst (λ (r : Option Request). IsServed (phase_of t) (service_of (record entry { request = r }))) (sym is) record {
            by = done.asked.by;
            at = work.at;
            value = work.value;
            clock = clock;
            plan = work.plan;
            within = done.asked.within;
          }
      go clock None is work = absurd (no_stale (shown_content entry.before) entry.clock.at.epoch clock.epoch (not_before entry.clock (shown_content entry.before) done.near) work.stale)

  pub leads_phase : (place : ℕ) (x : Content) (entries : List Entry) (y : Content) → told.Leads t place x entries y → Leads (phase_of t) place x (services_of entries) y
  leads_phase place x [] y leads = leads
  leads_phase place x (entry ∷ entries) y leads = (leads.0, leads.1, done_served entry leads.2, leads_phase place entry.after entries y leads.3)

  -- ---- clocks

  goes_same : (clock later : Reading) → epochs.IsClockOf t clock → epochs.IsClockOf t later → told.GoesOn clock later → later ≡ clock
  goes_same clock later is is' goes = ⊎_elim (λ (same : later ≡ clock). same)
      (λ (turned : told.IsTurned clock later). absurd (let from = is.from in let to = is'.to in let epoch = turned.epoch in omega (arith, from, to, epoch, one))) goes

  later_is : (entry : Entry) → told.IsAsked t entry → epochs.IsClockOf t entry.later
  later_is entry asked = later_clock t entry asked

  continues_phase : (clock : Reading) (entries : List Entry) (later : Reading) → epochs.IsClockOf t clock → epochs.IsClockOf t later → AllByRecursion (told.IsDone t) entries
      → told.Continues clock entries later → Continues clock (services_of entries) later
  continues_phase clock [] later is is' done goes = goes_same clock later is is' goes
  continues_phase clock (entry ∷ entries) later is is' done goes =
      (goes_same clock entry.clock is done.0.asked.clock goes.0, continues_phase entry.later entries later (later_is entry done.0.asked) is' done.1 goes.1)

  pub takes_phase : (entries : List Entry) (clock : Reading) → epochs.IsClockOf t clock → AllByRecursion (told.IsDone t) entries → told.TakesUp t entries clock → TakesUp (services_of entries) clock
  takes_phase [] clock is done goes = tt
  takes_phase (entry ∷ entries) clock is done goes = continues_phase entry.later entries clock (later_is entry done.0.asked) is done.1 goes

  pub takes_back : (entries : List Entry) (clock : Reading) → IsClockOf (phase_of t) clock → TakesUp (services_of entries) clock → told.TakesUp t entries clock
  takes_back [] clock is goes = λ later. absurd (let epoch = is.epoch in omega (arith, epoch, later))
  takes_back (entry ∷ entries) clock is goes = continues_back entry.later entries clock goes

  -- ---- lists and stops

  pub list_phase : (worker : ℕ) (entries : List Entry) (entered : ℕ) → told.IsListOf t worker entries entered → IsListOf (phase_of t) worker (services_of entries)
  list_phase worker entries entered list = record {
    own = all_services (λ entry. entry.worker ≡ worker) (λ service. service.worker ≡ worker) entries (λ entry is. is) list.own;
    served = all_services (told.IsDone t) (IsServed (phase_of t)) entries (λ entry is. done_served entry is) list.done;
    last = list.last;
    chained = takes_phase entries list.last list.behind.is list.done list.behind.chained;
  }

  pub stop_phase : (past : ℕ → List Entry) (entries : List Entry) (entered : ℕ) (from : Option rounds.Stop) (stop : Stop) → AllByRecursion (told.IsDone t) entries
      → ((ended : rounds.Stop) → from ≡ Some ended → ends.IsStop t past entries entered ended)
      → stop_of from ≡ Some stop → IsStop (phase_of t) (services_of (past stop.place)) (services_of entries) stop
  stop_phase past entries entered None stop done is same = absurd (none-some stop same)
  stop_phase past entries entered (Some ended) stop done is same = go ended.met refl (is ended refl) same
    where
      at_request : (met : Meeting) (request : Option Request) → met.request ≡ request → ended.met ≡ Some met → ends.IsStop t past entries entered ended
          → end_at ended.clock met request ≡ Some stop → IsStop (phase_of t) (services_of (past stop.place)) (services_of entries) stop
      at_request met None asks meets is' same' = absurd (none-some stop same')
      at_request met (Some request) asks meets is' same' =
          let at : ends.EndsAt t (past met.place) ended.clock met = subst (ends.EndsSo t past ended.clock) meets is'.ends in
          let asked : ends.IsFor t met.place (Some request) = subst (ends.IsFor t met.place) asks at.asked in
          subst (λ (s : Stop). IsStop (phase_of t) (services_of (past s.place)) (services_of entries) s)
          (same_Some (record { place = met.place; clock = ended.clock; content = met.content; request = request }) stop same')
          record {
            at = asked.0;
            value = asked.1;
            clock = clock_phase ended.clock is'.behind.is;
            behind = takes_phase entries ended.clock is'.behind.is done is'.behind.chained;
            had = had_phase (epochs.first_at t met.place) (past met.place) met.content at.had;
            ends = at.ends;
          }

      go : (met : Option Meeting) → ended.met ≡ met → ends.IsStop t past entries entered ended
          → end_of ended.clock met ≡ Some stop → IsStop (phase_of t) (services_of (past stop.place)) (services_of entries) stop
      go None meets is' same' = absurd (none-some stop same')
      go (Some met) meets is' same' = at_request met met.request refl meets is' same'
