-- The clock of the verifier that evicted an element has come to its stamp: so it is of all that waits in a world.
use Rattle.std.proofs.Common.{◌≡◌, ℕ, suc, ◌+◌, ◌<◌, Bool, true, false, List, [], ◌∷◌, ◌++◌, length, get_or, if◌then◌else◌, Result, Ok, Err, inr, refl, sym, ◌∙◌, ap, subst, arith}
use Rattle.std.specs.List.{AllByRecursion}
use Rattle.std.proofs.Math.ListN.{get_or-map}
use Rattle.std.proofs.lemmas.List.{length-map}
use Rattle.std.proofs.lemmas.List.Concat.{flat_map-append}
use Rattle.lamport_clocks.specs.declared.header.Header.{Header}
use Rattle.lamport_clocks.specs.declared.stamp.Stamp.{Stamp}
use Rattle.lamport_clocks.specs.Reading.{Reading}
use Rattle.lamport_clocks.proofs.ClockLaws.{sent-at}
use Rattle.record_text.specs.declared.element.Element.{Element}
use Rattle.record_text.specs.declared.refusal.Refusal.{Refusal}
use Rattle.log_codec.specs.declared.command.Command.{Command}
use Rattle.merkle_records.specs.Scheme.{Scheme}
use Rattle.stamp_order.proofs.InOrderLaws.{every-append, every-weaker}
use Rattle.verifier_commands.specs.declared.state.State.{State}
use Rattle.verifier_commands.specs.State.{opening}
use Rattle.verifier_commands.specs.Change.{Change, did_add_m, did_evict_m, did_add_b, did_evict_b, did_evict_bm, did_get, did_put, did_next_epoch}
use Rattle.verifier_commands.specs.Ticks.{Ticks}
use Rattle.verifier_commands.specs.Transition.{transition}
use Rattle.verifier_commands.proofs.TickLaws.{IsUpTo, up_to-trans, ticks_step, ticks-up_to}
use Rattle.soundness.specs.Certified.{all_events, evicted_by}
use Rattle.soundness.specs.History.{Event}
use Rattle.soundness.specs.PathHistory.{path_machinery_of, path_log_events, path_histories_from}
use Rattle.soundness.specs.StateHistory.{Machinery, events_behind, events_from, rules_under}
use Rattle.soundness.specs.Timed.{added_among, evicted_among}
use Rattle.soundness.specs.Permutation.{same_element, count_of, is_permutation}
use Rattle.soundness.proofs.PathHistoryLaws.{path_log_timely}
use Rattle.soundness.proofs.PermutationLaws.{same_element-true, same_element-self, count_permuted}
use Rattle.host_core.specs.Accepted.{state_behind, state_from}
use Rattle.host_core.specs.Core.{histories, pending_in, AreAccepted, IsEven}
use Rattle.host_core.specs.Host.{Host, scheme}
use Rattle.host_core.specs.World.{Worker, World, fresh, worker_at, logs_of}
use Rattle.table_order.proofs.ListLemmas.{all-back}

-- what holds of each in two ways
pub both_ways : {X : Type 0} (P Q S : X → Type 0) → ((x : X) → P x → Q x → S x) → (xs : List X) → AllByRecursion P xs → AllByRecursion Q xs → AllByRecursion S xs
both_ways P Q S both [] ps qs = tt
both_ways P Q S both (x ∷ xs) ps qs = (both x ps.0 qs.0, both_ways P Q S both xs ps.1 qs.1)

-- ---- the same elements in another order

module _ (P : Element → Type 0) where
  -- what holds of each of a list holds of what is counted there
  of_counted : (x : Element) (xs : List Element) → AllByRecursion P xs → 0 < count_of x xs → P x
  of_counted x [] all some = absurd (omega (arith, some))
  of_counted x (y ∷ ys) all some = go (same_element x y) refl some (λ more. of_counted x ys all.1 more)
    where
      go : (b : Bool) → same_element x y ≡ b → 0 < (if b then suc (count_of x ys) else count_of x ys) → (0 < count_of x ys → P x) → P x
      go true same more rest = subst P (sym (same_element-true x y same)) all.0
      go false other more rest = rest more

  -- of each, where it holds of what is counted
  each_counted : (xs : List Element) → ((x : Element) → 0 < count_of x xs → P x) → AllByRecursion P xs
  each_counted [] holds = tt
  each_counted (y ∷ ys) holds = (holds y own, each_counted ys (λ x some. holds x (later x (same_element x y) some)))
    where
      own : 0 < count_of y (y ∷ ys)
      own = subst (λ (b : Bool). 0 < (if b then suc (count_of y ys) else count_of y ys)) (sym (same_element-self y)) (omega arith)

      later : (x : Element) (b : Bool) → 0 < count_of x ys → 0 < (if b then suc (count_of x ys) else count_of x ys)
      later x true some = omega arith
      later x false some = some

  -- What holds of each of a list holds of each of a permutation.
  all-permuted : (xs ys : List Element) → is_permutation xs ys ≡ true → AllByRecursion P xs → AllByRecursion P ys
  all-permuted xs ys same all =
      each_counted ys (λ x some. of_counted x xs all (subst (λ (n : ℕ). 0 < n) (sym (count_permuted xs ys same x)) some))

-- ---- one log

-- the element is stamped up to this
abbrev IsStampedUpTo : Stamp → Element → Type 0
IsStampedUpTo last element = IsUpTo element.stamp last

-- what goes is stamped with the clock
stamped_at : (old new : Reading) (element : Element) → new.at ≡ element.stamp → IsStampedUpTo new.at element
stamped_at old new element is = inr (ap (λ (s : Stamp). s.epoch) (sym is), omega (arith, ap (λ (s : Stamp). s.counter) is))

evicted_at : (old new : Reading) (change : Change) → Ticks old new change → AllByRecursion (IsStampedUpTo new.at) (evicted_by change)
evicted_at old new (did_add_m parent after child) is = tt
evicted_at old new (did_evict_m parent after child) is = tt
evicted_at old new (did_add_b child element) is = tt
evicted_at old new (did_evict_b child element) is = (stamped_at old new element (sent-at old new element.stamp is), tt)
evicted_at old new (did_evict_bm parent after child element) is = (stamped_at old new element (sent-at old new element.stamp is), tt)
evicted_at old new (did_get service) is = tt
evicted_at old new (did_put before after) is = tt
evicted_at old new (did_next_epoch sealed) is = tt

module _ (scheme' : Scheme) (header : Header) (number : ℕ) where
  abbrev machinery : Machinery State Command
  machinery = path_machinery_of scheme' header number

  -- the clock does not fall up to this, and what is evicted is stamped up to it
  abbrev ComesTo : Stamp → State → List Event → Type 0
  ComesTo last state events = IsUpTo state.clock.at last × AllByRecursion (IsStampedUpTo last) (evicted_among events)

  comes_behind : (index : ℕ) (state : State) (command : Command) (step : Result (Change × State) Refusal) (rest : State → State) (more : State → List Event)
      → transition (rules_under scheme' header number) state command ≡ step
      → ((next : State) → ComesTo (rest next).clock.at next (more next))
      → ComesTo (state_behind state step rest).clock.at state (events_behind machinery number index step more)
  comes_behind index state command (Ok done) rest more is further =
      let ticks = ticks_step (rules_under scheme' header number) state command done is in
      let comes = further done.1 in
      let last = (rest done.1).clock.at in (
        up_to-trans state.clock.at done.1.clock.at last (ticks-up_to state.clock done.1.clock done.0 ticks) comes.0,
        every-append (IsStampedUpTo last) (evicted_by done.0) (evicted_among (more done.1))
            (every-weaker (IsStampedUpTo done.1.clock.at) (IsStampedUpTo last) (λ element up. up_to-trans element.stamp done.1.clock.at last up comes.0)
            (evicted_by done.0) (evicted_at state.clock done.1.clock done.0 ticks)) comes.1,
      )
  comes_behind index state command (Err refusal) rest more is further = (inr (refl, omega arith), tt)

  comes_from : (index : ℕ) (state : State) (commands : List Command)
      → ComesTo (state_from machinery state commands).clock.at state (events_from machinery number index state commands)
  unfolding state_from events_from
  comes_from index state [] = (inr (refl, omega arith), tt)
  comes_from index state (command ∷ commands) =
      comes_behind index state command (machinery.step state command) (λ next. state_from machinery next commands)
      (λ next. events_from machinery number (suc index) next commands) refl (λ next. comes_from (suc index) next commands)

  -- What the log evicts is its verifier's, and is stamped up to the clock that it comes to.
  log_comes : (log : List Command)
      → AllByRecursion (λ element. (element.verifier ≡ number) × IsStampedUpTo (state_from machinery (opening number header) log).clock.at element)
      (evicted_among (path_log_events scheme' header number log))
  log_comes log =
      both_ways (λ (element : Element). element.verifier ≡ number) (IsStampedUpTo (state_from machinery (opening number header) log).clock.at) _ (λ element own up. (own, up))
      (evicted_among (path_log_events scheme' header number log)) (path_log_timely scheme' header number log).own (comes_from 0 (opening number header) log).1

-- ---- all logs

-- an element of a worker below a number, stamped up to where that worker's clock stands
abbrev pub HasComeUp : ℕ → (ℕ → Stamp) → Element → Type 0
HasComeUp limit bound element = (element.verifier < limit) × IsUpTo element.stamp (bound element.verifier)

module _ (scheme' : Scheme) (header : Header) (limit : ℕ) (bound : ℕ → Stamp) where
  logs_come : (number : ℕ) (logs : List (List Command))
      → ((i n : ℕ) → i < length logs → n ≡ number + i
      → (n < limit) × ((state_from (path_machinery_of scheme' header n) (opening n header) (get_or logs i [])).clock.at ≡ bound n))
      → AllByRecursion (HasComeUp limit bound) (evicted_among (all_events (path_histories_from scheme' header number logs)))
  logs_come number [] stands = tt
  logs_come number (log ∷ logs) stands =
      let own : List Event = path_log_events scheme' header number log in
      let others : List Event = all_events (path_histories_from scheme' header (suc number) logs) in
      let here = stands 0 number (omega arith) (omega arith) in
      subst (AllByRecursion (HasComeUp limit bound)) (sym (flat_map-append (λ (event : Event). evicted_by event.change) own others))
      (every-append (HasComeUp limit bound) (evicted_among own) (evicted_among others)
      (every-weaker _ (HasComeUp limit bound) (λ element is. (
        subst (λ (n : ℕ). n < limit) (sym is.0) here.0,
        subst (λ (n : ℕ). IsUpTo element.stamp (bound n)) (sym is.0) (subst (IsUpTo element.stamp) here.1 is.1),
      )) (evicted_among own) (log_comes scheme' header number log))
      (logs_come (suc number) logs (λ i n there is. stands (suc i) n (omega (arith, there)) (omega (arith, is)))))

-- ---- a world

-- where the clock of a worker stands
abbrev pub stand_of : {C R : Type 0} → Host C R → World C → ℕ → Stamp
stand_of host world i = (worker_at host world i).clock.at

-- All that waits in a world is of one of its workers, whose clock has come to its stamp.
pub pending_come : {C R : Type 0} (host : Host C R) (world : World C) → AreAccepted host world → IsEven host world
    → AllByRecursion (HasComeUp (length world.workers) (stand_of host world)) (pending_in host world)
pending_come host world accepted even =
    let events = all_events (histories host world) in
    all-back (HasComeUp (length world.workers) (stand_of host world)) (added_among events) (pending_in host world)
    (all-permuted (HasComeUp (length world.workers) (stand_of host world)) (evicted_among events) (added_among events ++ pending_in host world) even
    (logs_come (scheme host) host.header (length world.workers) (stand_of host world) 0 (logs_of world)
    (λ i n there is. stands i n (omega (arith, there, length-map world.workers (λ (w : Worker). w.log))) (omega (arith, is)))))
  where
    stands : (i n : ℕ) → i < length world.workers → n ≡ i
        → (n < length world.workers) × ((state_from (path_machinery_of (scheme host) host.header n) (opening n host.header) (get_or (logs_of world) i [])).clock.at ≡ stand_of host world n)
    stands i n there is = subst (λ (m : ℕ). (m < length world.workers)
        × ((state_from (path_machinery_of (scheme host) host.header m) (opening m host.header) (get_or (logs_of world) i [])).clock.at ≡ stand_of host world m)) (sym is) (
          there,
          ap (λ (log : List Command). (state_from (path_machinery_of (scheme host) host.header i) (opening i host.header) log).clock.at)
              (get_or-map (λ (w : Worker). w.log) world.workers i (fresh host.header))
              ∙ ap (λ (state : State). state.clock.at) (accepted i there).1,
        )
