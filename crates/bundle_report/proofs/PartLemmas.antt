-- The parts that a verifier hands in are those of the epochs that its events seal, each with the sums of the elements
-- of its epoch among all events.
use Rattle.std.proofs.Common.{◌≡◌, ℕ, ◌+◌, ◌<◌, List, [], ◌∷◌, ◌++◌, map, Option, Some, None, Ok, Err, refl, sym, ◌∙◌, ap, subst, append-nil, append_assoc, arith}
use Rattle.base_words.specs.Traced.{traced}
use Rattle.merkle_records.specs.Scheme.{Scheme}
use Rattle.std.specs.List.{flat_map}
use Rattle.std.proofs.lemmas.List.{map-append}
use Rattle.std.proofs.lemmas.Grind.{flat_map-append}
use Rattle.lamport_clocks.specs.declared.header.Header.{Header}
use Rattle.lamport_clocks.specs.declared.stamp.Stamp.{Stamp}
use Rattle.lamport_clocks.specs.Reading.{Reading}
use Rattle.lamport_clocks.specs.Clock.{advanced}
use Rattle.lamport_clocks.proofs.ClockLaws.{advanced-ok, sealed_epoch}
use Rattle.record_text.specs.declared.element.Element.{Element}
use Rattle.log_codec.specs.declared.log_command.LogCommand.{LogCommand}
use Rattle.multiset_sum.specs.Tally.{Tally}
use Rattle.multiset_sum.specs.declared.part.Part.{Part}
use Rattle.verifier_commands.specs.VerifierState.{VerifierState}
use Rattle.verifier_commands.specs.Change.{Change, did_add_m, did_evict_m, did_add_b, did_evict_b, did_evict_bm, did_get, did_put, did_next_epoch}
use Rattle.verifier_commands.specs.Outcome.{outcome_of}
use Rattle.verifier_commands.specs.VerifierState.{VerifierStep, perform}
use Rattle.verifier_commands.specs.Machine.{Machine, opening_machine, effect_of, rules_for}
use Rattle.verifier_commands.specs.Trace.{changed, trace, trace_behind, events_from, events_behind}
use Rattle.verifier_run.specs.Kept.{parts_of, part_in}
use Rattle.soundness.specs.History.{Event, log_events}
use Rattle.soundness.specs.Certified.{added_by, evicted_by, added_in, evicted_in, sum_over, epochs_in, sealed_by, sealed_count, epochs_from}
use Rattle.verifier_commands.specs.Ticks.{Ticks}
use Rattle.verifier_commands.proofs.TickLaws.{ticks_perform}
use Rattle.soundness.specs.IsHistory.{IsTicking}
use Rattle.soundness.proofs.HistoryLaws.{events-tick}
use Rattle.bundle_report.proofs.CountedLemmas.{Keeps, keeps-opening, keeps-after}
use Rattle.bundle_report.proofs.SealedLemmas.{sealed_in, log-sealed, closed-added, closed-evicted, of_epoch-front}

-- the sums of an epoch among events, as a verifier's part
abbrev pub part_of : Scheme → ℕ → List Event → ℕ → Part
part_of scheme number events epoch = record {
  verifier = number;
  epoch = epoch;
  added = sum_over scheme (added_in epoch events);
  evicted = sum_over scheme (evicted_in epoch events);
}

-- ---- a step

-- the event of a machine's next command, where the clock then stands so and this was done
abbrev next_event : Machine → Stamp → Change → Event
next_event machine at change = record { verifier = machine.number; index = machine.accepted; at = at; change = change }

-- the elements among events
abbrev added_among : List Event → List Element
added_among events = flat_map (λ event. added_by event.change) events

abbrev evicted_among : List Event → List Element
evicted_among events = flat_map (λ event. evicted_by event.change) events

-- A machine's sums are those of the elements among the events so far.
abbrev pub HasCounted : Scheme → Machine → List Event → Type 0
HasCounted scheme machine before =
    Keeps scheme machine.state.clock.at.epoch machine.sums (added_among before) (evicted_among before)

-- one event more
among-push : (elements : Event → List Element) (before : List Event) (event : Event)
    → flat_map elements before ++ elements event ≡ flat_map elements (before ++ event ∷ [])
among-push elements before event =
    ap (λ (es : List Element). flat_map elements before ++ es) (sym (append-nil (elements event)))
    ∙ sym (flat_map-append elements before (event ∷ []))

-- so it is after a step
counted-step : (scheme : Scheme) (machine : Machine) (before : List Event) (done : Change × VerifierState)
    → Ticks machine.state.clock done.1.clock done.0 → HasCounted scheme machine before
    → HasCounted scheme (changed scheme machine done) (before ++ next_event machine done.1.clock.at done.0 ∷ [])
counted-step scheme machine before done ticks counted =
    let after = changed scheme machine done in
    let event = next_event machine done.1.clock.at done.0 in
    let at = after.state.clock.at.epoch in
    subst (λ (es : List Element). Keeps scheme at after.sums es (evicted_among (before ++ event ∷ [])))
    (among-push (λ e. added_by e.change) before event)
    (subst (λ (es : List Element). Keeps scheme at after.sums (added_among before ++ added_by done.0) es)
    (among-push (λ e. evicted_by e.change) before event)
    (keeps-after scheme machine (added_among before) (evicted_among before)
    machine.state.clock done.1.clock counted done.0 ticks))

-- a part by its sums
abbrev part_with : ℕ → ℕ → Tally → Tally → Part
part_with number epoch added evicted = record { verifier = number; epoch = epoch; added = added; evicted = evicted }

same_part : (number epoch : ℕ) (added others evicted more : Tally) → added ≡ others → evicted ≡ more
    → part_with number epoch added evicted ≡ part_with number epoch others more
same_part number epoch added others evicted more a b =
    ap (λ (sum : Tally). part_with number epoch sum evicted) a ∙ ap (part_with number epoch others) b

module _ (scheme : Scheme) (machine : Machine) (before : List Event) (counted : HasCounted scheme machine before)
    (new : Reading) (later : List Event) (index : ℕ) (ticking : IsTicking machine.number index new later) where
  -- what is handed in where an epoch is sealed
  part_sealed : (sealed : Option ℕ) → advanced machine.state.clock ≡ Ok (sealed, new)
      → part_in (effect_of machine new.at (outcome_of (did_next_epoch sealed)))
      ≡ map (part_of scheme machine.number (before ++ next_event machine new.at (did_next_epoch sealed) ∷ later))
      (epochs_in sealed)
  part_sealed None is = refl
  part_sealed (Some epoch) is =
      let turn = advanced-ok machine.state.clock new (Some epoch) is in
      let seals = (sealed_epoch machine.state.clock epoch).0 (sym turn.1) in
      let at = ap (λ (r : Reading). r.at.epoch) turn.2 in
      let closed : epoch + 1 < new.at.epoch = omega (arith, at, seals.1) in
      let event = next_event machine new.at (did_next_epoch (Some epoch)) in
      ap (λ (part : Part). part ∷ [])
      (same_part machine.number epoch _ _ _ _
      (counted.0.before_is epoch seals.1
      ∙ ap (sum_over scheme) (sym (of_epoch-front (λ e. added_by e.change) epoch before (event ∷ later)
      (closed-added machine.number index new later epoch ticking closed))))
      (counted.1.before_is epoch seals.1
      ∙ ap (sum_over scheme) (sym (of_epoch-front (λ e. evicted_by e.change) epoch before (event ∷ later)
      (closed-evicted machine.number index new later epoch ticking closed)))))

  -- what is handed in with a change
  part_told : (change : Change) → Ticks machine.state.clock new change
      → part_in (effect_of machine new.at (outcome_of change))
      ≡ map (part_of scheme machine.number (before ++ next_event machine new.at change ∷ later)) (sealed_by change)
  part_told (did_add_m parent after child) is = refl
  part_told (did_evict_m parent after child) is = refl
  part_told (did_add_b child element) is = refl
  part_told (did_evict_b child element) is = refl
  part_told (did_evict_bm parent after child element) is = refl
  part_told (did_get entry) is = refl
  part_told (did_put old entry) is = refl
  part_told (did_next_epoch sealed) is = part_sealed sealed is

-- ---- a trace

-- the parts of the epochs that events seal, with the sums of the elements among them and the events before
abbrev pub parts_from : Scheme → ℕ → List Event → List Event → List Part
parts_from scheme number before events = map (part_of scheme number (before ++ events)) (sealed_in events)

parts_behind : (scheme : Scheme) (machine : Machine) (command : LogCommand) (commands : List LogCommand)
    (before : List Event) (step : VerifierStep)
    → perform (rules_for scheme machine) machine.state command ≡ step → HasCounted scheme machine before
    → ((after : Machine) (so_far : List Event) → HasCounted scheme after so_far
    → parts_of (trace scheme after commands).done
    ≡ parts_from scheme after.number so_far (events_from scheme after commands))
    → parts_of (trace_behind scheme machine commands step).done
    ≡ parts_from scheme machine.number before (events_behind scheme machine commands step)
parts_behind scheme machine command commands before (Ok done) is counted further =
    let after = changed scheme machine done in
    let event = next_event machine done.1.clock.at done.0 in
    let later = events_from scheme after commands in
    let ticks = ticks_perform (rules_for scheme machine) machine.state command done is in
    let ticking = events-tick scheme after commands in
    let all = before ++ event ∷ later in
    let part : ℕ → Part = part_of scheme machine.number all in
    ap (λ (parts : List Part). parts ++ parts_of (trace scheme after commands).done)
    (part_told scheme machine before counted done.1.clock later (machine.accepted + 1) ticking done.0 ticks)
    ∙ ap (λ (parts : List Part). map part (sealed_by done.0) ++ parts)
    (further after (before ++ event ∷ []) (counted-step scheme machine before done ticks counted)
    ∙ ap (λ (events : List Event). map (part_of scheme machine.number events) (sealed_in later))
    (append_assoc before (event ∷ []) later))
    ∙ sym (map-append part (sealed_by done.0) (sealed_in later))
parts_behind scheme machine command commands before (Err refusal) is counted further = refl

-- The parts of a trace, from any machine whose sums are those of the events before.
pub trace-parts : (scheme : Scheme) (machine : Machine) (commands : List LogCommand) (before : List Event)
    → HasCounted scheme machine before
    → parts_of (trace scheme machine commands).done
    ≡ parts_from scheme machine.number before (events_from scheme machine commands)
unfolding traced
trace-parts scheme machine [] before counted = refl
trace-parts scheme machine (command ∷ commands) before counted =
    parts_behind scheme machine command commands before
    (perform (rules_for scheme machine) machine.state command) refl counted
    (λ after so_far fits. trace-parts scheme after commands so_far fits)

-- The parts of a whole log are those of the epochs that its events seal.
pub log-parts_sealed : (scheme : Scheme) (header : Header) (number : ℕ) (commands : List LogCommand)
    → parts_of (trace scheme (opening_machine number header) commands).done
    ≡ map (part_of scheme number (log_events scheme header number commands))
    (flat_map (λ event. sealed_by event.change) (log_events scheme header number commands))
log-parts_sealed scheme header number commands =
    trace-parts scheme (opening_machine number header) commands [] (keeps-opening scheme header.first)

-- They are the epochs from the header's first on.
pub log-parts : (scheme : Scheme) (header : Header) (number : ℕ) (commands : List LogCommand)
    → parts_of (trace scheme (opening_machine number header) commands).done
    ≡ map (part_of scheme number (log_events scheme header number commands))
    (epochs_from header.first (sealed_count (log_events scheme header number commands)))
log-parts scheme header number commands =
    log-parts_sealed scheme header number commands
    ∙ ap (map (part_of scheme number (log_events scheme header number commands)))
    (log-sealed scheme header number commands)
