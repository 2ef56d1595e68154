-- What is told of a run, as the events of a verifier.
use Rattle.std.proofs.Common.{◌≡◌, ℕ, suc, ◌≤◌, Bool, true, false, List, [], ◌∷◌, ◌++◌, length, map, None, Ok, if◌then◌else◌, refl, sym, ◌∙◌, ap, subst, arith}
use Rattle.std.specs.List.{AllByRecursion, flat_map}
use Rattle.std.proofs.lemmas.List.{map-append}
use Rattle.tree_keys.specs.Path.{key_of}
use Rattle.lamport_clocks.specs.declared.stamp.Stamp.{Stamp}
use Rattle.lamport_clocks.specs.Reading.{Reading}
use Rattle.record_text.specs.declared.element.Element.{Element}
use Rattle.record_text.specs.declared.operation.Operation.{Operation}
use Rattle.record_text.specs.declared.request.Request.{Request}
use Rattle.log_codec.specs.declared.command.Command.{Command}
use Rattle.verifier_commands.specs.declared.state.State.{State}
use Rattle.verifier_commands.specs.Change.{Change, did_add_m, did_evict_m, did_add_b, did_evict_b, did_evict_bm, did_get, did_put, did_next_epoch}
use Rattle.verifier_commands.specs.Outcome.{blob_of}
use Rattle.verifier_commands.specs.Transition.{Rules, Step}
use Rattle.verifier_commands.specs.Ticks.{Ticks}
use Rattle.verifier_commands.proofs.TickLaws.{ticks_step, ticks-epoch}
use Rattle.lamport_clocks.proofs.ClockLaws.{advanced-ok}
use Rattle.soundness.specs.History.{Event}
use Rattle.soundness.specs.PathHistory.{path_machinery_under}
use Rattle.soundness.specs.Certified.{added_by, evicted_by, operations_by, operations_in, sealed_by, sealed_count}
use Rattle.soundness.specs.Timed.{added_among, evicted_among}
use Rattle.soundness.specs.World.{changes_in}
use Rattle.host_core.specs.Accepted.{state_behind, state_from}
use Rattle.host_core.specs.Deeds.{request_of, answers_in}
use Rattle.host_core.specs.Clear.{touches, touching}
use Rattle.host_laws.specs.Running.{Told, Access, run, added_told, evicted_told, accesses_by, accesses_told, as_events}
use Rattle.host_laws.specs.Carried.{carries, carried}
use Rattle.host_laws.proofs.RunLaws.{run-begins, same_Ok}

-- ---- the state behind a run

pub run-state : (rules : Rules) (state last : State) (commands : List Command) (told : Told) → run rules state commands ≡ Ok (told, last)
    → state_from (path_machinery_under rules) state commands ≡ last
unfolding run state_from
run-state rules state last [] told is = ap (λ (p : Told × State). p.1) (same_Ok ([], state) (told, last) is)
run-state rules state last (command ∷ commands) told is =
    let begins = run-begins rules state command commands told last is in
    ap (λ (r : Step). state_behind state r (λ after. state_from (path_machinery_under rules) after commands)) begins.step
    ∙ run-state rules begins.next last commands begins.rest begins.further

-- ---- the clock of a run that stays in its epoch

-- what is told is of this epoch, and seals none
abbrev pub IsOfEpoch : ℕ → Told → Type 0
IsOfEpoch epoch told = AllByRecursion (λ (one : Stamp × Change). (one.0.epoch ≡ epoch) × (sealed_by one.1 ≡ [])) told

-- a change with which the epoch stays seals none
seals_none : (old new : Reading) (change : Change) → Ticks old new change → new.at.epoch ≡ old.at.epoch → sealed_by change ≡ []
seals_none old new (did_add_m parent after child) ticks stays = refl
seals_none old new (did_evict_m parent after child) ticks stays = refl
seals_none old new (did_add_b child element) ticks stays = refl
seals_none old new (did_evict_b child element) ticks stays = refl
seals_none old new (did_evict_bm parent after child element) ticks stays = refl
seals_none old new (did_get entry) ticks stays = refl
seals_none old new (did_put before after) ticks stays = refl
seals_none old new (did_next_epoch sealed) ticks stays =
    let turned = ap (λ (r : Reading). r.at.epoch) (advanced-ok old new sealed ticks).2 in
    absurd (omega (arith, turned, stays))

-- the epoch doesn't fall in a run
run-epoch : (rules : Rules) (state last : State) (commands : List Command) (told : Told) → run rules state commands ≡ Ok (told, last)
    → state.clock.at.epoch ≤ last.clock.at.epoch
unfolding run
run-epoch rules state last [] told is = omega (arith, ap (λ (p : Told × State). p.1.clock.at.epoch) (same_Ok ([], state) (told, last) is))
run-epoch rules state last (command ∷ commands) told is =
    let begins = run-begins rules state command commands told last is in
    let first = ticks-epoch state.clock begins.next.clock begins.change (ticks_step rules state command (begins.change, begins.next) begins.step) in
    let rest = run-epoch rules begins.next last commands begins.rest begins.further in
    omega arith

pub run-steady : (rules : Rules) (state last : State) (commands : List Command) (told : Told) → run rules state commands ≡ Ok (told, last)
    → last.clock.at.epoch ≡ state.clock.at.epoch → IsOfEpoch state.clock.at.epoch told
unfolding run
run-steady rules state last [] told is stays =
    subst (IsOfEpoch state.clock.at.epoch) (ap (λ (p : Told × State). p.0) (same_Ok ([], state) (told, last) is)) tt
run-steady rules state last (command ∷ commands) told is stays =
    let begins = run-begins rules state command commands told last is in
    let ticks = ticks_step rules state command (begins.change, begins.next) begins.step in
    let first = ticks-epoch state.clock begins.next.clock begins.change ticks in
    let rest = run-epoch rules begins.next last commands begins.rest begins.further in
    let same : begins.next.clock.at.epoch ≡ state.clock.at.epoch = omega (arith, first, rest, stays) in
    subst (IsOfEpoch state.clock.at.epoch) begins.all (
      (same, seals_none state.clock begins.next.clock begins.change ticks same),
      subst (λ (epoch : ℕ). IsOfEpoch epoch begins.rest) same
          (run-steady rules begins.next last commands begins.rest begins.further (stays ∙ sym same)),
    )

-- ---- the same as events

pub added-events : (number index : ℕ) (told : Told) → added_among (as_events number index told) ≡ added_told told
added-events number index [] = refl
added-events number index (one ∷ told) = ap (λ (xs : List Element). added_by one.1 ++ xs) (added-events number (suc index) told)

pub evicted-events : (number index : ℕ) (told : Told) → evicted_among (as_events number index told) ≡ evicted_told told
evicted-events number index [] = refl
evicted-events number index (one ∷ told) = ap (λ (xs : List Element). evicted_by one.1 ++ xs) (evicted-events number (suc index) told)

pub sealed-events : (epoch number index : ℕ) (told : Told) → IsOfEpoch epoch told → sealed_count (as_events number index told) ≡ 0
sealed-events epoch number index told steady = ap (λ (xs : List ℕ). length xs) (go index told steady)
  where
    go : (index : ℕ) (told : Told) → IsOfEpoch epoch told → flat_map (λ (event : Event). sealed_by event.change) (as_events number index told) ≡ []
    go index [] steady = refl
    go index (one ∷ told) steady =
        ap (λ (xs : List ℕ). xs ++ flat_map (λ (event : Event). sealed_by event.change) (as_events number (suc index) told)) steady.0.1
        ∙ go (suc index) told steady.1

-- what an access asks, and when
abbrev pub ask_of : ℕ → Access → ℕ × Request
ask_of epoch access = (epoch, record { put = access.put; key = key_of access.path; value = if access.put then blob_of access.value else None })

abbrev pub answer_of : Operation → ℕ × Request
answer_of operation = (operation.stamp.epoch, request_of operation)

one-answer : (epoch number index : ℕ) (at : Stamp) (change : Change) → at.epoch ≡ epoch
    → map answer_of (operations_by (record { verifier = number; index = index; at = at; change = change }) change) ≡ map (ask_of epoch) (accesses_by change)
one-answer epoch number index at (did_add_m parent after child) same = refl
one-answer epoch number index at (did_evict_m parent after child) same = refl
one-answer epoch number index at (did_add_b child element) same = refl
one-answer epoch number index at (did_evict_b child element) same = refl
one-answer epoch number index at (did_evict_bm parent after child element) same = refl
one-answer epoch number index at (did_get entry) same =
    ap (λ (e : ℕ). asks (e, record { put = false; key = key_of entry.path; value = None })) same
  where
    asks : ℕ × Request → List (ℕ × Request)
    asks ask = ask ∷ []
one-answer epoch number index at (did_put before after) same =
    ap (λ (e : ℕ). asks (e, record { put = true; key = key_of after.path; value = blob_of after.value })) same
  where
    asks : ℕ × Request → List (ℕ × Request)
    asks ask = ask ∷ []
one-answer epoch number index at (did_next_epoch sealed) same = refl

pub answers-events : (epoch number index : ℕ) (told : Told) → IsOfEpoch epoch told
    → answers_in (as_events number index told) ≡ map (ask_of epoch) (accesses_told told)
answers-events epoch number index [] steady = refl
answers-events epoch number index (one ∷ told) steady =
    let event : Event = record { verifier = number; index = index; at = one.0; change = one.1 } in
    map-append answer_of (operations_by event one.1) (operations_in (as_events number (suc index) told))
    ∙ (ap (λ (xs : List (ℕ × Request)). xs ++ answers_in (as_events number (suc index) told)) (one-answer epoch number index one.0 one.1 steady.0.0)
    ∙ (ap (λ (xs : List (ℕ × Request)). map (ask_of epoch) (accesses_by one.1) ++ xs) (answers-events epoch number (suc index) told steady.1)
    ∙ sym (map-append (ask_of epoch) (accesses_by one.1) (accesses_told told))))

-- ---- records that are carried

same_touches : (path : List Bool) (change : Change) → touches path change ≡ carries path change
same_touches path (did_add_m parent after child) = refl
same_touches path (did_evict_m parent after child) = refl
same_touches path (did_add_b child element) = refl
same_touches path (did_evict_b child element) = refl
same_touches path (did_evict_bm parent after child element) = refl
same_touches path (did_get entry) = refl
same_touches path (did_put before after) = refl
same_touches path (did_next_epoch sealed) = refl

pub touching-events : (path : List Bool) (number index : ℕ) (told : Told) → changes_in (touching path (as_events number index told)) ≡ carried path told
touching-events path number index [] = refl
touching-events path number index (one ∷ told) =
    ap (λ (b : Bool). changes_in (if b then event ∷ touching path (as_events number (suc index) told) else touching path (as_events number (suc index) told))) (same_touches path one.1)
    ∙ go (carries path one.1) (touching-events path number (suc index) told)
  where
    event : Event
    event = record { verifier = number; index = index; at = one.0; change = one.1 }

    go : (b : Bool) → changes_in (touching path (as_events number (suc index) told)) ≡ carried path told
        → changes_in (if b then event ∷ touching path (as_events number (suc index) told) else touching path (as_events number (suc index) told))
        ≡ (if b then one.1 ∷ [] else []) ++ carried path told
    go true rest = ap (λ (xs : List Change). one.1 ∷ xs) rest
    go false rest = rest

none_mapped : (events : List Event) → changes_in events ≡ [] → events ≡ []
none_mapped [] is = refl
none_mapped (event ∷ events) is = absurd (cc)

-- what isn't carried isn't touched
pub touching-none : (path : List Bool) (number index : ℕ) (told : Told) → carried path told ≡ [] → touching path (as_events number index told) ≡ []
touching-none path number index told none =
    none_mapped (touching path (as_events number index told)) (touching-events path number index told ∙ none)

-- what holds of all stamps holds of those at which a path is touched
pub touching-stamps : (P : Stamp → Type 0) (path : List Bool) (number index : ℕ) (told : Told) → AllByRecursion (λ (one : Stamp × Change). P one.0) told
    → AllByRecursion (λ (event : Event). P event.at) (touching path (as_events number index told))
touching-stamps P path number index [] all = tt
touching-stamps P path number index (one ∷ told) all = go (touches path one.1) (touching-stamps P path number (suc index) told all.1)
  where
    go : (b : Bool) → AllByRecursion (λ (event : Event). P event.at) (touching path (as_events number (suc index) told))
        → AllByRecursion (λ (event : Event). P event.at)
        (if b then record { verifier = number; index = index; at = one.0; change = one.1 } ∷ touching path (as_events number (suc index) told) else touching path (as_events number (suc index) told))
    go true rest = (all.0, rest)
    go false rest = rest
