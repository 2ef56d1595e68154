-- What is told of commands, as events.
use Rattle.std.proofs.Common.{◌≡◌, ℕ, suc, Bool, true, false, List, [], ◌∷◌, ◌++◌, cond, Option, Some, None, Result, Ok, if◌then◌else◌, refl, sym, ◌∙◌, ap, subst}
use Rattle.std.specs.Option.{option_or}
use Rattle.std.specs.List.{AllByRecursion, flat_map}
use Rattle.tree_keys.specs.Path.{same_path}
use Rattle.tree_keys.proofs.PathLaws.{same_path-self}
use Rattle.lamport_clocks.specs.declared.stamp.Stamp.{Stamp}
use Rattle.record_text.specs.declared.element.Element.{Element}
use Rattle.record_text.specs.declared.value.Value.{Value}
use Rattle.record_text.specs.Texts.{value_text}
use Rattle.record_text.proofs.SameTestLaws.{same_bytes-self}
use Rattle.log_codec.specs.declared.command.Command.{Command}
use Rattle.verifier_cache.specs.declared.entry.Entry.{Entry}
use Rattle.verifier_commands.specs.declared.state.State.{State}
use Rattle.verifier_commands.specs.Change.{Change, did_add_m, did_evict_m, did_add_b, did_evict_b, did_evict_bm, did_get, did_put, did_next_epoch}
use Rattle.verifier_commands.specs.Changes.{above}
use Rattle.verifier_commands.specs.Transition.{Rules, Step}
use Rattle.soundness.specs.History.{Event}
use Rattle.soundness.specs.PathHistory.{path_machinery_under}
use Rattle.soundness.specs.Certified.{added_by, evicted_by, sealed_by, operations_in}
use Rattle.soundness.specs.Timed.{added_among, evicted_among}
use Rattle.soundness.specs.Clash.{LastEvicted, is_known, differing, clash_at, first_clash, with_last_evicted}
use Rattle.soundness.specs.World.{changes_in, last_evicted_behind}
use Rattle.host_core.specs.Accepted.{state_behind, state_from}
use Rattle.host_core.specs.Clear.{IsKept, touches, touching}
use Rattle.host_laws.specs.Running.{Told, run, added_told, evicted_told, accesses_told, as_events}
use Rattle.host_laws.specs.Carried.{carries, carried}
use Rattle.host_laws.proofs.RunLaws.{run-none, run-begins}
use Rattle.move_laws.specs.Kept.{AreCarried}

-- ---- the state that is left

same_Ok : {A E : Type 0} (x y : A) → ◌≡◌ {A = Result A E} (Ok x) (Ok y) → x ≡ y
same_Ok x y is = cc

pub run-state : (rules : Rules) (state last : State) (commands : List Command) (told : Told) → run rules state commands ≡ Ok (told, last)
    → state_from (path_machinery_under rules) state commands ≡ last
unfolding state_from
run-state rules state last [] told is = ap (λ (p : Told × State). p.1) (same_Ok _ (told, last) (sym (run-none rules state) ∙ is))
run-state rules state last (command ∷ commands) told is =
    let begins = run-begins rules state command commands told last is in
    ap (λ (r : Step). state_behind state r (λ after. state_from (path_machinery_under rules) after commands)) begins.step
    ∙ run-state rules begins.next last commands begins.rest begins.further

-- ---- elements, operations, epochs

pub added-events : (number index : ℕ) (told : Told) → added_among (as_events number index told) ≡ added_told told
added-events number index [] = refl
added-events number index (one ∷ told) = ap (λ (rest : List Element). added_by one.1 ++ rest) (added-events number (suc index) told)

pub evicted-events : (number index : ℕ) (told : Told) → evicted_among (as_events number index told) ≡ evicted_told told
evicted-events number index [] = refl
evicted-events number index (one ∷ told) = ap (λ (rest : List Element). evicted_by one.1 ++ rest) (evicted-events number (suc index) told)

pub sealed-events : (number index : ℕ) (told : Told)
    → flat_map (λ (event : Event). sealed_by event.change) (as_events number index told) ≡ flat_map (λ (one : Stamp × Change). sealed_by one.1) told
sealed-events number index [] = refl
sealed-events number index (one ∷ told) = ap (λ (rest : List ℕ). sealed_by one.1 ++ rest) (sealed-events number (suc index) told)

-- without an access there is no operation
pub operations-events : (number index : ℕ) (told : Told) → accesses_told told ≡ [] → operations_in (as_events number index told) ≡ []
operations-events number index [] is = refl
operations-events number index ((at, did_add_m parent after child) ∷ told) is = operations-events number (suc index) told is
operations-events number index ((at, did_evict_m parent after child) ∷ told) is = operations-events number (suc index) told is
operations-events number index ((at, did_add_b child element) ∷ told) is = operations-events number (suc index) told is
operations-events number index ((at, did_evict_b child element) ∷ told) is = operations-events number (suc index) told is
operations-events number index ((at, did_evict_bm parent after child element) ∷ told) is = operations-events number (suc index) told is
operations-events number index ((at, did_get entry) ∷ told) is = cc
operations-events number index ((at, did_put before after) ∷ told) is = cc
operations-events number index ((at, did_next_epoch sealed) ∷ told) is = operations-events number (suc index) told is

-- ---- the events that touch a path

touches_carries : (path : List Bool) (change : Change) → touches path change ≡ carries path change
touches_carries path (did_add_m parent after child) = refl
touches_carries path (did_evict_m parent after child) = refl
touches_carries path (did_add_b child element) = refl
touches_carries path (did_evict_b child element) = refl
touches_carries path (did_evict_bm parent after child element) = refl
touches_carries path (did_get entry) = refl
touches_carries path (did_put before after) = refl
touches_carries path (did_next_epoch sealed) = refl

pub touching-changes : (path : List Bool) (number index : ℕ) (told : Told) → changes_in (touching path (as_events number index told)) ≡ carried path told
touching-changes path number index [] = refl
touching-changes path number index (one ∷ told) =
    go (touching-changes path number (suc index) told) (carries path one.1) (touches path one.1) (touches_carries path one.1)
  where
    event : Event
    event = record { verifier = number; index = index; at = one.0; change = one.1 }

    go : changes_in (touching path (as_events number (suc index) told)) ≡ carried path told → (b t : Bool) → t ≡ b
        → changes_in (cond t (event ∷ touching path (as_events number (suc index) told)) (touching path (as_events number (suc index) told)))
        ≡ (if b then one.1 ∷ [] else []) ++ carried path told
    go rest true t is =
        ap (λ (test : Bool). changes_in (cond test (event ∷ touching path (as_events number (suc index) told)) (touching path (as_events number (suc index) told)))) is
        ∙ ap (λ (changes : List Change). one.1 ∷ changes) rest
    go rest false t is =
        ap (λ (test : Bool). changes_in (cond test (event ∷ touching path (as_events number (suc index) told)) (touching path (as_events number (suc index) told)))) is
        ∙ rest

pub touching-all : (P : Stamp → Type 0) (path : List Bool) (number index : ℕ) (told : Told)
    → AllByRecursion (λ (one : Stamp × Change). carries path one.1 ≡ true → P one.0) told
    → AllByRecursion (λ (event : Event). P event.at) (touching path (as_events number index told))
touching-all P path number index [] all = tt
touching-all P path number index (one ∷ told) all =
    go (touching-all P path number (suc index) told all.1) (touches path one.1) (λ is. all.0 (sym (touches_carries path one.1) ∙ is))
  where
    event : Event
    event = record { verifier = number; index = index; at = one.0; change = one.1 }

    go : AllByRecursion (λ (other : Event). P other.at) (touching path (as_events number (suc index) told)) → (t : Bool) → (t ≡ true → P one.0)
        → AllByRecursion (λ (other : Event). P other.at)
        (cond t (event ∷ touching path (as_events number (suc index) told)) (touching path (as_events number (suc index) told)))
    go rest true here = (here refl, rest)
    go rest false here = rest

-- where no record of the path is carried, no event touches it
pub untouched : (path : List Bool) (number index : ℕ) (told : Told) → carried path told ≡ [] → touching path (as_events number index told) ≡ []
untouched path number index told none' = no_changes (touching path (as_events number index told)) (touching-changes path number index told ∙ none')
  where
    no_changes : (events : List Event) → changes_in events ≡ [] → events ≡ []
    no_changes [] is = refl
    no_changes (event ∷ events) is = cc

-- ---- records that are carried as they are kept

same_text : (value : Value) → differing (Some value) value ≡ None
same_text value =
    ap (λ (b : Bool). if b then None else Some (value_text value, value_text value)) (same_bytes-self (value_text value))

-- a record that comes in with the value that it was last evicted with doesn't clash
no_clash : (last : LastEvicted) (path : List Bool) (before : Option Value) (known : Bool) (child : Entry) → child.path ≡ path
    → IsKept last path before → (known ≡ true → before ≡ Some child.value) → clash_at last known child ≡ None
no_clash last path before false child is kept brought = refl
no_clash last path before true child is kept brought =
    let there : last path ≡ Some child.value = subst (IsKept last path) (brought refl) kept in
    ap (λ (value : Option Value). differing value child.value) (ap last is ∙ there) ∙ same_text child.value

-- Records that are carried as they are kept don't clash, and leave what is kept.
pub record IsClean (last : LastEvicted) (path : List Bool) (after : Option Value) (changes : List Change) : Type 0 where
  pub clear : first_clash last changes ≡ None
  pub keeps : IsKept (last_evicted_behind last changes) path after

pub carried_clean : (path : List Bool) (before after : Option Value) (changes : List Change) (last : LastEvicted)
    → AreCarried path before after changes → IsKept last path before → IsClean last path after changes
carried_clean path before after [] last are kept = record { clear = refl; keeps = go after are }
  where
    go : (now : Option Value) → ((value : Value) → now ≡ Some value → before ≡ Some value) → IsKept last path now
    go None is = tt
    go (Some value) is = subst (IsKept last path) (is value refl) kept
carried_clean path before after (did_add_m parent middle child ∷ changes) last are kept =
    let rest = carried_clean path before after changes last are.1.1 kept in
    record {
      clear = ap (λ (one : Option (List ℕ × List ℕ)). option_or one (first_clash last changes))
          (no_clash last path before (is_known (above parent child.path) child.path) child are.0 kept
          (subst (λ (k : List Bool). is_known (above parent k) k ≡ true → before ≡ Some child.value) (sym are.0) are.1.0))
          ∙ rest.clear;
      keeps = rest.keeps;
    }
carried_clean path before after (did_evict_m middle later gone ∷ changes) last are kept =
    let now : LastEvicted = with_last_evicted last gone.path gone.value in
    let here : now path ≡ Some gone.value =
    ap (λ (k : List Bool). if same_path k path then Some gone.value else last path) are.0
    ∙ ap (λ (b : Bool). if b then Some gone.value else last path) (same_path-self path) in
    let rest = carried_clean path (Some gone.value) after changes now are.1 here in
    record { clear = rest.clear; keeps = rest.keeps }
carried_clean path before after (did_add_b child element ∷ changes) last are kept = absurd are
carried_clean path before after (did_evict_b child element ∷ changes) last are kept = absurd are
carried_clean path before after (did_evict_bm parent later child element ∷ changes) last are kept = absurd are
carried_clean path before after (did_get entry ∷ changes) last are kept = absurd are
carried_clean path before after (did_put old new ∷ changes) last are kept = absurd are
carried_clean path before after (did_next_epoch sealed ∷ changes) last are kept = absurd are
