-- Commands one after another, all of them accepted: what they did is told in order, and one equation says it.
use Rattle.std.specs.Prelude.{◌≡◌, ℕ, suc, Bool, true, false, List, [], ◌∷◌, None, Result, Ok}
use Rattle.std.specs.List.{flat_map}
use Rattle.base_words.specs.Steps.{and_then}
use Rattle.lamport_clocks.specs.declared.stamp.Stamp.{Stamp}
use Rattle.record_text.specs.declared.element.Element.{Element}
use Rattle.record_text.specs.declared.value.Value.{Value}
use Rattle.record_text.specs.declared.refusal.Refusal.{Refusal}
use Rattle.log_codec.specs.declared.command.Command.{Command}
use Rattle.verifier_cache.specs.declared.entry.Entry.{Entry}
use Rattle.verifier_commands.specs.declared.state.State.{State}
use Rattle.verifier_commands.specs.Change.{Change, did_add_m, did_evict_m, did_add_b, did_evict_b, did_evict_bm, did_get, did_put, did_next_epoch}
use Rattle.verifier_commands.specs.Transition.{Rules, transition}
use Rattle.soundness.specs.History.{Event}
use Rattle.soundness.specs.StateHistory.{events_from, refusal_from}
use Rattle.soundness.specs.PathHistory.{path_machinery_under}
use Rattle.soundness.specs.Certified.{added_by, evicted_by}

-- what accepted commands did, each with the clock after it
abbrev pub Told : Type 0
Told = List (Stamp × Change)

-- What these commands did and the state behind them, or the first refusal.
unfoldable pub run : Rules → State → List Command → Result (Told × State) Refusal
run rules state [] = Ok ([], state)
run rules state (command ∷ commands) =
    and_then {X = Told × State} (transition rules state command)
    (λ done. and_then {X = Told × State} (run rules done.1 commands) (λ rest. Ok ((done.1.clock.at, done.0) ∷ rest.0, rest.1)))

-- the elements that came with what was done
abbrev pub added_told : Told → List Element
added_told told = flat_map (λ one. added_by one.1) told

-- the elements that went with it
abbrev pub evicted_told : Told → List Element
evicted_told told = flat_map (λ one. evicted_by one.1) told

-- a data value that was read or written
pub record Access : Type 0 where
  pub put : Bool
  pub path : List Bool
  pub value : Value

abbrev pub access_of : Bool → Entry → Access
access_of put entry = record { put = put; path = entry.path; value = entry.value }

-- the access that a change is, if it is one
abbrev pub accesses_by : Change → List Access
accesses_by (did_add_m parent after child) = []
accesses_by (did_evict_m parent after child) = []
accesses_by (did_add_b child element) = []
accesses_by (did_evict_b child element) = []
accesses_by (did_evict_bm parent after child element) = []
accesses_by (did_get entry) = access_of false entry ∷ []
accesses_by (did_put before after) = access_of true after ∷ []
accesses_by (did_next_epoch sealed) = []

-- the accesses among what was done
abbrev pub accesses_told : Told → List Access
accesses_told told = flat_map (λ one. accesses_by one.1) told

-- what was done, as the events of a verifier from an index on
abbrev pub as_events : ℕ → ℕ → Told → List Event
as_events verifier index [] = []
as_events verifier index (one ∷ told) =
    record { verifier = verifier; index = index; at = one.0; change = one.1 } ∷ as_events verifier (suc index) told

-- a verifier's history of these commands is what was told, and no refusal ends it
pub record IsHistory (rules : Rules) (state : State) (commands : List Command) (told : Told) : Type 0 where
  pub events : (number index : ℕ) → events_from (path_machinery_under rules) number index state commands ≡ as_events number index told
  pub accepted : refusal_from (path_machinery_under rules) state commands ≡ None
