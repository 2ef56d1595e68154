-- What a log comes to takes nothing of a scheme but its digests and lanes: in which format its commands are spelled is all one.
use Rattle.std.proofs.Common.{◌≡◌, ℕ, zero, suc, Bool, List, [], ◌∷◌, map, Option, Result, Ok, Err, if◌then◌else◌, refl, ◌∙◌, ap}
use Rattle.lamport_clocks.specs.declared.stamp.Stamp.{Stamp}
use Rattle.record_text.specs.declared.element.Element.{Element}
use Rattle.record_text.specs.declared.refusal.Refusal.{Refusal}
use Rattle.log_codec.specs.declared.command.Command.{Command}
use Rattle.log_codec.specs.declared.command.Command.TheVariants as paths
use Rattle.log_codec.specs.declared.slot_command.SlotCommand.{SlotCommand}
use Rattle.log_codec.specs.declared.slot_command.SlotCommand.TheVariants as slots
use Rattle.merkle_records.specs.Merkle.{Digest}
use Rattle.merkle_records.specs.Scheme.{Scheme, lanes_of}
use Rattle.record_text.specs.Format.{LogFormat}
use Rattle.multiset_sum.specs.Tally.{Tally}
use Rattle.multiset_sum.specs.Sum.{sum_of}
use Rattle.verifier_commands.specs.declared.state.State.{State}
use Rattle.verifier_commands.specs.declared.slot_state.SlotState.{SlotState}
use Rattle.verifier_commands.specs.Change.{Change}
use Rattle.verifier_commands.specs.Transition.{Rules, transition}
use Rattle.verifier_commands.specs.SlotTransition.{slot_transition}
use Rattle.soundness.specs.History.{Event}
use Rattle.soundness.specs.Certified.{added_in, evicted_in, sum_over, same_sum, is_balanced, balanced_from}
use Rattle.soundness.specs.StateHistory.{Machinery, events_behind, events_from, refusal_behind, refusal_from}
use Rattle.soundness.specs.PathHistory.{path_machinery_under}
use Rattle.soundness.specs.SlotHistory.{slot_machinery_under}

-- ---- machineries of the same steps

module _ {S C : Type 0} (own other : Machinery S C) (clock : (state : S) → own.clock state ≡ other.clock state)
    (step : (state : S) (command : C) → own.step state command ≡ other.step state command) where
  events_same_behind : (number index : ℕ) (done : Result (Change × S) Refusal) (more others : S → List Event)
      → ((after : S) → more after ≡ others after) → events_behind own number index done more ≡ events_behind other number index done others
  events_same_behind number index (Ok done) more others further =
      ap (λ (at : Stamp). record { verifier = number; index = index; at = at; change = done.0 } ∷ more done.1) (clock done.1)
      ∙ ap (λ (events : List Event). record { verifier = number; index = index; at = other.clock done.1; change = done.0 } ∷ events) (further done.1)
  events_same_behind number index (Err refusal) more others further = refl

  -- they have one list of events
  pub events_same : (number index : ℕ) (state : S) (commands : List C) → events_from own number index state commands ≡ events_from other number index state commands
  unfolding events_from
  events_same number index state [] = refl
  events_same number index state (command ∷ commands) =
      ap (λ (done : Result (Change × S) Refusal). events_behind own number index done (λ after. events_from own number (suc index) after commands)) (step state command)
      ∙ events_same_behind number index (other.step state command) (λ after. events_from own number (suc index) after commands)
      (λ after. events_from other number (suc index) after commands) (λ after. events_same number (suc index) after commands)

  refusal_same_behind : (done : Result (Change × S) Refusal) (more others : S → Option Refusal)
      → ((after : S) → more after ≡ others after) → refusal_behind done more ≡ refusal_behind done others
  refusal_same_behind (Ok done) more others further = further done.1
  refusal_same_behind (Err refusal) more others further = refl

  -- and one refusal
  pub refusal_same : (state : S) (commands : List C) → refusal_from own state commands ≡ refusal_from other state commands
  unfolding refusal_from
  refusal_same state [] = refl
  refusal_same state (command ∷ commands) =
      ap (λ (done : Result (Change × S) Refusal). refusal_behind done (λ after. refusal_from own after commands)) (step state command)
      ∙ refusal_same_behind (other.step state command) (λ after. refusal_from own after commands)
      (λ after. refusal_from other after commands) (λ after. refusal_same after commands)

-- ---- one format for another

module _ (digest : Digest) (lanes : List ℕ → List ℕ) (one other : LogFormat) where
  -- the scheme with the one format, and with the other
  abbrev first_scheme : Scheme
  first_scheme = record { digest = digest; lanes = lanes; format = one }

  abbrev second_scheme : Scheme
  second_scheme = record { digest = digest; lanes = lanes; format = other }

  module _ (number verifiers : ℕ) where
    abbrev first_rules : Rules
    first_rules = record { scheme = first_scheme; number = number; verifiers = verifiers }

    abbrev second_rules : Rules
    second_rules = record { scheme = second_scheme; number = number; verifiers = verifiers }

    step_same : (state : State) (command : Command) → transition first_rules state command ≡ transition second_rules state command
    step_same state (paths.AddM path value parent) = refl
    step_same state (paths.EvictM path parent) = refl
    step_same state (paths.AddB path value stamp verifier) = refl
    step_same state (paths.EvictB path stamp) = refl
    step_same state (paths.EvictBM path parent stamp) = refl
    step_same state (paths.Get path value) = refl
    step_same state (paths.Put path value) = refl
    step_same state paths.NextEpoch = refl
    step_same state (paths.Absent path parent) = refl

    slot_step_same : (state : SlotState) (command : SlotCommand) → slot_transition first_rules state command ≡ slot_transition second_rules state command
    slot_step_same state (slots.AddM slot path value parent) = refl
    slot_step_same state (slots.EvictM slot parent) = refl
    slot_step_same state (slots.AddB slot path value stamp verifier) = refl
    slot_step_same state (slots.EvictB slot stamp) = refl
    slot_step_same state (slots.EvictBM slot parent stamp) = refl
    slot_step_same state (slots.Get slot value) = refl
    slot_step_same state (slots.Put slot value) = refl
    slot_step_same state slots.NextEpoch = refl
    slot_step_same state (slots.Absent path parent) = refl

    -- the events and the refusal of commands that name paths
    pub path_events_same : (state : State) (commands : List Command)
        → events_from (path_machinery_under first_rules) number 0 state commands ≡ events_from (path_machinery_under second_rules) number 0 state commands
    path_events_same state commands = events_same (path_machinery_under first_rules) (path_machinery_under second_rules) (λ after. refl) step_same number 0 state commands

    pub path_refusal_same : (state : State) (commands : List Command)
        → refusal_from (path_machinery_under first_rules) state commands ≡ refusal_from (path_machinery_under second_rules) state commands
    path_refusal_same state commands = refusal_same (path_machinery_under first_rules) (path_machinery_under second_rules) (λ after. refl) step_same state commands

    -- and of those that name slots
    pub slot_events_same : (state : SlotState) (commands : List SlotCommand)
        → events_from (slot_machinery_under first_rules) number 0 state commands ≡ events_from (slot_machinery_under second_rules) number 0 state commands
    slot_events_same state commands = events_same (slot_machinery_under first_rules) (slot_machinery_under second_rules) (λ after. refl) slot_step_same number 0 state commands

    pub slot_refusal_same : (state : SlotState) (commands : List SlotCommand)
        → refusal_from (slot_machinery_under first_rules) state commands ≡ refusal_from (slot_machinery_under second_rules) state commands
    slot_refusal_same state commands = refusal_same (slot_machinery_under first_rules) (slot_machinery_under second_rules) (λ after. refl) slot_step_same state commands

  -- ---- sums

  lanes_same : (elements : List Element) → map (lanes_of first_scheme) elements ≡ map (lanes_of second_scheme) elements
  lanes_same [] = refl
  lanes_same (element ∷ elements) = ap (λ (more : List (List ℕ)). lanes_of first_scheme element ∷ more) (lanes_same elements)

  sum_same : (elements : List Element) → sum_over first_scheme elements ≡ sum_over second_scheme elements
  sum_same elements = ap sum_of (lanes_same elements)

  -- as many epochs are balanced
  pub balanced_same : (events : List Event) (epoch count : ℕ) → balanced_from first_scheme events epoch count ≡ balanced_from second_scheme events epoch count
  balanced_same events epoch zero = refl
  balanced_same events epoch (suc count) =
      ap (λ (even : Bool). if even then suc (balanced_from first_scheme events (suc epoch) count) else 0) even_same
      ∙ ap (λ (more : ℕ). if is_balanced second_scheme events epoch then suc more else 0) (balanced_same events (suc epoch) count)
    where
      even_same : is_balanced first_scheme events epoch ≡ is_balanced second_scheme events epoch
      even_same =
          ap (λ (sum : Tally). same_sum sum (sum_over first_scheme (evicted_in epoch events))) (sum_same (added_in epoch events))
          ∙ ap (λ (sum : Tally). same_sum (sum_over second_scheme (added_in epoch events)) sum) (sum_same (evicted_in epoch events))
