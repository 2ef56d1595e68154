-- A log of the first version has the history of its commands that name paths, and one of a later version that of its commands
-- that name slots.
use Rattle.std.proofs.Common.{◌≡◌, ℕ, suc, Bool, true, false, List, [], ◌∷◌, map, Option, Result, Ok, Err, refl, ◌∙◌, ap}
use Rattle.lamport_clocks.specs.declared.header.Header.{Header}
use Rattle.lamport_clocks.specs.Header.{names_paths}
use Rattle.lamport_clocks.specs.declared.stamp.Stamp.{Stamp}
use Rattle.lamport_clocks.specs.Clock.{opening_reading}
use Rattle.record_text.specs.declared.refusal.Refusal.{Refusal}
use Rattle.log_codec.specs.declared.command.Command.{Command}
use Rattle.log_codec.specs.declared.slot_command.SlotCommand.{SlotCommand}
use Rattle.log_codec.specs.declared.log_command.LogCommand.TheVariants.{ByPath, BySlot}
use Rattle.merkle_records.specs.Scheme.{Scheme}
use Rattle.verifier_commands.specs.Change.{Change}
use Rattle.verifier_commands.specs.State.{opening}
use Rattle.verifier_commands.specs.Machine.{opening_machine}
use Rattle.verifier_commands.specs.Transition.{Step, transition}
use Rattle.verifier_commands.specs.SlotTransition.{SlotStep, slot_transition, slot_opening}
use Rattle.verifier_commands.specs.VerifierState.{VerifierState, path_state, slot_state, path_step, slot_step, opening_cache, first_state}
use Rattle.soundness.specs.History.{Event, log_events, log_refusal, histories_from}
use Rattle.soundness.specs.StateHistory.{Machinery, events_behind, events_from, refusal_behind, refusal_from, rules_under, machinery_of}
use Rattle.soundness.specs.PathHistory.{path_machinery_of, path_log_events, path_log_refusal, path_histories_from}
use Rattle.soundness.specs.SlotHistory.{slot_machinery_of, slot_log_events, slot_log_refusal}
use Rattle.soundness.proofs.StateHistoryLemmas.{events-from_state, refusal-from_state}

-- ---- one machinery by another

-- a step with another state
abbrev lifted : {S V : Type 0} → (S → V) → Result (Change × S) Refusal → Result (Change × V) Refusal
lifted into (Ok done) = Ok (done.0, into done.1)
lifted into (Err refusal) = Err refusal

-- the one steps as the other does, and has its clock
record StepsAlike {S C V D : Type 0} (own : Machinery S C) (any : Machinery V D) (into : S → V) (kind : C → D) : Type 0 where
  step : (state : S) (command : C) → any.step (into state) (kind command) ≡ lifted into (own.step state command)
  clock : (state : S) → any.clock (into state) ≡ own.clock state

module _ {S C V D : Type 0} (own : Machinery S C) (any : Machinery V D) (into : S → V) (kind : C → D) where
  events_alike_behind : (number index : ℕ) (step : Result (Change × S) Refusal) (more : V → List Event) (others : S → List Event) → StepsAlike own any into kind
      → ((after : S) → more (into after) ≡ others after)
      → events_behind any number index (lifted into step) more ≡ events_behind own number index step others
  events_alike_behind number index (Ok done) more others alike further =
      ap (λ (at : Stamp). record { verifier = number; index = index; at = at; change = done.0 } ∷ more (into done.1)) (alike.clock done.1)
      ∙ ap (λ (events : List Event). record { verifier = number; index = index; at = own.clock done.1; change = done.0 } ∷ events) (further done.1)
  events_alike_behind number index (Err refusal) more others alike further = refl

  -- they have one list of events
  events_alike : (number index : ℕ) (state : S) (commands : List C) → StepsAlike own any into kind
      → events_from any number index (into state) (map kind commands) ≡ events_from own number index state commands
  unfolding events_from
  events_alike number index state [] alike = refl
  events_alike number index state (command ∷ commands) alike =
      ap (λ (step : Result (Change × V) Refusal).
      events_behind any number index step (λ after. events_from any number (suc index) after (map kind commands))) (alike.step state command)
      ∙ events_alike_behind number index (own.step state command) (λ after. events_from any number (suc index) after (map kind commands))
      (λ after. events_from own number (suc index) after commands) alike
      (λ after. events_alike number (suc index) after commands alike)

  refusal_alike_behind : (step : Result (Change × S) Refusal) (more : V → Option Refusal) (others : S → Option Refusal)
      → ((after : S) → more (into after) ≡ others after) → refusal_behind (lifted into step) more ≡ refusal_behind step others
  refusal_alike_behind (Ok done) more others further = further done.1
  refusal_alike_behind (Err refusal) more others further = refl

  -- and one refusal
  refusal_alike : (state : S) (commands : List C) → StepsAlike own any into kind
      → refusal_from any (into state) (map kind commands) ≡ refusal_from own state commands
  unfolding refusal_from
  refusal_alike state [] alike = refl
  refusal_alike state (command ∷ commands) alike =
      ap (λ (step : Result (Change × V) Refusal). refusal_behind step (λ after. refusal_from any after (map kind commands))) (alike.step state command)
      ∙ refusal_alike_behind (own.step state command) (λ after. refusal_from any after (map kind commands))
      (λ after. refusal_from own after commands) (λ after. refusal_alike after commands alike)

-- ---- the two kinds

path_step-lifted : (step : Step) → path_step step ≡ lifted path_state step
path_step-lifted (Ok done) = refl
path_step-lifted (Err refusal) = refl

slot_step-lifted : (step : SlotStep) → slot_step step ≡ lifted slot_state step
slot_step-lifted (Ok done) = refl
slot_step-lifted (Err refusal) = refl

paths_alike : (scheme : Scheme) (header : Header) (number : ℕ)
    → StepsAlike (path_machinery_of scheme header number) (machinery_of scheme header number) path_state ByPath
paths_alike scheme header number = record {
  step = λ state command. path_step-lifted (transition (rules_under scheme header number) state command);
  clock = λ state. refl;
}

slots_alike : (scheme : Scheme) (header : Header) (number : ℕ)
    → StepsAlike (slot_machinery_of scheme header number) (machinery_of scheme header number) slot_state BySlot
slots_alike scheme header number = record {
  step = λ state command. slot_step-lifted (slot_transition (rules_under scheme header number) state command);
  clock = λ state. refl;
}

-- what a verifier keeps before its first command, by the kind of its commands
first_as : (number : ℕ) (header : Header) (b : Bool) → names_paths header ≡ b
    → first_state number header ≡ record { cache = opening_cache b number header; clock = opening_reading header.first header.end }
first_as number header b is =
    ap (λ (by_path : Bool). record { cache = opening_cache by_path number header; clock = opening_reading header.first header.end }) is

-- ---- a log

-- A log of the first version has the events of its commands by path,
pub log_events-by_path : (scheme : Scheme) (header : Header) (number : ℕ) (commands : List Command) → names_paths header ≡ true
    → log_events scheme header number (map ByPath commands) ≡ path_log_events scheme header number commands
log_events-by_path scheme header number commands version =
    events-from_state scheme (opening_machine number header) (map ByPath commands)
    ∙ (ap (λ (state : VerifierState). events_from (machinery_of scheme header number) number 0 state (map ByPath commands)) (first_as number header true version)
    ∙ events_alike (path_machinery_of scheme header number) (machinery_of scheme header number) path_state ByPath number 0 (opening number header) commands
    (paths_alike scheme header number))

-- and their refusal.
pub log_refusal-by_path : (scheme : Scheme) (header : Header) (number : ℕ) (commands : List Command) → names_paths header ≡ true
    → log_refusal scheme header number (map ByPath commands) ≡ path_log_refusal scheme header number commands
log_refusal-by_path scheme header number commands version =
    refusal-from_state scheme (opening_machine number header) (map ByPath commands)
    ∙ (ap (λ (state : VerifierState). refusal_from (machinery_of scheme header number) state (map ByPath commands)) (first_as number header true version)
    ∙ refusal_alike (path_machinery_of scheme header number) (machinery_of scheme header number) path_state ByPath (opening number header) commands
    (paths_alike scheme header number))

-- One of a later version has those of its commands by slot.
pub log_events-by_slot : (scheme : Scheme) (header : Header) (number : ℕ) (commands : List SlotCommand) → names_paths header ≡ false
    → log_events scheme header number (map BySlot commands) ≡ slot_log_events scheme header number commands
log_events-by_slot scheme header number commands version =
    events-from_state scheme (opening_machine number header) (map BySlot commands)
    ∙ (ap (λ (state : VerifierState). events_from (machinery_of scheme header number) number 0 state (map BySlot commands)) (first_as number header false version)
    ∙ events_alike (slot_machinery_of scheme header number) (machinery_of scheme header number) slot_state BySlot number 0 (slot_opening number header) commands
    (slots_alike scheme header number))

pub log_refusal-by_slot : (scheme : Scheme) (header : Header) (number : ℕ) (commands : List SlotCommand) → names_paths header ≡ false
    → log_refusal scheme header number (map BySlot commands) ≡ slot_log_refusal scheme header number commands
log_refusal-by_slot scheme header number commands version =
    refusal-from_state scheme (opening_machine number header) (map BySlot commands)
    ∙ (ap (λ (state : VerifierState). refusal_from (machinery_of scheme header number) state (map BySlot commands)) (first_as number header false version)
    ∙ refusal_alike (slot_machinery_of scheme header number) (machinery_of scheme header number) slot_state BySlot (slot_opening number header) commands
    (slots_alike scheme header number))

-- ---- all logs

-- logs of the first version have the histories of their commands by path
pub histories-by_path : (scheme : Scheme) (header : Header) (number : ℕ) (logs : List (List Command)) → names_paths header ≡ true
    → histories_from scheme header number (map (λ log. map ByPath log) logs) ≡ path_histories_from scheme header number logs
histories-by_path scheme header number [] version = refl
histories-by_path scheme header number (log ∷ logs) version =
    ap (λ (events : List Event). events ∷ histories_from scheme header (suc number) (map (λ log. map ByPath log) logs))
    (log_events-by_path scheme header number log version)
    ∙ ap (λ (histories : List (List Event)). path_log_events scheme header number log ∷ histories)
    (histories-by_path scheme header (suc number) logs version)
