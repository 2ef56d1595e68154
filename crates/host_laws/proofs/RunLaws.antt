-- Commands that are accepted one after another: one more, and one list behind another.
use Rattle.std.proofs.Common.{◌≡◌, ℕ, suc, List, [], ◌∷◌, ◌++◌, None, Result, Ok, Err, refl, sym, ◌∙◌, ap, subst}
use Rattle.std.specs.Result.{result_ok}
use Rattle.std.proofs.lemmas.Option.{same_Some}
use Rattle.base_words.specs.Steps.{and_then}
use Rattle.record_text.specs.declared.refusal.Refusal.{Refusal}
use Rattle.log_codec.specs.declared.command.Command.{Command}
use Rattle.verifier_commands.specs.declared.state.State.{State}
use Rattle.verifier_commands.specs.Change.{Change}
use Rattle.verifier_commands.specs.Transition.{Rules, Step, transition}
use Rattle.verifier_commands.proofs.InvertLaws.{and_then-ok}
use Rattle.soundness.specs.History.{Event}
use Rattle.soundness.specs.StateHistory.{events_behind, events_from, refusal_behind, refusal_from}
use Rattle.soundness.specs.PathHistory.{path_machinery_under}
use Rattle.host_laws.specs.Running.{Told, run, as_events, IsHistory}
use Rattle.host_laws.proofs.StepLemmas.{and_then-there}

-- what is Ok is told by it
pub same_Ok : {A E : Type 0} (x y : A) → ◌≡◌ {A = Result A E} (Ok x) (Ok y) → x ≡ y
same_Ok x y is = same_Some x y (ap result_ok is)

-- no command does nothing
pub run-none : (rules : Rules) (state : State) → run rules state [] ≡ Ok ([], state)
unfolding run
run-none rules state = refl

-- one command, and those behind it
pub run-step : (rules : Rules) (state : State) (command : Command) (commands : List Command) (change : Change) (next : State) (told : Told) (last : State)
    → transition rules state command ≡ Ok (change, next) → run rules next commands ≡ Ok (told, last)
    → run rules state (command ∷ commands) ≡ Ok ((next.clock.at, change) ∷ told, last)
unfolding run
run-step rules state command commands change next told last step rest =
    and_then-there (transition rules state command) _ _ (change, next) step
    (and_then-there (run rules next commands) _ _ (told, last) rest refl)

-- one command alone
pub run-one : (rules : Rules) (state : State) (command : Command) (change : Change) (next : State)
    → transition rules state command ≡ Ok (change, next) → run rules state (command ∷ []) ≡ Ok ((next.clock.at, change) ∷ [], next)
run-one rules state command change next step = run-step rules state command [] change next [] next step (run-none rules next)

-- what a run that is not empty did: its first command, and the run behind it
pub record Begins (rules : Rules) (state : State) (command : Command) (commands : List Command) (told : Told) (last : State) : Type 0 where
  pub change : Change
  pub next : State
  pub rest : Told
  pub step : transition rules state command ≡ Ok (change, next)
  pub further : run rules next commands ≡ Ok (rest, last)
  pub all : (next.clock.at, change) ∷ rest ≡ told

pub run-begins : (rules : Rules) (state : State) (command : Command) (commands : List Command) (told : Told) (last : State)
    → run rules state (command ∷ commands) ≡ Ok (told, last) → Begins rules state command commands told last
unfolding run
run-begins rules state command commands told last is =
    let first = and_then-ok (transition rules state command) _ (told, last) is in
    let behind = and_then-ok (run rules first.0.1 commands) _ (told, last) first.2 in
    let same = same_Ok _ (told, last) behind.2 in
    record {
      change = first.0.0;
      next = first.0.1;
      rest = behind.0.0;
      step = first.1;
      further = behind.1 ∙ ap (λ (s : State). Ok (behind.0.0, s)) (ap (λ (p : Told × State). p.1) same);
      all = ap (λ (p : Told × State). p.0) same;
    }

-- one list of commands behind another
pub run-append : (rules : Rules) (state : State) (first second : List Command) (told_first told_second : Told) (middle last : State)
    → run rules state first ≡ Ok (told_first, middle) → run rules middle second ≡ Ok (told_second, last)
    → run rules state (first ++ second) ≡ Ok (told_first ++ told_second, last)
unfolding run
run-append rules state [] second told_first told_second middle last is rest =
    let same = same_Ok _ (told_first, middle) is in
    let there : run rules state second ≡ Ok (told_second, last) =
    subst (λ (s : State). run rules s second ≡ Ok (told_second, last)) (sym (ap (λ (p : Told × State). p.1) same)) rest in
    there ∙ ap (λ (t : Told). Ok (t ++ told_second, last)) (ap (λ (p : Told × State). p.0) same)
run-append rules state (command ∷ first) second told_first told_second middle last is rest =
    let begins = run-begins rules state command first told_first middle is in
    run-step rules state command (first ++ second) begins.change begins.next (begins.rest ++ told_second) last begins.step
    (run-append rules begins.next first second begins.rest told_second middle last begins.further rest)
    ∙ ap (λ (t : Told). Ok (t ++ told_second, last)) begins.all

-- ---- a command that is refused

pub run-refused : (rules : Rules) (state : State) (command : Command) (commands : List Command) (refusal : Refusal)
    → transition rules state command ≡ Err refusal → run rules state (command ∷ commands) ≡ Err refusal
unfolding run
run-refused rules state command commands refusal is =
    ap (λ (r : Step). and_then {X = Told × State} r (λ done. and_then {X = Told × State} (run rules done.1 commands) (λ rest. Ok ((done.1.clock.at, done.0) ∷ rest.0, rest.1)))) is

-- behind one that is accepted
pub run-step_refused : (rules : Rules) (state : State) (command : Command) (commands : List Command) (change : Change) (next : State) (refusal : Refusal)
    → transition rules state command ≡ Ok (change, next) → run rules next commands ≡ Err refusal → run rules state (command ∷ commands) ≡ Err refusal
unfolding run
run-step_refused rules state command commands change next refusal step is =
    and_then-there (transition rules state command) _ _ (change, next) step
    (ap (λ (r : Result (Told × State) Refusal). and_then {X = Told × State} r (λ rest. Ok ((next.clock.at, change) ∷ rest.0, rest.1))) is)

-- and behind a list of them
pub run-append_refused : (rules : Rules) (state middle : State) (first second : List Command) (told : Told) (refusal : Refusal)
    → run rules state first ≡ Ok (told, middle) → run rules middle second ≡ Err refusal → run rules state (first ++ second) ≡ Err refusal
unfolding run
run-append_refused rules state middle [] second told refusal is refused =
    subst (λ (s : State). run rules s second ≡ Err refusal) (sym (ap (λ (p : Told × State). p.1) (same_Ok ([], state) (told, middle) is))) refused
run-append_refused rules state middle (command ∷ first) second told refusal is refused =
    let begins = run-begins rules state command first told middle is in
    run-step_refused rules state command (first ++ second) begins.change begins.next refusal begins.step
    (run-append_refused rules begins.next middle first second begins.rest refusal begins.further refused)

-- ---- what was told, and the history

run-events : (rules : Rules) (number index : ℕ) (state : State) (commands : List Command) (told : Told) (last : State)
    → run rules state commands ≡ Ok (told, last) → events_from (path_machinery_under rules) number index state commands ≡ as_events number index told
unfolding run events_from
run-events rules number index state [] told last is =
    ap (λ (t : Told). as_events number index t) (ap (λ (p : Told × State). p.0) (same_Ok _ (told, last) is))
run-events rules number index state (command ∷ commands) told last is =
    let begins = run-begins rules state command commands told last is in
    ap (λ (r : Step). events_behind (path_machinery_under rules) number index r (λ after. events_from (path_machinery_under rules) number (suc index) after commands)) begins.step
    ∙ (ap (λ (more : List Event). record { verifier = number; index = index; at = begins.next.clock.at; change = begins.change } ∷ more)
    (run-events rules number (suc index) begins.next commands begins.rest last begins.further)
    ∙ ap (λ (t : Told). as_events number index t) begins.all)

run-accepted : (rules : Rules) (state : State) (commands : List Command) (told : Told) (last : State)
    → run rules state commands ≡ Ok (told, last) → refusal_from (path_machinery_under rules) state commands ≡ None
unfolding run refusal_from
run-accepted rules state [] told last is = refl
run-accepted rules state (command ∷ commands) told last is =
    let begins = run-begins rules state command commands told last is in
    ap (λ (r : Step). refusal_behind r (λ after. refusal_from (path_machinery_under rules) after commands)) begins.step
    ∙ run-accepted rules begins.next commands begins.rest last begins.further

-- a run is the history of its commands
pub run-history : (rules : Rules) (state last : State) (commands : List Command) (told : Told)
    → run rules state commands ≡ Ok (told, last) → IsHistory rules state commands told
run-history rules state last commands told is = record {
  events = λ number index. run-events rules number index state commands told last is;
  accepted = run-accepted rules state commands told last is;
}
