-- What holds of all runs of logs, whatever epochs were taken out of them.
use Rattle.std.proofs.Common.{◌≡◌, ℕ, zero, suc, ◌≤◌, List, [], ◌∷◌, map, refl, ◌∙◌, arith}
use Rattle.std.specs.List.{AllByRecursion}
use Rattle.lamport_clocks.specs.declared.header.Header.{Header}
use Rattle.merkle_records.specs.Scheme.{Scheme}
use Rattle.record_text.specs.declared.operation.Operation.{Operation}
use Rattle.verifier_run.specs.Kept.{keeps_operations}
use Rattle.verifier_run.specs.Progress.{Progress, opening_progress, fed, weight}
use Rattle.verifier_run.proofs.RunLaws.{fed_goes_on}
use Rattle.bundle_report.specs.SoFar.{left_from, runs_from}
use Rattle.certified_epochs.specs.declared.fed_run.FedRun.{FedRun}

-- what holds of each run holds of each that is fed, and the other way round
pub all_runs : (P : Progress Operation → Type 0) (feds : List FedRun) → AllByRecursion P (map (λ fed. fed.run) feds) → AllByRecursion (λ fed. P fed.run) feds
all_runs P [] all = tt
all_runs P (fed ∷ feds) all = (all.0, all_runs P feds all.1)

pub all_feds : (P : Progress Operation → Type 0) (feds : List FedRun) → AllByRecursion (λ fed. P fed.run) feds → AllByRecursion P (map (λ fed. fed.run) feds)
all_feds P [] all = tt
all_feds P (fed ∷ feds) all = (all.0, all_feds P feds all.1)

-- taking epochs out of a run leaves its header and its weight
left_header : (first count : ℕ) (run : Progress Operation) → (left_from first count run).course.machine.header ≡ run.course.machine.header
left_header first zero run = refl
left_header first (suc count) run = refl

left_weight : (first count : ℕ) (run : Progress Operation) → weight (left_from first count run) ≡ weight run
left_weight first zero run = refl
left_weight first (suc count) run = refl

-- runs of logs have the header
pub headers_from : (scheme : Scheme) (header : Header) (count number : ℕ) (logs : List (List ℕ))
    → AllByRecursion (λ run. run.course.machine.header ≡ header) (runs_from scheme header count number logs)
headers_from scheme header count number [] = tt
headers_from scheme header count number (log ∷ logs) = (
  left_header header.first count (fed keeps_operations scheme (opening_progress number header) log) ∙ (fed_goes_on scheme (opening_progress number header) log).header,
  headers_from scheme header count (suc number) logs,
)

-- runs that more epochs are taken out of weigh what they did
pub weights_from : (scheme : Scheme) (header : Header) (count other number bound : ℕ) (logs : List (List ℕ))
    → AllByRecursion (λ run. weight run ≤ bound) (runs_from scheme header count number logs)
    → AllByRecursion (λ run. weight run ≤ bound) (runs_from scheme header other number logs)
weights_from scheme header count other number bound [] all = tt
weights_from scheme header count other number bound (log ∷ logs) all =
    let run = fed keeps_operations scheme (opening_progress number header) log in (
      omega (arith, all.0, left_weight header.first count run, left_weight header.first other run),
      weights_from scheme header count other (suc number) bound logs all.1,
    )
