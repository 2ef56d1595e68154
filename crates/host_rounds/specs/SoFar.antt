-- What the runs of the verifiers have come to over the rounds so far, and what is due by them.
use Rattle.std.specs.Prelude.{◌≡◌, ℕ, ◌≤◌, List, map, Option, None}
use Rattle.std.specs.List.{AllByRecursion}
use Rattle.lamport_clocks.specs.declared.header.Header.{Header}
use Rattle.record_hash.specs.Functions.{DigestFunctions}
use Rattle.record_text.specs.Format.{format_of}
use Rattle.merkle_records.specs.Scheme.{scheme_of}
use Rattle.log_codec.specs.Log.{read_log}
use Rattle.report_text.specs.declared.ending.BundleEnd.{BundleEnd}
use Rattle.report_text.specs.declared.status.Status.{Status}
use Rattle.load_summary.specs.Tallies.{tallies_of}
use Rattle.load_summary.specs.Counting.{Counted, counted_of}
use Rattle.load_summary.specs.Summary.{summary_with_end}
use Rattle.verifier_run.specs.Progress.{weight}
use Rattle.bundle_report.specs.declared.judged.Judged.{Judged}
use Rattle.record_text.specs.declared.operation.Operation.{Operation}
use Rattle.soundness.specs.Certified.{certified_count}
use Rattle.bundle_report.specs.Report.{EpochTold, operations_told}
use Rattle.bundle_report.specs.BundleReport.{certified_lines, histories_at, end_of}
use Rattle.bundle_report.specs.Judged.{judged}
use Rattle.bundle_report.specs.RunReport.{courses_of}
use Rattle.bundle_report.specs.SoFar.{HaveRead, lines_from}
use Rattle.certified_epochs.specs.declared.fed_run.FedRun.{FedRun}
use Rattle.certified_epochs.specs.Turn.{AreFed}
use Rattle.host_rounds.specs.Bundle.{HasBundle}

-- what is judged, the runs, how many bytes were fed to them, and what was counted of each worker
pub record RunsSoFar : Type 0 where
  pub judged : Judged
  pub runs : List FedRun
  pub bytes : ℕ
  pub summary : Counted

-- the same with other runs
abbrev pub with_runs : List FedRun → RunsSoFar → RunsSoFar
with_runs runs so_far = record so_far { runs = runs }

-- the lines of the epochs that are counted, or what else is told of them
abbrev pub lines_counted : {A : Type 0} → EpochTold A → DigestFunctions → Header → List (List ℕ) → RunsSoFar → List A
lines_counted tell functions header logs so_far = lines_from tell (courses_of (scheme_of functions header) header logs) header.first so_far.judged.count

-- the operations of the epochs that are counted
abbrev pub operations_counted : DigestFunctions → Header → List (List ℕ) → RunsSoFar → List Operation
operations_counted functions header logs so_far = lines_counted operations_told functions header logs so_far

-- The runs have taken these logs, and the epochs that are counted are taken out of them. Memory was wanting for none. Of each
-- worker the operations of these epochs are counted.
pub record HaveRun (functions : DigestFunctions) (header : Header) (logs : List (List ℕ)) (so_far : RunsSoFar) : Type 0 where
  pub fed : AreFed so_far.runs
  pub taken : HaveRead (scheme_of functions header) header logs so_far.judged (map (λ fed. fed.run) so_far.runs)
  pub few : AllByRecursion (λ fed. weight fed.run ≤ so_far.bytes) so_far.runs
  pub summed : so_far.summary ≡ counted_of header.verifiers (operations_counted functions header logs so_far)

-- there are logs that the runs have taken by these functions
abbrev pub HaveRunBy : DigestFunctions → RunsSoFar → Type 0
HaveRunBy functions so_far = (header : Header) × (logs : List (List ℕ)) × HaveRun functions header logs so_far

-- there are logs that the runs have taken
abbrev pub HaveRunSome : RunsSoFar → Type 0
HaveRunSome so_far = (functions : DigestFunctions) × (header : Header) × (logs : List (List ℕ)) × HaveRun functions header logs so_far

-- The rounds so far, of a vault that held this before: it has the bundle of these rounds, and the runs have taken the logs that they
-- join to.
pub record Keeps (functions : DigestFunctions) (header : Header) (logs : List (List ℕ)) (rounds : List (List (List ℕ))) (so_far : RunsSoFar)
    (before now : Option (List ℕ)) : Type 0 where
  pub vault : HasBundle header logs rounds before now
  pub runs : HaveRun functions header logs so_far

-- all that these logs certify is counted
abbrev pub AllCounted : DigestFunctions → Header → List (List ℕ) → RunsSoFar → Type 0
AllCounted functions header logs so_far = so_far.judged ≡ judged header.verifiers (courses_of (scheme_of functions header) header logs)

-- the lines of all epochs that logs certify, or what else is told of them
abbrev pub lines_due : {A : Type 0} → EpochTold A → DigestFunctions → Header → List (List ℕ) → List A
lines_due tell functions header logs = certified_lines tell (scheme_of functions header) header (histories_at (scheme_of functions header) header logs)

-- the operations of all epochs that logs certify
abbrev pub operations_due : DigestFunctions → Header → List (List ℕ) → List Operation
operations_due functions header logs = lines_due operations_told functions header logs

-- how many epochs logs certify
abbrev pub epochs_due : DigestFunctions → Header → List (List ℕ) → ℕ
epochs_due functions header logs =
    certified_count (scheme_of functions header) header.first (histories_at (scheme_of functions header) header logs)

-- the summary of a load with these numbers whose logs these are, and which ended so
abbrev pub summary_due : DigestFunctions → Header → List (List ℕ) → ℕ → ℕ → Status → List ℕ
summary_due functions header logs seed ops end =
    summary_with_end seed ops (epochs_due functions header logs) (tallies_of header.verifiers (operations_due functions header logs)) end

-- how the report of logs ends, with nothing bad in their bundle
abbrev pub end_due : DigestFunctions → Header → List (List ℕ) → BundleEnd
end_due functions header logs =
    end_of (scheme_of functions header) header (map (read_log (format_of header)) logs) (histories_at (scheme_of functions header) header logs) None
