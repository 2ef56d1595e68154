-- A run whose counters don't suffice for the setup: nothing is logged, and its account is that of no epochs and no operations.
use Rattle.std.proofs.Common.{◌≡◌, Bool, ℕ, zero, suc, ◌<◌, List, [], ◌∷◌, ◌++◌, replicate, Option, Some, refl, sym, ◌∙◌, ap, subst, arith}
use Rattle.fv_outside.specs.Written.{Grows, GrowsByFront}
use Rattle.record_hash.specs.Functions.{DigestFunctions}
use Rattle.record_text.specs.declared.operation.Operation.{Operation}
use Rattle.lamport_clocks.specs.declared.header.Header.{Header}
use Rattle.slot_rewriting.specs.Writing.{written_logs}
use Rattle.report_text.specs.declared.status.Status.{Status}
use Rattle.report_text.specs.Status.{last_line}
use Rattle.load_summary.specs.Tallies.{tallies_of}
use Rattle.load_summary.specs.Counting.{Counted}
use Rattle.load_summary.specs.Summary.{summary_with_end}
use Rattle.bundle_report.specs.Logs.{empty_logs}
use Rattle.bundle_report.specs.Report.{EpochText, told_by, operations_told}
use Rattle.script_text.specs.declared.task.Task.{Task}
use Rattle.host_world.specs.declared.fault.ClockEnd.{ClockEnd}
use Rattle.shipped_host.specs.declared.settings.Settings.{Settings}
use Rattle.host_rounds.specs.Bundle.{HasBundle}
use Rattle.host_rounds.specs.SoFar.{RunsSoFar, HaveRun, lines_due, operations_due, epochs_due, summary_due}
use Rattle.host_rounds.proofs.RoundLaws.{counted-none}
use Rattle.verifier_threads.specs.declared.accounts.Account.{Account}
use Rattle.verifier_threads.specs.declared.accounts.Account.TheVariants as accounts
use Rattle.verifier_threads.specs.declared.ending.RunEnd.{RunEnd}
use Rattle.verifier_threads.specs.declared.loads.Load.{Load}
use Rattle.verifier_threads.specs.InRounds.{Logs, no_logs}
use Rattle.verifier_threads.specs.Serving.{IsServed, IsCutAtEnd, AreOfRun, end_by, status_at, setup_end, report_of, summary_of, account_of}
use Rattle.verifier_threads.specs.Running.{ending_for}

abbrev pub NothingIsDue : Type 0
NothingIsDue = (tell : EpochText) (functions : DigestFunctions) (header : Header) → lines_due tell functions header (replicate header.verifiers []) ≡ []

abbrev pub NoEpochs : Type 0
NoEpochs = (functions : DigestFunctions) (header : Header) → epochs_due functions header (replicate header.verifiers []) ≡ 0

abbrev pub NoOperations : Type 0
NoOperations = (functions : DigestFunctions) (header : Header) → operations_due functions header (replicate header.verifiers []) ≡ []

abbrev pub NoTexts : Type 0
NoTexts = (header : Header) (count : ℕ) → written_logs header (replicate count []) ≡ replicate count []

pub empty-are : (count : ℕ) → empty_logs count ≡ replicate count []
empty-are zero = refl
empty-are (suc count) = ap (λ (rest : List (List ℕ)). [] ∷ rest) (empty-are count)

module _ (none_due : NothingIsDue) (no_epochs : NoEpochs) (no_operations : NoOperations) (no_texts : NoTexts) (functions : DigestFunctions) (settings : Settings) (script : List (List Task))
    (short : settings.header.end < settings.shards) where
  abbrev own : Header
  own = settings.header

  abbrev none_logged : Logs
  none_logged = no_logs own.verifiers

  of_run : AreOfRun functions settings script [] none_logged (Some (setup_end settings))
  of_run = record { served = λ enough. absurd (omega (arith, enough, short)); unserved = λ _. (refl, refl, refl) }

  has_header : (vault vault_after : Option (List ℕ)) → HasBundle own (empty_logs own.verifiers) [] vault vault_after
      → HasBundle own (written_logs own none_logged) [] vault vault_after
  has_header vault vault_after has =
      subst (λ (all : List (List ℕ)). HasBundle own all [] vault vault_after) (empty-are own.verifiers ∙ sym (no_texts own own.verifiers)) has

  -- the report is its last line
  report_is : (receipts : Bool) (end : RunEnd) → report_of receipts functions own none_logged end ≡ last_line (status_at end)
  report_is receipts end =
      ap (λ (all : List (List ℕ)). lines_due (told_by receipts functions own) functions own all ++ last_line (status_at end)) (no_texts own own.verifiers)
      ∙ ap (λ (text : List ℕ). text ++ last_line (status_at end)) (none_due (told_by receipts functions own) functions own)

  -- the summary of no epochs and no operations
  abbrev bare : Load → Status → List ℕ
  bare load status = summary_with_end load.seed load.ops 0 (tallies_of own.verifiers []) status

  summary_bare : (load : Load) (end : RunEnd) → summary_of functions own load none_logged end ≡ bare load (status_at end)
  summary_bare load end =
      ap (λ (texts : List (List ℕ)). summary_due functions own texts load.seed load.ops (status_at end)) (no_texts own own.verifiers)
      ∙ ap (λ (n : ℕ). summary_with_end load.seed load.ops n (tallies_of own.verifiers (operations_due functions own (replicate own.verifiers []))) (status_at end))
      (no_epochs functions own)
      ∙ ap (λ (ops : List Operation). summary_with_end load.seed load.ops 0 (tallies_of own.verifiers ops) (status_at end)) (no_operations functions own)

  written_bare : (load : Load) (rounds : RunsSoFar) (status : Status) → HaveRun functions own (empty_logs own.verifiers) rounds → rounds.judged.count ≡ 0
      → summary_with_end load.seed load.ops rounds.judged.count rounds.summary.tallies status ≡ bare load status
  written_bare load rounds status have none =
      ap (λ (counted : Counted). summary_with_end load.seed load.ops rounds.judged.count counted.tallies status) have.summed
      ∙ ap (λ (ops : List Operation). summary_with_end load.seed load.ops rounds.judged.count (tallies_of own.verifiers ops) status)
      (counted-none operations_told functions own (empty_logs own.verifiers) rounds none)
      ∙ ap (λ (n : ℕ). summary_with_end load.seed load.ops n (tallies_of own.verifiers []) status) none

  -- the end is all of the account
  account_is : (account : Account) (rounds : RunsSoFar) (end : RunEnd) → HaveRun functions own (empty_logs own.verifiers) rounds → rounds.judged.count ≡ 0
      → ending_for account rounds (status_at end) ≡ account_of account functions own none_logged end
  account_is (accounts.Report receipts) rounds end have none = sym (report_is receipts end)
  account_is (accounts.Summary load) rounds end have none = written_bare load rounds (status_at end) have none ∙ sym (summary_bare load end)

  -- the end is written
  pub nothing-served : (account : Account) (rounds : RunsSoFar) (end : ClockEnd) (vault vault_after out out_after : Option (List ℕ)) → end ≡ setup_end settings
      → HaveRun functions own (empty_logs own.verifiers) rounds → rounds.judged.count ≡ 0
      → HasBundle own (empty_logs own.verifiers) [] vault vault_after
      → Grows out out_after (ending_for account rounds (status_at (end_by 0 (Some end))))
      → IsServed account functions settings script (end_by 0 (Some end)) (record { vault = vault; vault_after = vault_after; out = out; out_after = out_after })
  nothing-served account rounds end vault vault_after out out_after is have none has written = record {
    rounds = [];
    logs = none_logged;
    end = Some (setup_end settings);
    run = of_run;
    is = ap (λ (e : ClockEnd). end_by 0 (Some e)) is;
    vault = has_header vault vault_after has;
    out = subst (Grows out out_after) (account_is account rounds (end_by 0 (Some end)) have none) written;
  }

  -- or a front of it
  pub nothing-cut : (account : Account) (rounds : RunsSoFar) (end : ClockEnd) (vault vault_after out out_after : Option (List ℕ)) → end ≡ setup_end settings
      → HaveRun functions own (empty_logs own.verifiers) rounds → rounds.judged.count ≡ 0
      → HasBundle own (empty_logs own.verifiers) [] vault vault_after
      → GrowsByFront out out_after (ending_for account rounds (status_at (end_by 0 (Some end))))
      → IsCutAtEnd account functions settings script (record { vault = vault; vault_after = vault_after; out = out; out_after = out_after })
  nothing-cut account rounds end vault vault_after out out_after is have none has written = record {
    rounds = [];
    logs = none_logged;
    end = Some (setup_end settings);
    run = of_run;
    vault = has_header vault vault_after has;
    out = subst (GrowsByFront out out_after)
        (account_is account rounds (end_by 0 (Some end)) have none ∙ ap (λ (e : ClockEnd). account_of account functions own none_logged (end_by 0 (Some e))) is)
        written;
  }
