-- What a run does, by how it ends.
use Rattle.std.proofs.Common.{◌≡◌, Bool, ◌⊎◌, ℕ, ◌+◌, List, map, ◌++◌, length, Option, Some, None, Ok, Err, inl, inr, refl, sym, ◌∙◌, ap, subst}
use Rattle.fv_outside.specs.Consumed.{TookAtMost, TookJust}
use Rattle.fv_outside.specs.Faults.{Rose}
use Rattle.fv_outside.specs.Written.{Grows}
use Rattle.record_hash.specs.Functions.{DigestFunctions}
use Rattle.slot_rewriting.specs.Writing.{written_logs}
use Rattle.record_text.specs.declared.cause.Cause.{Cause}
use Rattle.program_words.specs.declared.host_words.RunWords.{RunWords}
use Rattle.report_text.specs.declared.status.Status.{Status}
use Rattle.report_text.specs.declared.status.Status.TheVariants as statuses
use Rattle.report_text.specs.declared.ending.BundleEnd.TheVariants as bundles
use Rattle.report_text.specs.Answer.{IsEnd, Reading, Writing}
use Rattle.report_text.specs.Ending.{status_of, failure_status}
use Rattle.report_text.specs.Status.{last_line}
use Rattle.fv_outside.specs.declared.failure.Failure.TheVariants as failures
use Rattle.bundle_report.specs.Report.{told_by}
use Rattle.script_text.specs.declared.task.Task.{Task}
use Rattle.host_world.specs.declared.fault.ClockEnd.{ClockEnd}
use Rattle.shipped_host.specs.declared.settings.Settings.{Settings}
use Rattle.fv_outside.specs.declared.failure.Failure.{Failure}
use Rattle.host_rounds.specs.SoFar.{lines_due, end_due}
use Rattle.host_rounds.proofs.RoundLaws.{bundle-due, bundle-end, bundle-text}
use Rattle.verifier_threads.specs.declared.accounts.Account.TheVariants as accounts
use Rattle.verifier_threads.specs.declared.ending.RunEnd.{RunEnd}
use Rattle.verifier_threads.specs.declared.ending.RunEnd.TheVariants as ends
use Rattle.verifier_threads.specs.InRounds.{Logs}
use Rattle.verifier_threads.specs.Serving.{Outputs, AreOfRun, IsServed, IsCutOff, IsCutByVault, IsCutAtEnd, ServesTo, end_by, status_at}
use Rattle.fastver_top.specs.declared.scripts.ScriptStop.{ScriptStop}
use Rattle.fastver_top.specs.declared.scripts.ScriptStop.TheVariants as scripts
use Rattle.check_core.specs.Sealing.{Keeping}
use Rattle.fastver_top.specs.Running.{HasScript, HasBadLine, ReadsScript, script_stopped, header_for, settings_for, outputs_of, EndsServed, EndsCutOff, IsDueByCheck, IsAnswerOfCheck, IsNamedFor, IsUntouched, IsBehindScript, RunsTo}

-- ---- what a check of the vault's bytes answers

module _ (receipts : Bool) (functions : DigestFunctions) (settings : Settings) (script : List (List Task)) (outputs : Outputs) where
  -- the lines that were written
  pub due-by-check : (end : RunEnd) → IsServed (accounts.Report receipts) functions settings script end outputs → IsDueByCheck receipts functions (status_at end) outputs
  due-by-check end served = record {
    bytes = served.vault.bytes;
    vault = served.vault.grown;
    out = subst (λ (lines : List ℕ). Grows outputs.out outputs.out_after (lines ++ last_line (status_at end)))
        (sym (bundle-due receipts functions settings.header (written_logs settings.header served.logs) (map (written_logs settings.header) served.rounds) served.vault.bytes served.vault.is_bundle)) served.out;
  }

  -- no clock ended where all is done
  none-ended : (end : Option ClockEnd) (phases epochs : ℕ) → status_at (end_by phases end) ≡ statuses.Done epochs → end ≡ None
  none-ended None phases epochs is = refl
  none-ended (Some end) phases epochs is = absurd (cc)

  -- the same text and status, where all is done
  pub answer-of-check : ((rounds : List Logs) (logs : Logs) → AreOfRun functions settings script rounds logs None
      → end_due functions settings.header (written_logs settings.header logs) ≡ bundles.Done (length script))
      → (end : RunEnd) (epochs : ℕ) → status_at end ≡ statuses.Done epochs → IsServed (accounts.Report receipts) functions settings script end outputs
      → IsAnswerOfCheck receipts functions (status_at end) outputs
  answer-of-check law end epochs done served =
      let none : served.end ≡ None = none-ended served.end (length script) epochs (sym (ap status_at served.is) ∙ done) in
      let run : AreOfRun functions settings script served.rounds served.logs None = subst (AreOfRun functions settings script served.rounds served.logs) none served.run in
      let status : status_at end ≡ status_of (end_due functions settings.header (written_logs settings.header served.logs)) =
      ap status_at served.is ∙ ap (λ (e : Option ClockEnd). status_at (end_by (length script) e)) none ∙ sym (ap status_of (law served.rounds served.logs run)) in
      record {
        bytes = served.vault.bytes;
        vault = served.vault.grown;
        out = subst (Grows outputs.out outputs.out_after)
            (ap (λ (s : Status). lines_due (told_by receipts functions settings.header) functions settings.header (written_logs settings.header served.logs) ++ last_line s) status
            ∙ sym (bundle-text receipts functions settings.header (written_logs settings.header served.logs) (map (written_logs settings.header) served.rounds) served.vault.bytes served.vault.is_bundle)) served.out;
        status = bundle-end receipts functions settings.header (written_logs settings.header served.logs) (map (written_logs settings.header) served.rounds) served.vault.bytes served.vault.is_bundle ∙ sym status;
      }

-- ---- how it ends

module _ (functions : DigestFunctions) (run : RunWords) (most : ℕ) (reading : Reading) (writing : Writing) (keeping : Keeping) where
  -- memory was wanting
  pub runs-memory : TookAtMost most reading.left reading.left_after
      → IsUntouched keeping.name keeping.name_after (outputs_of writing keeping) ⊎ EndsCutOff functions run statuses.Memory reading (outputs_of writing keeping)
      → IsNamedFor run.logs keeping.name keeping.name_after ⊎ IsUntouched keeping.name keeping.name_after (outputs_of writing keeping)
      → RunsTo functions run most statuses.Memory reading writing keeping
  runs-memory within cut named = record {
    served = λ end. absurd end;
    due = λ end. absurd end;
    checked = λ epochs is. absurd (cc);
    cut = λ _. cut;
    cut_by_vault = λ is. absurd (cc);
    cut_report = λ is. absurd (cc);
    bad = λ line cause is. absurd (cc);
    good = λ behind. absurd behind;
    limit = λ taken is. absurd (cc);
    within = λ _. within;
    named = named;
    named_at_end = λ is. absurd (not_end is);
    read_fault = λ is. absurd (cc);
    write_fault = λ is. absurd (cc);
    vault_fault = λ is. absurd (cc);
  }
    where
      not_end : IsEnd statuses.Memory ⊎ (statuses.Memory ≡ statuses.WriteFault) → ⊥
      not_end (inl is) = is
      not_end (inr is) = cc

  -- the source failed
  pub runs-read_fault : TookAtMost most reading.left reading.left_after → Rose reading.faults reading.faults_after
      → IsUntouched keeping.name keeping.name_after (outputs_of writing keeping)
      → RunsTo functions run most statuses.ReadFault reading writing keeping
  runs-read_fault within rose untouched = record {
    served = λ end. absurd end;
    due = λ end. absurd end;
    checked = λ epochs is. absurd (cc);
    cut = λ is. absurd (neither is);
    cut_by_vault = λ is. absurd (cc);
    cut_report = λ is. absurd (cc);
    bad = λ line cause is. absurd (cc);
    good = λ behind. absurd behind;
    limit = λ taken is. absurd (cc);
    within = λ _. within;
    named = inr untouched;
    named_at_end = λ is. absurd (not_end is);
    read_fault = λ _. rose;
    write_fault = λ is. absurd (cc);
    vault_fault = λ is. absurd (cc);
  }
    where
      neither : (statuses.ReadFault ≡ statuses.Memory) ⊎ (statuses.ReadFault ≡ statuses.VaultFault) → ⊥
      neither (inl is) = cc
      neither (inr is) = cc

      not_end : IsEnd statuses.ReadFault ⊎ (statuses.ReadFault ≡ statuses.WriteFault) → ⊥
      not_end (inl is) = is
      not_end (inr is) = cc

  -- the source gave too much
  pub runs-limit : TookJust (most + 1) reading.left reading.left_after
      → IsUntouched keeping.name keeping.name_after (outputs_of writing keeping)
      → RunsTo functions run most (statuses.InputLimit most) reading writing keeping
  runs-limit just untouched = record {
    served = λ end. absurd end;
    due = λ end. absurd end;
    checked = λ epochs is. absurd (cc);
    cut = λ is. absurd (neither is);
    cut_by_vault = λ is. absurd (cc);
    cut_report = λ is. absurd (cc);
    bad = λ line cause is. absurd (cc);
    good = λ behind. absurd behind;
    limit = λ taken is. let same : taken ≡ most = cc in (same, just);
    within = λ other. absurd (other refl);
    named = inr untouched;
    named_at_end = λ is. absurd (not_end is);
    read_fault = λ is. absurd (cc);
    write_fault = λ is. absurd (cc);
    vault_fault = λ is. absurd (cc);
  }
    where
      neither : ((statuses.InputLimit most) ≡ statuses.Memory) ⊎ ((statuses.InputLimit most) ≡ statuses.VaultFault) → ⊥
      neither (inl is) = cc
      neither (inr is) = cc

      not_end : IsEnd (statuses.InputLimit most) ⊎ ((statuses.InputLimit most) ≡ statuses.WriteFault) → ⊥
      not_end (inl is) = is
      not_end (inr is) = cc

  -- what was read is no script
  pub runs-bad_script : (line : ℕ) (cause : Cause) → TookAtMost most reading.left reading.left_after → HasBadLine (header_for run.numbers) reading line cause
      → IsUntouched keeping.name keeping.name_after (outputs_of writing keeping)
      → RunsTo functions run most (statuses.BadScript line cause) reading writing keeping
  runs-bad_script line cause within bad untouched = record {
    served = λ end. absurd end;
    due = λ end. absurd end;
    checked = λ epochs is. absurd (cc);
    cut = λ is. absurd (neither is);
    cut_by_vault = λ is. absurd (cc);
    cut_report = λ is. absurd (cc);
    bad = λ line' cause' is. let same : line ≡ line' = cc in let same' : cause ≡ cause' = cc in
        subst (λ (l : ℕ). HasBadLine (header_for run.numbers) reading l cause') same (subst (HasBadLine (header_for run.numbers) reading line) same' bad);
    good = λ behind. absurd behind;
    limit = λ taken is. absurd (cc);
    within = λ _. within;
    named = inr untouched;
    named_at_end = λ is. absurd (not_end is);
    read_fault = λ is. absurd (cc);
    write_fault = λ is. absurd (cc);
    vault_fault = λ is. absurd (cc);
  }
    where
      neither : ((statuses.BadScript line cause) ≡ statuses.Memory) ⊎ ((statuses.BadScript line cause) ≡ statuses.VaultFault) → ⊥
      neither (inl is) = cc
      neither (inr is) = cc

      not_end : IsEnd (statuses.BadScript line cause) ⊎ ((statuses.BadScript line cause) ≡ statuses.WriteFault) → ⊥
      not_end (inl is) = is
      not_end (inr is) = cc

  -- the vault failed
  pub runs-vault_fault : (script : List (List Task)) → HasScript (header_for run.numbers) reading script → TookAtMost most reading.left reading.left_after
      → IsCutOff (accounts.Report run.receipts) functions (settings_for run.numbers) script (outputs_of writing keeping)
      → IsCutByVault (accounts.Report run.receipts) functions (settings_for run.numbers) script (outputs_of writing keeping)
      → IsNamedFor run.logs keeping.name keeping.name_after ⊎ IsUntouched keeping.name keeping.name_after (outputs_of writing keeping)
      → Rose keeping.faults keeping.faults_after
      → RunsTo functions run most statuses.VaultFault reading writing keeping
  runs-vault_fault script read within cut by_vault named rose = record {
    served = λ end. absurd end;
    due = λ end. absurd end;
    checked = λ epochs is. absurd (cc);
    cut = λ _. inr (record { script = script; read = read; cut = cut });
    cut_by_vault = λ _. inr (record { script = script; read = read; cut = by_vault });
    cut_report = λ is. absurd (cc);
    bad = λ line cause is. absurd (cc);
    good = λ _. (script, read);
    limit = λ taken is. absurd (cc);
    within = λ _. within;
    named = named;
    named_at_end = λ is. absurd (not_end is);
    read_fault = λ is. absurd (cc);
    write_fault = λ is. absurd (cc);
    vault_fault = λ _. rose;
  }
    where
      not_end : IsEnd statuses.VaultFault ⊎ (statuses.VaultFault ≡ statuses.WriteFault) → ⊥
      not_end (inl is) = is
      not_end (inr is) = cc

  -- the sink failed
  pub runs-write_fault : (script : List (List Task)) → HasScript (header_for run.numbers) reading script → TookAtMost most reading.left reading.left_after
      → IsCutOff (accounts.Report run.receipts) functions (settings_for run.numbers) script (outputs_of writing keeping)
      ⊎ IsCutAtEnd (accounts.Report run.receipts) functions (settings_for run.numbers) script (outputs_of writing keeping)
      → IsNamedFor run.logs keeping.name keeping.name_after → Rose writing.faults writing.faults_after
      → RunsTo functions run most statuses.WriteFault reading writing keeping
  runs-write_fault script read within cut named rose = record {
    served = λ end. absurd end;
    due = λ end. absurd end;
    checked = λ epochs is. absurd (cc);
    cut = λ is. absurd (neither is);
    cut_by_vault = λ is. absurd (cc);
    cut_report = λ _. record { script = script; read = read; cut = cut };
    bad = λ line cause is. absurd (cc);
    good = λ _. (script, read);
    limit = λ taken is. absurd (cc);
    within = λ _. within;
    named = inl named;
    named_at_end = λ _. named;
    read_fault = λ is. absurd (cc);
    write_fault = λ _. rose;
    vault_fault = λ is. absurd (cc);
  }
    where
      neither : (statuses.WriteFault ≡ statuses.Memory) ⊎ (statuses.WriteFault ≡ statuses.VaultFault) → ⊥
      neither (inl is) = cc
      neither (inr is) = cc

  -- it served the script
  pub runs-end : (result : Status) → IsEnd result → IsBehindScript result → EndsServed functions run result reading (outputs_of writing keeping)
      → IsDueByCheck run.receipts functions result (outputs_of writing keeping)
      → ((epochs : ℕ) → result ≡ statuses.Done epochs → IsAnswerOfCheck run.receipts functions result (outputs_of writing keeping))
      → TookAtMost most reading.left reading.left_after → IsNamedFor run.logs keeping.name keeping.name_after
      → RunsTo functions run most result reading writing keeping
  runs-end result end behind served due checked within named = record {
    served = λ _. served;
    due = λ _. due;
    checked = checked;
    cut = λ is. absurd (neither is);
    cut_by_vault = λ is. absurd (subst IsEnd is end);
    cut_report = λ is. absurd (subst IsEnd is end);
    bad = λ line cause is. absurd (subst IsEnd is end);
    good = λ _. (served.script, served.read);
    limit = λ taken is. absurd (subst IsEnd is end);
    within = λ _. within;
    named = inl named;
    named_at_end = λ _. named;
    read_fault = λ is. absurd (subst IsEnd is end);
    write_fault = λ is. absurd (subst IsEnd is end);
    vault_fault = λ is. absurd (subst IsEnd is end);
  }
    where
      neither : (result ≡ statuses.Memory) ⊎ (result ≡ statuses.VaultFault) → ⊥
      neither (inl is) = subst IsEnd is end
      neither (inr is) = subst IsEnd is end

  -- ---- by what was read, and by what was served

  -- no script was read
  pub runs-unread : (stop : ScriptStop) → ReadsScript (header_for run.numbers) most (Err stop) reading
      → IsUntouched keeping.name keeping.name_after (outputs_of writing keeping)
      → RunsTo functions run most (script_stopped most stop) reading writing keeping
  runs-unread (scripts.Failure failures.Memory) read untouched =
      runs-memory (read.within (λ is. cc)) (inl untouched) (inr untouched)
  runs-unread (scripts.Failure failures.ReadFault) read untouched = runs-read_fault (read.within (λ is. cc)) (read.fault refl) untouched
  runs-unread (scripts.Failure failures.InputLimit) read untouched = runs-limit (read.limit refl) untouched
  runs-unread (scripts.Failure failures.VaultFault) read untouched = absurd (read.vault refl)
  runs-unread (scripts.Failure failures.WriteFault) read untouched = absurd (read.sink refl)
  runs-unread (scripts.BadScript line cause) read untouched =
      runs-bad_script line cause (read.within (λ is. cc)) (read.bad line cause refl) untouched

  module _ (script : List (List Task)) (read : ReadsScript (header_for run.numbers) most (Ok script) reading) where
    -- it was not served to its end
    pub runs-stopped : (stop : Failure) → ServesTo (accounts.Report run.receipts) functions (settings_for run.numbers) script (Err stop) (outputs_of writing keeping)
        → ((stop ≡ failures.VaultFault → ⊥) → IsNamedFor run.logs keeping.name keeping.name_after)
        → IsNamedFor run.logs keeping.name keeping.name_after ⊎ IsUntouched keeping.name keeping.name_after (outputs_of writing keeping)
        → (stop ≡ failures.VaultFault → Rose keeping.faults keeping.faults_after) → (stop ≡ failures.WriteFault → Rose writing.faults writing.faults_after)
        → RunsTo functions run most (failure_status most stop) reading writing keeping
    runs-stopped failures.Memory served named first vault out = runs-memory (read.within (λ is. cc)) (inr (record { script = script; read = read.script; cut = served })) first
    runs-stopped failures.ReadFault served named first vault out = absurd served
    runs-stopped failures.InputLimit served named first vault out = absurd served
    runs-stopped failures.VaultFault served named first vault out = runs-vault_fault script read.script (read.within (λ is. cc)) served.0 served.1 first (vault refl)
    runs-stopped failures.WriteFault served named first vault out = runs-write_fault script read.script (read.within (λ is. cc)) served (named (λ is. cc)) (out refl)

    -- it was
    pub runs-served : ((rounds : List Logs) (logs : Logs) → AreOfRun functions (settings_for run.numbers) script rounds logs None
        → end_due functions (settings_for run.numbers).header (written_logs (settings_for run.numbers).header logs) ≡ bundles.Done (length script))
        → (end : RunEnd) → ServesTo (accounts.Report run.receipts) functions (settings_for run.numbers) script (Ok end) (outputs_of writing keeping)
        → IsNamedFor run.logs keeping.name keeping.name_after → RunsTo functions run most (status_at end) reading writing keeping
    runs-served law end served named =
        runs-end (status_at end) (is_end end) (is_behind end) (record { script = script; read = read.script; end = end; is = refl; served = served })
        (due-by-check run.receipts functions (settings_for run.numbers) script (outputs_of writing keeping) end served)
        (λ epochs done. answer-of-check run.receipts functions (settings_for run.numbers) script (outputs_of writing keeping) law end epochs done served)
        (read.within (λ is. cc)) named
      where
        is_end : (e : RunEnd) → IsEnd (status_at e)
        is_end (ends.Done epochs) = tt
        is_end (ends.ClockEnd clock) = tt

        is_behind : (e : RunEnd) → IsBehindScript (status_at e)
        is_behind (ends.Done epochs) = tt
        is_behind (ends.ClockEnd clock) = tt
