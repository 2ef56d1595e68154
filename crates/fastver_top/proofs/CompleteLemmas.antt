-- Which status comes where no object failed and the input is within the limit, by the cases of a status.
use Rattle.std.proofs.Common.{◌≡◌, ℕ, ◌+◌, ◌≤◌, List, length, Option, Some, None, IfSome, Result, Ok, Err, inl, inr, refl, sym, ◌∙◌, ap, subst, arith}
use Rattle.fv_outside.specs.Consumed.{TookJust}
use Rattle.record_hash.specs.Functions.{DigestFunctions}
use Rattle.program_words.specs.declared.host_words.RunWords.{RunWords}
use Rattle.program_words.specs.declared.load_words.GenWords.{GenWords}
use Rattle.report_text.specs.declared.status.Status.{Status}
use Rattle.report_text.specs.declared.status.Status.TheVariants as statuses
use Rattle.report_text.specs.Answer.{Answer, IsEnd, Reading, Writing, AnswersTo}
use Rattle.bundle_frames.specs.Extent.{reading_end}
use Rattle.check_core.specs.Outcomes.{IsCheckStatus}
use Rattle.script_text.specs.declared.task.Task.{Task}
use Rattle.script_text.specs.Script.{script_of}
use Rattle.host_world.specs.declared.fault.ClockEnd.{ClockEnd}
use Rattle.shipped_host.specs.declared.settings.Settings.{Settings}
use Rattle.verifier_threads.specs.declared.ending.RunEnd.{RunEnd}
use Rattle.verifier_threads.specs.InRounds.{Logs}
use Rattle.verifier_threads.specs.Serving.{AreOfRun, end_by, status_at}
use Rattle.check_core.specs.Sealing.{Keeping, Counting}
use Rattle.fastver_top.specs.Running.{IsRunStatus, RunsTo, header_for, settings_for}
use Rattle.fastver_top.specs.Generating.{GensTo, IsGenStatus, script_for}
use Rattle.fastver_top.specs.Accepting.{AnswersWhole, IsAnswered, IsAcceptStatus}
use Rattle.fastver_top.specs.Auditing.{IsAuditStatus}
use Rattle.fastver_top.specs.Signing.{IsSignStatus}
use Rattle.fastver_top.specs.Complete.{Had, IsOrWantsMemory, NoClockEnds, NoneFailed}

-- ---- what was read

-- what holds of the bytes of a source that tells them
pub of_bytes : (P : List ℕ → Type 0) (left : Option (List ℕ)) (bytes : List ℕ) → left ≡ Some bytes → IfSome left P → P bytes
of_bytes P None bytes is holds = absurd (cc)
of_bytes P (Some own) bytes is holds = let same : own ≡ bytes = cc in subst P same holds

-- a source that had no more than so many bytes gave no more
pub not_past : (most : ℕ) (bytes : List ℕ) (left left_after : Option (List ℕ)) → left ≡ Some bytes → length bytes ≤ most
    → TookJust (most + 1) left left_after → ⊥
not_past most bytes None left_after is few took = cc
not_past most bytes (Some own) None is few took = took
not_past most bytes (Some own) (Some rest) is few took = let same : length own ≡ length bytes = ap length (cc) in omega arith

-- ---- a check, an audit, an acceptance and a signing

module _ (most : ℕ) (bytes : List ℕ) (reading : Reading) (writing : Writing) (keeping : Keeping) (counting : Counting)
    (fine : NoneFailed reading writing keeping counting) (had : Had most bytes reading) where
  module _ (answer : List ℕ → Answer) where
    ends-so : (result : Status) → AnswersTo answer reading_end most result reading writing → IsEnd result → IsOrWantsMemory result (answer bytes).status
    ends-so result answers end = inl (of_bytes (λ b. result ≡ (answer b).status) reading.left bytes had.bytes_are (answers.status end))

    pub check-answered : (result : Status) → IsCheckStatus result → AnswersTo answer reading_end most result reading writing
        → IsOrWantsMemory result (answer bytes).status
    check-answered (statuses.Done epochs) can answers = ends-so (statuses.Done epochs) answers tt
    check-answered statuses.Usage can answers = absurd can
    check-answered statuses.Memory can answers = inr refl
    check-answered statuses.ReadFault can answers = absurd (fine.source (answers.read_fault refl))
    check-answered statuses.WriteFault can answers = absurd (fine.sink (answers.write_fault refl))
    check-answered statuses.VaultFault can answers = absurd can
    check-answered (statuses.BadScript line cause) can answers = absurd can
    check-answered (statuses.BadBundle offset) can answers = ends-so (statuses.BadBundle offset) answers tt
    check-answered (statuses.Refused verifier index refusal) can answers = ends-so (statuses.Refused verifier index refusal) answers tt
    check-answered (statuses.Unbalanced epoch added evicted) can answers = ends-so (statuses.Unbalanced epoch added evicted) answers tt
    check-answered (statuses.ClockEnd worker at) can answers = absurd can
    check-answered statuses.NotTagged can answers = absurd can
    check-answered statuses.NotCertified can answers = absurd can
    check-answered statuses.Exhibit can answers = absurd can
    check-answered (statuses.InputLimit taken) can answers =
        absurd (not_past most bytes reading.left reading.left_after had.bytes_are had.few (answers.limit taken refl).1)
    check-answered statuses.BadSeal can answers = absurd can
    check-answered (statuses.Stale sealed device) can answers = absurd can
    check-answered statuses.CounterFault can answers = absurd can

    pub audit-answered : (result : Status) → IsAuditStatus result → AnswersTo answer reading_end most result reading writing
        → IsOrWantsMemory result (answer bytes).status
    audit-answered (statuses.Done epochs) can answers = check-answered (statuses.Done epochs) can answers
    audit-answered statuses.Usage can answers = check-answered statuses.Usage can answers
    audit-answered statuses.Memory can answers = check-answered statuses.Memory can answers
    audit-answered statuses.ReadFault can answers = check-answered statuses.ReadFault can answers
    audit-answered statuses.WriteFault can answers = check-answered statuses.WriteFault can answers
    audit-answered statuses.VaultFault can answers = check-answered statuses.VaultFault can answers
    audit-answered (statuses.BadScript line cause) can answers = check-answered (statuses.BadScript line cause) can answers
    audit-answered (statuses.BadBundle offset) can answers = check-answered (statuses.BadBundle offset) can answers
    audit-answered (statuses.Refused verifier index refusal) can answers = check-answered (statuses.Refused verifier index refusal) can answers
    audit-answered (statuses.Unbalanced epoch added evicted) can answers = check-answered (statuses.Unbalanced epoch added evicted) can answers
    audit-answered (statuses.ClockEnd worker at) can answers = check-answered (statuses.ClockEnd worker at) can answers
    audit-answered statuses.NotTagged can answers = check-answered statuses.NotTagged can answers
    audit-answered statuses.NotCertified can answers = check-answered statuses.NotCertified can answers
    audit-answered statuses.Exhibit can answers = ends-so statuses.Exhibit answers tt
    audit-answered (statuses.InputLimit taken) can answers = check-answered (statuses.InputLimit taken) can answers
    audit-answered statuses.BadSeal can answers = check-answered statuses.BadSeal can answers
    audit-answered (statuses.Stale sealed device) can answers = check-answered (statuses.Stale sealed device) can answers
    audit-answered statuses.CounterFault can answers = check-answered statuses.CounterFault can answers

    said-so : (result : Status) → AnswersWhole answer most result reading writing → IsAnswered result → IsOrWantsMemory result (answer bytes).status
    said-so result answers said = inl (of_bytes (λ b. result ≡ (answer b).status) reading.left bytes had.bytes_are (answers.status said))

    pub accept-answered : (result : Status) → IsAcceptStatus result → AnswersWhole answer most result reading writing
        → IsOrWantsMemory result (answer bytes).status
    accept-answered (statuses.Done epochs) can answers = said-so (statuses.Done epochs) answers tt
    accept-answered statuses.Usage can answers = absurd can
    accept-answered statuses.Memory can answers = inr refl
    accept-answered statuses.ReadFault can answers = absurd (fine.source (answers.read_fault refl))
    accept-answered statuses.WriteFault can answers = absurd (fine.sink (answers.write_fault refl))
    accept-answered statuses.VaultFault can answers = absurd can
    accept-answered (statuses.BadScript line cause) can answers = said-so (statuses.BadScript line cause) answers tt
    accept-answered (statuses.BadBundle offset) can answers = absurd can
    accept-answered (statuses.Refused verifier index refusal) can answers = absurd can
    accept-answered (statuses.Unbalanced epoch added evicted) can answers = absurd can
    accept-answered (statuses.ClockEnd worker at) can answers = absurd can
    accept-answered statuses.NotTagged can answers = said-so statuses.NotTagged answers tt
    accept-answered statuses.NotCertified can answers = said-so statuses.NotCertified answers tt
    accept-answered statuses.Exhibit can answers = absurd can
    accept-answered (statuses.InputLimit taken) can answers =
        absurd (not_past most bytes reading.left reading.left_after had.bytes_are had.few (answers.limit taken refl).1)
    accept-answered statuses.BadSeal can answers = absurd can
    accept-answered (statuses.Stale sealed device) can answers = absurd can
    accept-answered statuses.CounterFault can answers = absurd can

    pub sign-answered : (result : Status) → IsSignStatus result → AnswersWhole answer most result reading writing
        → IsOrWantsMemory result (answer bytes).status
    sign-answered (statuses.Done epochs) can answers = accept-answered (statuses.Done epochs) can answers
    sign-answered statuses.Usage can answers = accept-answered statuses.Usage can answers
    sign-answered statuses.Memory can answers = accept-answered statuses.Memory can answers
    sign-answered statuses.ReadFault can answers = accept-answered statuses.ReadFault can answers
    sign-answered statuses.WriteFault can answers = accept-answered statuses.WriteFault can answers
    sign-answered statuses.VaultFault can answers = accept-answered statuses.VaultFault can answers
    sign-answered (statuses.BadScript line cause) can answers = accept-answered (statuses.BadScript line cause) can answers
    sign-answered (statuses.BadBundle offset) can answers = accept-answered (statuses.BadBundle offset) can answers
    sign-answered (statuses.Refused verifier index refusal) can answers = accept-answered (statuses.Refused verifier index refusal) can answers
    sign-answered (statuses.Unbalanced epoch added evicted) can answers = accept-answered (statuses.Unbalanced epoch added evicted) can answers
    sign-answered (statuses.ClockEnd worker at) can answers = accept-answered (statuses.ClockEnd worker at) can answers
    sign-answered statuses.NotTagged can answers = absurd can
    sign-answered statuses.NotCertified can answers = absurd can
    sign-answered statuses.Exhibit can answers = accept-answered statuses.Exhibit can answers
    sign-answered (statuses.InputLimit taken) can answers = accept-answered (statuses.InputLimit taken) can answers
    sign-answered statuses.BadSeal can answers = accept-answered statuses.BadSeal can answers
    sign-answered (statuses.Stale sealed device) can answers = accept-answered (statuses.Stale sealed device) can answers
    sign-answered statuses.CounterFault can answers = accept-answered statuses.CounterFault can answers

-- ---- a run and a load

-- a run whose events come to no clock's end has none
none-ends : (functions : DigestFunctions) (settings : Settings) (script : List (List Task)) (rounds : List Logs) (logs : Logs) (end : Option ClockEnd)
    → NoClockEnds functions settings script → AreOfRun functions settings script rounds logs end → end ≡ None
none-ends functions settings script rounds logs None going run = refl
none-ends functions settings script rounds logs (Some end) going run = absurd (going rounds logs end run)

-- so it is done, with all its phases
done-by : (functions : DigestFunctions) (settings : Settings) (script : List (List Task)) (rounds : List Logs) (logs : Logs) (end : Option ClockEnd)
    (result : RunEnd) → NoClockEnds functions settings script → AreOfRun functions settings script rounds logs end → result ≡ end_by (length script) end
    → status_at result ≡ statuses.Done (length script)
done-by functions settings script rounds logs end result going run is =
    ap status_at is ∙ ap (λ (e : Option ClockEnd). status_at (end_by (length script) e)) (none-ends functions settings script rounds logs end going run)

-- bytes are one script
one-script : {E : Type 0} (read : Result (List (List Task)) E) (script own : List (List Task)) → read ≡ Ok script → read ≡ Ok own → own ≡ script
one-script read script own is also = cc

module _ (functions : DigestFunctions) (run : RunWords) (most : ℕ) (bytes : List ℕ) (script : List (List Task)) (reading : Reading) (writing : Writing)
    (keeping : Keeping) (counting : Counting) (fine : NoneFailed reading writing keeping counting) (had : Had most bytes reading)
    (good : script_of (header_for run.numbers) bytes ≡ Ok script) (going : NoClockEnds functions (settings_for run.numbers) script) where
  run-done : (result : Status) → RunsTo functions run most result reading writing keeping → IsEnd result → IsOrWantsMemory result (statuses.Done (length script))
  run-done result runs end =
      let served = runs.served end in
      let own : served.script ≡ script = one-script (script_of (header_for run.numbers) bytes) script served.script good
      (of_bytes (λ b. script_of (header_for run.numbers) b ≡ Ok served.script) reading.left bytes had.bytes_are served.read.good) in
      let own_going : NoClockEnds functions (settings_for run.numbers) served.script =
      subst (NoClockEnds functions (settings_for run.numbers)) (sym own) going in
      inl (served.is ∙ done-by functions (settings_for run.numbers) served.script served.served.rounds served.served.logs served.served.end served.end own_going
      served.served.run served.served.is ∙ ap (λ (s : List (List Task)). statuses.Done (length s)) own)

  pub run-answered : (result : Status) → IsRunStatus result → RunsTo functions run most result reading writing keeping
      → IsOrWantsMemory result (statuses.Done (length script))
  run-answered (statuses.Done epochs) can runs = run-done (statuses.Done epochs) runs tt
  run-answered statuses.Usage can runs = absurd can
  run-answered statuses.Memory can runs = inr refl
  run-answered statuses.ReadFault can runs = absurd (fine.source (runs.read_fault refl))
  run-answered statuses.WriteFault can runs = absurd (fine.sink (runs.write_fault refl))
  run-answered statuses.VaultFault can runs = absurd (fine.vault (runs.vault_fault refl))
  run-answered (statuses.BadScript line cause) can runs =
      let bad = of_bytes (λ b. script_of (header_for run.numbers) b ≡ Err (record { line = line; cause = cause })) reading.left bytes had.bytes_are
      (runs.bad line cause refl).bad in
      absurd (cc)
  run-answered (statuses.BadBundle offset) can runs = absurd can
  run-answered (statuses.Refused verifier index refusal) can runs = absurd can
  run-answered (statuses.Unbalanced epoch added evicted) can runs = absurd can
  run-answered (statuses.ClockEnd worker at) can runs = run-done (statuses.ClockEnd worker at) runs tt
  run-answered statuses.NotTagged can runs = absurd can
  run-answered statuses.NotCertified can runs = absurd can
  run-answered statuses.Exhibit can runs = absurd can
  run-answered (statuses.InputLimit taken) can runs =
      absurd (not_past most bytes reading.left reading.left_after had.bytes_are had.few (runs.limit taken refl).1)
  run-answered statuses.BadSeal can runs = absurd can
  run-answered (statuses.Stale sealed device) can runs = absurd can
  run-answered statuses.CounterFault can runs = absurd can

module _ (functions : DigestFunctions) (words : GenWords) (reading : Reading) (writing : Writing) (keeping : Keeping) (counting : Counting)
    (fine : NoneFailed reading writing keeping counting) (going : NoClockEnds functions (settings_for words.numbers) (script_for words)) where
  gen-done : (result : Status) → GensTo functions words result writing keeping → IsEnd result
      → IsOrWantsMemory result (statuses.Done (length (script_for words)))
  gen-done result gens end =
      let summed = gens.summed end in
      inl (summed.is ∙ done-by functions (settings_for words.numbers) (script_for words) summed.summed.rounds summed.summed.logs summed.summed.end summed.end going
      summed.summed.run summed.summed.is)

  pub gen-answered : (result : Status) → IsGenStatus result → GensTo functions words result writing keeping
      → IsOrWantsMemory result (statuses.Done (length (script_for words)))
  gen-answered (statuses.Done epochs) can gens = gen-done (statuses.Done epochs) gens tt
  gen-answered statuses.Usage can gens = absurd can
  gen-answered statuses.Memory can gens = inr refl
  gen-answered statuses.ReadFault can gens = absurd can
  gen-answered statuses.WriteFault can gens = absurd (fine.sink (gens.write_fault refl))
  gen-answered statuses.VaultFault can gens = absurd (fine.vault (gens.vault_fault refl))
  gen-answered (statuses.BadScript line cause) can gens = absurd can
  gen-answered (statuses.BadBundle offset) can gens = absurd can
  gen-answered (statuses.Refused verifier index refusal) can gens = absurd can
  gen-answered (statuses.Unbalanced epoch added evicted) can gens = absurd can
  gen-answered (statuses.ClockEnd worker at) can gens = gen-done (statuses.ClockEnd worker at) gens tt
  gen-answered statuses.NotTagged can gens = absurd can
  gen-answered statuses.NotCertified can gens = absurd can
  gen-answered statuses.Exhibit can gens = absurd can
  gen-answered (statuses.InputLimit taken) can gens = absurd can
  gen-answered statuses.BadSeal can gens = absurd can
  gen-answered (statuses.Stale sealed device) can gens = absurd can
  gen-answered statuses.CounterFault can gens = absurd can
