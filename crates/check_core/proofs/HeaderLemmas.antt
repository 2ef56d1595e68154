-- How a check begins: what has come once a header was read, and how it ends where none is good.
use Rattle.std.proofs.Common.{◌≡◌, ℕ, ◌+◌, ◌-◌, ◌≤◌, List, [], take, Option, Some, None, IfSome, Result, Ok, refl, sym, ◌∙◌, ap, subst, arith}
use Rattle.std.specs.Prelude.{IsSomeAnd, map}
use Rattle.std.specs.List.{fold}
use Rattle.fv_outside.specs.Consumed.{StopsAtEnd, TookToEnd}
use Rattle.fv_outside.specs.Written.{Grows}
use Rattle.fv_outside.proofs.WrittenLaws.{Grows-same}
use Rattle.record_hash.specs.Functions.{DigestFunctions}
use Rattle.lamport_clocks.specs.declared.header.Header.{Header}
use Rattle.lamport_clocks.specs.Header.{IsHeader}
use Rattle.record_text.specs.declared.operation.Operation.{Operation}
use Rattle.merkle_records.specs.Scheme.{scheme_of}
use Rattle.bundle_frames.specs.declared.coming.Next.{Next}
use Rattle.bundle_frames.specs.declared.coming.Next.TheVariants.{Head, Frame}
use Rattle.fv_outside.specs.declared.failure.Failure.{Failure}
use Rattle.bundle_frames.specs.Bundle.{IsFrame}
use Rattle.bundle_frames.specs.Extent.{reading_end}
use Rattle.bundle_frames.specs.Reading.{Reading, opening_reading, ahead, end_ahead, next_then, header_then, HasRead, ReadsAs}
use Rattle.bundle_frames.proofs.ReadingLaws.{HasRead-none, ReadsAs-none, ReadsAs-then, ReadsAs-kept, ReadsAs-map, ReadsAs-back, TookAtMost-from_read, end_opening}
use Rattle.report_text.specs.declared.status.Status.TheVariants as statuses
use Rattle.report_text.specs.Answer.{Answer, Writing, AnswersTo}
use Rattle.bundle_report.specs.Logs.{log_count, empty_logs, logs_then}
use Rattle.bundle_report.specs.Logged.{Logged, behind, logged_of}
use Rattle.bundle_report.specs.declared.judged.Judged.{Judged}
use Rattle.bundle_report.specs.Judged.{none_judged}
use Rattle.bundle_report.specs.Report.{operations_told}
use Rattle.bundle_report.specs.SoFar.{HaveRead, opening_runs}
use Rattle.bundle_report.proofs.DueLaws.{taken-none}
use Rattle.certified_epochs.specs.declared.fed_run.FedRun.{FedRun}
use Rattle.check_core.specs.Asked.{Asked, asked_none, asked_at, asked_by, asked_answer}
use Rattle.check_core.specs.Intake.{behind_at}
use Rattle.check_core.specs.Stream.{HasCome, AreChecked, asked_behind, lines_counted}
use Rattle.report_text.proofs.AnsweringLaws.{answers-end}
use Rattle.check_core.proofs.MeaningLemmas.{opening_joined, reads_next}
use Rattle.check_core.proofs.StreamLemmas.{reads_taken}

-- before anything is read
pub come_none : (limit : ℕ) (left : Option (List ℕ)) (faults : ℕ) (reading : Reading) → reading ≡ opening_reading limit → HasCome left faults 0 [] reading left faults
come_none limit left faults reading is =
    let none = ap (λ (r : Reading). r.taken) is in
    record {
      having_read = HasRead-none _ _ none;
      means = ReadsAs-none _ _ _ _ none (λ more. opening_joined limit [] reading more refl is);
      extent = ReadsAs-none _ _ _ _ none (λ more. end_opening limit more ∙ ap (λ (r : Reading). end_ahead r more) (sym is));
      near = λ some. absurd (omega (arith, some, none));
      never_falls = omega arith;
    }

module _ (limit : ℕ) (left : Option (List ℕ)) (faults : ℕ) (old new : Reading) (opening : old ≡ opening_reading limit) (rises : old.taken ≤ new.taken) where
  sum : new.taken ≡ old.taken + (new.taken - old.taken)
  sum = omega (arith, rises)

  come : HasCome left faults 0 [] old left faults
  come = come_none limit left faults old opening

  -- a header came: there is a log of no bytes for each verifier
  pub means_header : (next : Next) (header : Header) → next ≡ Head header
      → ReadsAs (new.taken - old.taken) left (ahead old) (λ more. next_then (Ok next) new.progress.body (ahead new more))
      → new.progress.header ≡ header_then (Ok next) old.progress.header
      → ((verifier : ℕ) → next ≡ Frame verifier → IsSomeAnd old.progress.header (λ h. IsFrame h.verifiers (record { verifier = verifier; body = new.progress.body })))
      → ReadsAs new.taken left logged_of (behind_at (empty_logs header.verifiers) new)
  means_header next header is reads known frame =
      let none = ap (λ (r : Reading). r.progress.header) opening in
      ReadsAs-then _ _ _ _ _ _ _ _ come.having_read come.means
      (reads_next _ _ [] (empty_logs header.verifiers) old new next new.progress.body reads known (λ h head. none) frame
      (sym (ap log_count none)) (sym (ap (λ (n : Next). logs_then n new.progress.body []) is))) sum

  -- none came
  pub means_none : (result : Result Next Failure) → ((rest : _) → next_then result new.progress.body rest ≡ rest)
      → ReadsAs (new.taken - old.taken) left (ahead old) (λ more. next_then result new.progress.body (ahead new more))
      → new.progress.header ≡ old.progress.header
      → ReadsAs new.taken left logged_of (behind_at [] new)
  means_none result same reads known =
      ReadsAs-then _ _ _ _ _ _ _ _ come.having_read come.means
      (ReadsAs-kept _ _ (behind_at [] old) (λ more. behind old.progress.header [] (next_then result new.progress.body (ahead new more))) (behind_at [] new)
      (ReadsAs-map (behind old.progress.header []) _ _ (ahead old) (λ more. next_then result new.progress.body (ahead new more)) reads)
      (λ more. ap (behind old.progress.header []) (same (ahead new more)) ∙ ap (λ (h : Option Header). behind h [] (ahead new more)) (sym known))) sum

-- a bundle with no good header
none_answer : (asked : Asked) (functions : DigestFunctions) (logged : Logged) → logged.header ≡ None → asked_by asked functions logged ≡ asked_none asked
none_answer asked functions logged is = ap (λ (h : Option Header). asked_at asked functions h logged.logs logged.bad) is

module _ (asked : Asked) (functions : DigestFunctions) (limit : ℕ) (left left_then : Option (List ℕ)) (faults faults_then : ℕ) (new : Reading)
    (means : ReadsAs new.taken left logged_of (behind_at [] new)) (none : (ahead new []).header ≡ None) (writing : Writing) where
  -- nothing is due by what was taken
  pub due_none : writing.held_after ≡ writing.held
      → IfSome left (λ bytes. Grows writing.held writing.held_after (asked_answer asked functions (take new.taken bytes)).due)
  due_none same =
      reads_taken (λ (logged : Logged). Grows writing.held writing.held_after (asked_by asked functions logged).due) new.taken left logged_of (behind_at [] new) means
      (subst (λ (answer : Answer). Grows writing.held writing.held_after answer.due) (sym (none_answer asked functions (behind_at [] new []) none))
      (Grows-same writing.held writing.held_after same))

  -- what holds of the answer holds at the end
  at_end : (P : Answer → Type 0) (x : Option (List ℕ)) → IfSome x (λ rest. ahead new rest ≡ ahead new []) → P (asked_none asked)
      → IfSome x (λ rest. P (asked_by asked functions (behind_at [] new rest)))
  at_end P None same holds = tt
  at_end P (Some rest) same holds =
      subst P (sym (none_answer asked functions (behind_at [] new rest) (ap (λ b. b.header) same ∙ none))) holds

  -- the report is its last line
  pub bad_answers : Grows writing.held writing.held_after (asked.last (statuses.BadBundle 0))
      → HasRead new.taken left left_then → new.taken ≤ limit
      → IfSome left_then (λ rest. ahead new rest ≡ ahead new [])
      → TookToEnd reading_end left left_then → StopsAtEnd reading_end left left_then
      → AnswersTo (asked_answer asked functions) reading_end limit (statuses.BadBundle 0)
      (record { left = left; left_after = left_then; faults = faults; faults_after = faults_then }) writing
  bad_answers line having_read within ends reached stops =
      answers-end (asked_answer asked functions) reading_end limit _ writing (statuses.BadBundle 0) tt
      (ReadsAs-back (λ (logged : Logged). statuses.BadBundle 0 ≡ (asked_by asked functions logged).status) new.taken left left_then logged_of (behind_at [] new) having_read means
      (at_end (λ (answer : Answer). statuses.BadBundle 0 ≡ answer.status) left_then ends refl))
      (ReadsAs-back (λ (logged : Logged). Grows writing.held writing.held_after (asked_by asked functions logged).text) new.taken left left_then logged_of (behind_at [] new) having_read means
      (at_end (λ (answer : Answer). Grows writing.held writing.held_after answer.text) left_then ends line))
      (TookAtMost-from_read new.taken limit left left_then having_read within) reached stops

-- ---- the runs, before they take anything

-- they have taken logs of no bytes
pub opened_runs : (functions : DigestFunctions) (header : Header) (so_far : Judged) (runs : List FedRun) → IsHeader header → so_far ≡ none_judged
    → map (λ fed. fed.run) runs ≡ opening_runs header 0 header.verifiers → AreChecked functions header (empty_logs header.verifiers) so_far runs
opened_runs functions header so_far runs good none opening =
    subst (λ (j : Judged). AreChecked functions header (empty_logs header.verifiers) j runs) (sym none)
    (subst (HaveRead (scheme_of functions header) header (empty_logs header.verifiers) none_judged) (sym opening) (taken-none (scheme_of functions header) header good))

-- of an answer nothing stands elsewhere
pub behind_none : (asked : Asked) (functions : DigestFunctions) (header : Header) (logs : List (List ℕ)) (so_far : Judged) → so_far ≡ none_judged
    → asked_behind asked functions header logs so_far ≡ asked_answer asked functions
behind_none asked functions header logs so_far none = ap (asked_behind asked functions header logs) none

-- and nothing is counted
pub made_none : {S : Type 0} (step : S → Operation → S) (start : S) (functions : DigestFunctions) (header : Header) (logs : List (List ℕ)) (so_far : Judged) → so_far ≡ none_judged
    → start ≡ fold step start (lines_counted operations_told functions header logs so_far)
made_none step start functions header logs so_far none =
    sym (ap (λ (j : Judged). fold step start (lines_counted operations_told functions header logs j)) none)
