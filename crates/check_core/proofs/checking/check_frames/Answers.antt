use Rattle.std.proofs.Common.{◌≡◌, ℕ, ◌≤◌, List, map, Option, Result, Ok, Err, refl, sym, ◌∙◌, ap, subst, arith}
use Rattle.std.specs.Prelude.{IsErrAnd}
use Rattle.std.proofs.lemmas.List.{with_items_is}
use Rattle.fv_outside.specs.Written.{GrowsByFront}
use Rattle.fv_outside.specs.declared.failure.Failure.{Failure}
use Rattle.fv_outside.specs.declared.failure.Failure.TheVariants as failures
use Rattle.fv_outside.proofs.WrittenLaws.{GrowsByFront-none}
use Rattle.record_hash.specs.Functions.{DigestFunctions}
use Rattle.lamport_clocks.specs.declared.header.Header.{Header}
use Rattle.merkle_records.specs.Scheme.{scheme_of}
use Rattle.bundle_frames.specs.Reading.{Reading as Reader}
use Rattle.bundle_frames.specs.Extent.{reading_end}
use Rattle.report_text.specs.declared.status.Status.{Status}
use Rattle.report_text.specs.declared.ending.BundleEnd.{BundleEnd}
use Rattle.report_text.specs.declared.ending.BundleEnd.TheVariants as bundles
use Rattle.report_text.specs.Ending.{status_of}
use Rattle.report_text.specs.Answer.{Reading, Writing, AnswersNear, AnswersTo}
use Rattle.bundle_report.specs.declared.judged.Judged.{Judged}
use Rattle.bundle_report.specs.Logs.{empty_logs}
use Rattle.bundle_report.specs.Judged.{none_judged}
use Rattle.certified_epochs.specs.declared.fed_run.FedRun.{FedRun}
use Rattle.certified_epochs.proofs.CanCertifyLaws.{can_certify-read}
use Rattle.check_core.specs.declared.checked.Checked.{Checked}
use Rattle.check_core.specs.declared.checked.Checked.TheVariants.{Done, Ended}
use Rattle.check_core.specs.declared.checked.DoneBundle.{DoneBundle}
use Rattle.check_core.specs.Asked.{Asked, unended, asked_by, asked_answer}
use Rattle.check_core.specs.Checked.{checked_status}
use Rattle.check_core.specs.Intake.{behind_at}
use Rattle.check_core.specs.Outcomes.{check_status}
use Rattle.check_core.specs.Stream.{HasCome, IsReadWhole, asked_behind}
use Rattle.check_core.specs.Told.{asked_for}
use Rattle.check_core.proofs.StreamLemmas.{runs_headers, opening_weights}
use Rattle.check_core.proofs.EndingLemmas.{stops_more, memory_answers}
use Rattle.check_core.proofs.HeaderLemmas.{opened_runs, behind_none, made_none}
use Rattle.check_core.proofs.checking.check_frames.Goals as goal

-- the error that a call hands on
handed_on : (r : Result Checked Failure) (stop : Failure) → IsErrAnd r (λ error. error ≡ stop) → r ≡ Err stop
handed_on (Ok checked) stop is = absurd is
handed_on (Err error) stop is = ap Err is

-- want of memory before a batch is read
memory_before : (asked : Asked) (functions : DigestFunctions) (verifiers : ℕ) (reader : Reader) (left_now : Option (List ℕ)) (faults_now : ℕ) (wrote : Writing)
    (result : Result Checked Failure) → IsErrAnd result (λ error. error ≡ failures.Memory) → reader.taken ≤ reader.limit → wrote.held ≡ wrote.held_after
    → (left : Option (List ℕ)) (faults : ℕ) → HasCome left faults 0 (empty_logs verifiers) reader left_now faults_now
    → AnswersTo (asked_answer asked functions) reading_end reader.limit (checked_status reader.limit result)
    (record { left = left; left_after = left_now; faults = faults; faults_after = faults_now }) wrote
memory_before asked functions verifiers reader left_now faults_now wrote result is within same left faults come =
    let read : Reading = record { left = left; left_after = left_now; faults = faults; faults_after = faults_now } in
    subst (λ (r : Result Checked Failure). AnswersTo (asked_answer asked functions) reading_end reader.limit (checked_status reader.limit r) read wrote)
    (sym (handed_on result failures.Memory is))
    (memory_answers 0 0 asked functions reader.limit reader.taken reader.taken left _ faults _ (empty_logs verifiers) reader wrote
    come.means (omega arith) come.having_read within (stops_more 0 _ _ _ reading_end come.having_read come.near)
    (λ rest. subst (λ (after : Option (List ℕ)). GrowsByFront wrote.held after (asked_by asked functions (behind_at (empty_logs verifiers) reader rest)).due) same
    (GrowsByFront-none wrote.held (asked_by asked functions (behind_at (empty_logs verifiers) reader rest)).due)))

-- what is answered from the header on, as a status
answered : (asked : Asked) (functions : DigestFunctions) (header : Header) (so_far : Judged) (limit : ℕ) (result : Result BundleEnd Failure) (status : Status)
    (read : Reading) (wrote : Writing) → so_far ≡ none_judged → check_status limit result ≡ status
    → AnswersNear 0 (asked_behind asked functions header (empty_logs header.verifiers) so_far) reading_end limit (check_status limit result) read wrote
    → AnswersTo (asked_answer asked functions) reading_end limit status read wrote
answered asked functions header so_far limit result status read wrote none is answers =
    subst (λ (answer : _). AnswersTo answer reading_end limit status read wrote) (behind_none asked functions header (empty_logs header.verifiers) so_far none)
    (subst (λ (s : Status). AnswersNear 0 (asked_behind asked functions header (empty_logs header.verifiers) so_far) reading_end limit s read wrote) is answers)

-- the bundle of a check that is done
abbrev bundle_in : DoneBundle → Result Checked Failure → DoneBundle
bundle_in other (Ok (Done done)) = done
bundle_in other (Ok (Ended end)) = other
bundle_in other (Err failure) = other

pub returns-in_err-runs-clause-answers : goal.returns-in_err-runs-clause-answers
returns-in_err-runs-clause-answers g c =
    memory_before (unended (asked_for c.args.told.now (g.D.Digests.functions c.args.d.now) (g.F.WrittenFold.text_behind c.args.folded.now)))
    (g.D.Digests.functions c.args.d.now) c.args.header.now.verifiers c.args.reader.now _ _ _
    c.from_residual.result c.from_residual.ensures.1 c.requires.within refl

pub go_on-requires-clause-headers : goal.go_on-requires-clause-headers
go_on-requires-clause-headers g c κs within =
    let functions = g.D.Digests.functions c.args.d.now in
    let header = c.args.header.now in
    runs_headers functions header (empty_logs header.verifiers) c.new-certifier.result c.deref_mut.result.now
    (opened_runs functions header c.new-certifier.result c.deref_mut.result.now c.requires.header c.new-certifier.ensures.none
    (ap (map (λ fed. fed.run)) c.deref_mut.ensures.value ∙ c.in_ok-runs.ensures.opening))

pub go_on-requires-clause-weights : goal.go_on-requires-clause-weights
go_on-requires-clause-weights g c κs within =
    opening_weights c.args.header.now c.args.reader.now.progress.offset c.deref_mut.result.now
    (ap (map (λ fed. fed.run)) c.deref_mut.ensures.value ∙ c.in_ok-runs.ensures.opening)

pub go_on-requires-clause-can : goal.go_on-requires-clause-can
go_on-requires-clause-can g c κs within =
    let functions = g.D.Digests.functions c.args.d.now in
    let header = c.args.header.now in
    can_certify-read (scheme_of functions header) header (empty_logs header.verifiers) c.new-certifier.result (map (λ fed. fed.run) c.deref_mut.result.now)
    (opened_runs functions header c.new-certifier.result c.deref_mut.result.now c.requires.header c.new-certifier.ensures.none
    (ap (map (λ fed. fed.run)) c.deref_mut.ensures.value ∙ c.in_ok-runs.ensures.opening))

pub returns-in_err-end-clause-answers : goal.returns-in_err-end-clause-answers
returns-in_err-end-clause-answers g c = λ left faults come.
    let functions = g.D.Digests.functions c.args.d.now in
    let asked : Asked = unended (asked_for c.args.told.now functions (g.F.WrittenFold.text_behind c.args.folded.now)) in
    let header = c.args.header.now in
    let limit = c.args.reader.now.limit in
    answered asked functions header c.new-certifier.result limit c.go_on.result (checked_status limit c.from_residual-in_err-end.result) _ _ c.new-certifier.ensures.none
    (ap (check_status limit) c.in_err-end.was
    ∙ sym (ap (checked_status limit) (handed_on c.from_residual-in_err-end.result c.in_err-end.field-0.0 c.from_residual-in_err-end.ensures.1)))
    (c.go_on.ensures.answers left faults 0 (empty_logs header.verifiers) c.args.folded.now come
    (opened_runs functions header c.new-certifier.result c.deref_mut.result.now c.requires.header c.new-certifier.ensures.none
    (ap (map (λ fed. fed.run)) c.deref_mut.ensures.value ∙ c.in_ok-runs.ensures.opening))
    (made_none g.F.OperationFold.step (g.F.OperationFold.state c.args.folded.now) functions header (empty_logs header.verifiers) c.new-certifier.result c.new-certifier.ensures.none))

pub returns-in-Done-clause-answers : goal.returns-in-Done-clause-answers
returns-in-Done-clause-answers g c = λ left faults come.
    let functions = g.D.Digests.functions c.args.d.now in
    let asked : Asked = unended (asked_for c.args.told.now functions (g.F.WrittenFold.text_behind c.args.folded.now)) in
    let header = c.args.header.now in
    let limit = c.args.reader.now.limit in
    answered asked functions header c.new-certifier.result limit c.go_on.result (status_of (bundles.Done c.in-Done.epochs)) _ _ c.new-certifier.ensures.none
    (ap (check_status limit) c.in_ok-end.was ∙ ap status_of c.in-Done.is)
    (c.go_on.ensures.answers left faults 0 (empty_logs header.verifiers) c.args.folded.now come
    (opened_runs functions header c.new-certifier.result c.deref_mut.result.now c.requires.header c.new-certifier.ensures.none
    (ap (map (λ fed. fed.run)) c.deref_mut.ensures.value ∙ c.in_ok-runs.ensures.opening))
    (made_none g.F.OperationFold.step (g.F.OperationFold.state c.args.folded.now) functions header (empty_logs header.verifiers) c.new-certifier.result c.new-certifier.ensures.none))

pub returns-in-BadBundle-clause-answers : goal.returns-in-BadBundle-clause-answers
returns-in-BadBundle-clause-answers g c = λ left faults come.
    let functions = g.D.Digests.functions c.args.d.now in
    let asked : Asked = unended (asked_for c.args.told.now functions (g.F.WrittenFold.text_behind c.args.folded.now)) in
    let header = c.args.header.now in
    let limit = c.args.reader.now.limit in
    answered asked functions header c.new-certifier.result limit c.go_on.result (status_of c.in_ok-end.end) _ _ c.new-certifier.ensures.none
    (ap (check_status limit) c.in_ok-end.was)
    (c.go_on.ensures.answers left faults 0 (empty_logs header.verifiers) c.args.folded.now come
    (opened_runs functions header c.new-certifier.result c.deref_mut.result.now c.requires.header c.new-certifier.ensures.none
    (ap (map (λ fed. fed.run)) c.deref_mut.ensures.value ∙ c.in_ok-runs.ensures.opening))
    (made_none g.F.OperationFold.step (g.F.OperationFold.state c.args.folded.now) functions header (empty_logs header.verifiers) c.new-certifier.result c.new-certifier.ensures.none))

pub returns-in-Refused-clause-answers : goal.returns-in-Refused-clause-answers
returns-in-Refused-clause-answers g c = λ left faults come.
    let functions = g.D.Digests.functions c.args.d.now in
    let asked : Asked = unended (asked_for c.args.told.now functions (g.F.WrittenFold.text_behind c.args.folded.now)) in
    let header = c.args.header.now in
    let limit = c.args.reader.now.limit in
    answered asked functions header c.new-certifier.result limit c.go_on.result (status_of c.in_ok-end.end) _ _ c.new-certifier.ensures.none
    (ap (check_status limit) c.in_ok-end.was)
    (c.go_on.ensures.answers left faults 0 (empty_logs header.verifiers) c.args.folded.now come
    (opened_runs functions header c.new-certifier.result c.deref_mut.result.now c.requires.header c.new-certifier.ensures.none
    (ap (map (λ fed. fed.run)) c.deref_mut.ensures.value ∙ c.in_ok-runs.ensures.opening))
    (made_none g.F.OperationFold.step (g.F.OperationFold.state c.args.folded.now) functions header (empty_logs header.verifiers) c.new-certifier.result c.new-certifier.ensures.none))

pub returns-in-Unbalanced-clause-answers : goal.returns-in-Unbalanced-clause-answers
returns-in-Unbalanced-clause-answers g c = λ left faults come.
    let functions = g.D.Digests.functions c.args.d.now in
    let asked : Asked = unended (asked_for c.args.told.now functions (g.F.WrittenFold.text_behind c.args.folded.now)) in
    let header = c.args.header.now in
    let limit = c.args.reader.now.limit in
    answered asked functions header c.new-certifier.result limit c.go_on.result (status_of c.in_ok-end.end) _ _ c.new-certifier.ensures.none
    (ap (check_status limit) c.in_ok-end.was)
    (c.go_on.ensures.answers left faults 0 (empty_logs header.verifiers) c.args.folded.now come
    (opened_runs functions header c.new-certifier.result c.deref_mut.result.now c.requires.header c.new-certifier.ensures.none
    (ap (map (λ fed. fed.run)) c.deref_mut.ensures.value ∙ c.in_ok-runs.ensures.opening))
    (made_none g.F.OperationFold.step (g.F.OperationFold.state c.args.folded.now) functions header (empty_logs header.verifiers) c.new-certifier.result c.new-certifier.ensures.none))

pub returns-in-Done-clause-done : goal.returns-in-Done-clause-done
returns-in-Done-clause-done g c = λ left faults done come is.
    let functions = g.D.Digests.functions c.args.d.now in
    let header = c.args.header.now in
    subst (λ (d : DoneBundle). IsReadWhole functions d.header left d.taken d.epochs d.runs.items) (ap (bundle_in done) is)
    (subst (λ (runs : List FedRun). IsReadWhole functions header left c.taken.result c.in-Done.epochs runs)
    (sym (with_items_is c.in_ok-runs.runs c.go_on.new.runs (c.go_on.auto.runs ∙ c.deref_mut.ensures.len)))
    (subst (λ (taken : ℕ). IsReadWhole functions header left taken c.in-Done.epochs c.go_on.new.runs) (sym c.taken.ensures.value)
    (c.go_on.ensures.done left faults 0 (empty_logs header.verifiers) c.in-Done.epochs come
    (opened_runs functions header c.new-certifier.result c.deref_mut.result.now c.requires.header c.new-certifier.ensures.none
    (ap (map (λ fed. fed.run)) c.deref_mut.ensures.value ∙ c.in_ok-runs.ensures.opening))
    (c.in_ok-end.was ∙ ap Ok c.in-Done.is))))
