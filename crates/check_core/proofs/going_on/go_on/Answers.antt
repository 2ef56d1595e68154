use Rattle.std.proofs.Common.{◌≡◌, Option, ◌+◌, ◌-◌, ◌≤◌, ℕ, map, length, drop, Some, None, Result, Ok, Err, OnOk, OnErr, true, false, refl, sym, ◌∙◌, ap, subst, ⊎_elim, arith}
use Rattle.std.specs.Result.{is_err}
use Rattle.std.proofs.lemmas.Bool.{false≢true}
use Rattle.std.specs.Prelude.{IsErrAnd}
use Rattle.std.specs.List.{fold}
use Rattle.base_words.specs.declared.memory.Memory.{Memory}
use Rattle.fv_outside.specs.Written.{Grows, GrowsByFront}
use Rattle.merkle_records.specs.Scheme.{scheme_of}
use Rattle.fv_outside.specs.declared.failure.Failure.{Failure}
use Rattle.fv_outside.specs.declared.failure.Failure.TheVariants as failures
use Rattle.fv_outside.specs.declared.failure.Failure.TheVariants.{ReadFault, InputLimit}
use Rattle.bundle_frames.specs.Extent.{reading_end}
use Rattle.bundle_frames.specs.Reading.{end_ahead}
use Rattle.bundle_frames.proofs.ReadingLaws.{HasRead-none, HasRead-then, ReadsAs-back, TookAtMost-from_read, TookJust-from_read, took_to_end}
use Rattle.report_text.specs.declared.ending.BundleEnd.{BundleEnd}
use Rattle.report_text.specs.declared.ending.BundleEnd.TheVariants.{Done}
use Rattle.record_text.specs.Format.{format_of}
use Rattle.log_codec.specs.Log.{read_log}
use Rattle.bundle_report.specs.BundleReport.{end_of, histories_at}
use Rattle.report_text.specs.Ending.{status_of}
use Rattle.report_text.specs.Answer.{Reading, Writing, AnswersNear}
use Rattle.report_text.proofs.AnsweringLaws.{rose_before}
use Rattle.bundle_report.specs.Logs.{joined_from}
use Rattle.bundle_report.specs.Logged.{Logged, logged_of}
use Rattle.bundle_report.specs.Report.{EpochText, operations_told}
use Rattle.bundle_report.proofs.SoFarLaws.{taken-more}
use Rattle.certified_epochs.proofs.CanCertifyLaws.{can_certify-frames}
use Rattle.certified_epochs.specs.Telling.{text_by}
use Rattle.certified_epochs.specs.Turn.{CanCertify}
use Rattle.check_core.specs.declared.batch.Filled.{Filled}
use Rattle.check_core.specs.declared.batch.Filled.TheVariants.{Whole, End, Stopped}
use Rattle.check_core.specs.Asked.{Asked, unended}
use Rattle.check_core.specs.Batch.{bytes_of}
use Rattle.check_core.specs.Intake.{behind_at}
use Rattle.check_core.specs.Outcomes.{check_status}
use Rattle.check_core.specs.Stream.{lines_counted, lines_due, ReadsWithin}
use Rattle.check_core.specs.Told.{asked_for, told_text}
use Rattle.check_core.proofs.BatchLemmas.{in_ok, spent_at}
use Rattle.check_core.proofs.FeedingLemmas.{taken_by_all, weights_of_all, length_of_all}
use Rattle.check_core.proofs.MeaningLemmas.{joined_none, joined_end}
use Rattle.check_core.proofs.StreamLemmas.{same_left, counted_front, weights_more, frames_bytes, near-more, means-more, extent-more, come-more, read_checked, front_more, front_none, fed_or_not}
use Rattle.check_core.proofs.EndingLemmas.{answer_from, stops_more, memory_answers, ends_behind, took_batch, stop_answers, due_taken, cut_answers, end_answers, last_answers}
use Rattle.check_core.proofs.GoingOnLemmas.{HasTold, made_none, made_then, made_from, told_none, counted_all, counted_more, told_then, due_then, within_then, headers_same, weights_same, headers_read}
use Rattle.check_core.proofs.GoneOnLemmas.{took_past, took_batch_within, took_batch_just, took_batch_past, reads_ended, reads_memory, reads_write_fault, reads_read_fault, reads_limit, reads_stopped, text_behind, front_behind, done_by, judged_is, unbroken_runs, checked_ended, status_by, all_taken}
use Rattle.check_core.proofs.going_on.go_on.Goals as goal

-- what holds where there is an error, where there is one, and on success
err_holds : {T E : Type 0} (P : Type 0) (r : Result T E) → is_err r ≡ true → OnErr r P → P
err_holds P (Ok value) is holds = absurd (false≢true is)
err_holds P (Err error) is holds = holds

ok_holds : {T E : Type 0} (P : Type 0) (r : Result T E) → is_err r ≡ false → OnOk r P → P
ok_holds P (Ok value) is holds = holds
ok_holds P (Err error) is holds = absurd (false≢true (sym is))

-- the error that a call hands on
handed_on : (r : Result BundleEnd Failure) (stop : Failure) → IsErrAnd r (λ error. error ≡ stop) → r ≡ Err stop
handed_on (Ok end) stop is = absurd is
handed_on (Err error) stop is = ap Err is

-- where there was an answer, it is not one of these errors
no_stop : (r : Result Filled Memory) (error : Memory) → r ≡ Err error → r ≡ Ok (Stopped InputLimit) → ⊥
no_stop r error is stopped = cc

whole_no_stop : (r : Result Filled Memory) → r ≡ Ok Whole → r ≡ Ok (Stopped InputLimit) → ⊥
whole_no_stop r is stopped = cc

end_no_stop : (r : Result Filled Memory) → r ≡ Ok End → r ≡ Ok (Stopped InputLimit) → ⊥
end_no_stop r is stopped = cc

-- a batch that was read up to where reading stopped
abbrev stopped_at : Failure → Result Filled Memory
stopped_at stop = Ok (Stopped stop)

fault_no_limit : (r : Result Filled Memory) → r ≡ stopped_at ReadFault → r ≡ stopped_at InputLimit → ⊥
fault_no_limit r is stopped = cc

stopped_not_whole : (filled : Filled) (stop : Failure) → filled ≡ Stopped stop → filled ≡ Whole → ⊥
stopped_not_whole filled stop is whole = cc

end_not_whole : (filled : Filled) → filled ≡ End → filled ≡ Whole → ⊥
end_not_whole filled is whole = cc

pub batches-init : goal.batches-init
batches-init g c =
    let functions = g.D.Digests.functions c.args.d.now in
    let header = c.args.header.now in
    let held = g.O.Sink.held c.args.out.now in
    let tell = text_by g.D.Digests.functions c.telling-telling.result in
    record {
      logs_now = λ logs. logs;
      told = λ logs checked. told_none tell functions header logs c.args.certifier.now c.args.runs.now held checked;
      folded = λ logs checked.
          made_none g.F.OperationFold.step (g.F.OperationFold.state c.args.folded.now) (lines_counted operations_told functions header logs c.args.certifier.now);
      come = λ left faults more logs come. come;
      can = c.requires.can;
      headers = c.requires.headers;
      weights = c.requires.weights;
      few = c.requires.few;
      having_read = HasRead-none _ _ (omega arith);
      rises = omega arith;
      read_faults = omega arith;
      known = c.requires.known;
      due = c.requires.due;
      limit = refl;
      within = c.requires.within;
      split = c.requires.split;
      faults = omega arith;
    }

pub certify-requires-clause-can : goal.certify-requires-clause-can
certify-requires-clause-can g c κs within = λ fine.
    let functions = g.D.Digests.functions c.args.d.now in
    let header = c.args.header.now in
    let inv = c.batches.invariant in
    let passed = c.pass_batch.ensures.passed in
    let read = in_ok _ c.in_ok-filled.was passed.2 in
    subst (CanCertify c.batches.certifier) (sym (taken_by_all functions passed.0 0 header c.batches.runs c.pass_batch.new.runs read inv.headers fine).1)
    (can_certify-frames (scheme_of functions header) c.batches.certifier (map (λ fed. fed.run) c.batches.runs) passed.0 inv.can)

pub returns-in_err-filled-clause-reads : goal.returns-in_err-filled-clause-reads
returns-in_err-filled-clause-reads g c =
    let limit = c.args.reader.now.limit in
    let inv = c.batches.invariant in
    let passed = c.pass_batch.ensures.passed in
    let fill = passed.1 in
    let old = c.batches.reader in
    let new = c.pass_batch.new.reader in
    let frames = passed.0 in
    let left_then = g.S.Source.left c.pass_batch.new.source in
    let faults_then = g.S.Source.faults c.pass_batch.new.source in
    let same = fill.same_limit ∙ inv.limit in
    let own_read = fill.having_read (no_stop c.pass_batch.result c.in_err-filled.field-0.0 c.in_err-filled.was) in
    let reading : Reading = record {
      left = g.S.Source.left c.args.source.now;
      left_after = left_then;
      faults = g.S.Source.faults c.args.source.now;
      faults_after = faults_then;
    } in
    let wrote : Writing = record {
      held = g.O.Sink.held c.args.out.now;
      held_after = g.O.Sink.held c.batches.out;
      faults = g.O.Sink.faults c.args.out.now;
      faults_after = g.O.Sink.faults c.batches.out;
    } in
    subst (λ (r : Result BundleEnd Failure). ReadsWithin r c.args.reader.now.taken limit reading wrote)
    (sym (handed_on c.from_residual.result failures.Memory c.from_residual.ensures.1))
    (reads_memory c.args.reader.now.taken limit reading wrote (took_past _ _ _ _ (took_batch_within c.args.reader.now.taken limit (g.S.Source.left c.args.source.now) (g.S.Source.left c.batches.source) left_then old new inv.having_read inv.rises fill.rises fill.within same own_read)))

pub returns-in_err-filled-clause-answers : goal.returns-in_err-filled-clause-answers
returns-in_err-filled-clause-answers g c = λ left faults more logs begun come checked made.
    let functions = g.D.Digests.functions c.args.d.now in
    let header = c.args.header.now in
    let asked : Asked = unended (asked_for c.args.told.now functions (g.F.WrittenFold.text_behind begun)) in
    let limit = c.args.reader.now.limit in
    let inv = c.batches.invariant in
    let passed = c.pass_batch.ensures.passed in
    let fill = passed.1 in
    let old = c.batches.reader in
    let new = c.pass_batch.new.reader in
    let frames = passed.0 in
    let left_then = g.S.Source.left c.pass_batch.new.source in
    let faults_then = g.S.Source.faults c.pass_batch.new.source in
    let same = fill.same_limit ∙ inv.limit in
    let now = inv.come left faults more logs come in
    let own_read = fill.having_read (no_stop c.pass_batch.result c.in_err-filled.field-0.0 c.in_err-filled.was) in
    let sum : new.taken ≡ old.taken + (new.taken - old.taken) = omega (arith, fill.rises) in
    let having_read = HasRead-then _ _ _ _ _ _ now.having_read own_read sum in
    let logs_now = inv.logs_now logs in
    let own_tell = told_text c.args.told.now functions header in
    let count = length (lines_counted own_tell functions header logs c.args.certifier.now) in
    let told = subst (λ (t : EpochText). HasTold t functions header logs logs_now c.args.certifier.now c.batches.certifier c.batches.runs
    (g.O.Sink.held c.args.out.now) (g.O.Sink.held c.batches.out)) c.telling-telling.ensures.text (inv.told logs checked) in
    let reading : Reading = record {
      left = left;
      left_after = left_then;
      faults = faults;
      faults_after = faults_then;
    } in
    let wrote : Writing = record {
      held = g.O.Sink.held c.args.out.now;
      held_after = g.O.Sink.held c.batches.out;
      faults = g.O.Sink.faults c.args.out.now;
      faults_after = g.O.Sink.faults c.batches.out;
    } in
    subst (λ (r : Result BundleEnd Failure). AnswersNear more (answer_from count asked functions) reading_end limit (check_status limit r) reading wrote)
    (sym (handed_on c.from_residual.result failures.Memory c.from_residual.ensures.1))
    (memory_answers count more asked functions limit old.taken new.taken left left_then faults faults_then logs_now old wrote
    now.means fill.rises having_read (omega (arith, fill.within, same))
    (stops_more more _ _ _ reading_end having_read (near-more left _ faults _ more logs_now old new now fill.rises fill.near))
    (counted_front asked functions header logs_now old inv.known count c.batches.certifier c.batches.runs _ _ told.checked told.written))

pub returns-in_err-certify-clause-reads : goal.returns-in_err-certify-clause-reads
returns-in_err-certify-clause-reads g c =
    let limit = c.args.reader.now.limit in
    let inv = c.batches.invariant in
    let passed = c.pass_batch.ensures.passed in
    let fill = passed.1 in
    let old = c.batches.reader in
    let new = c.pass_batch.new.reader in
    let frames = passed.0 in
    let left_then = g.S.Source.left c.pass_batch.new.source in
    let faults_then = g.S.Source.faults c.pass_batch.new.source in
    let same = fill.same_limit ∙ inv.limit in
    let reading : Reading = record {
      left = g.S.Source.left c.args.source.now;
      left_after = left_then;
      faults = g.S.Source.faults c.args.source.now;
      faults_after = faults_then;
    } in
    let wrote : Writing = record {
      held = g.O.Sink.held c.args.out.now;
      held_after = g.O.Sink.held c.certify.new.out;
      faults = g.O.Sink.faults c.args.out.now;
      faults_after = g.O.Sink.faults c.certify.new.out;
    } in
    subst (λ (r : Result BundleEnd Failure). ReadsWithin r c.args.reader.now.taken limit reading wrote)
    (sym (handed_on c.from_residual-in_err-certify.result c.in_err-certify.field-0.0 c.from_residual-in_err-certify.ensures.1))
    (reads_stopped c.args.reader.now.taken limit reading wrote c.certify.result c.in_err-certify.field-0.0 c.in_err-certify.was c.certify.ensures.failure
    (took_batch_past c.args.reader.now.taken limit (g.S.Source.left c.args.source.now) (g.S.Source.left c.batches.source) left_then old new inv.having_read inv.rises fill.rises fill.within same
    c.pass_batch.result c.in_ok-filled.filled c.in_ok-filled.was fill.having_read fill.limit)
    (λ is. rose_before _ _ _ inv.faults (c.certify.ensures.write_fault (c.in_err-certify.was ∙ ap Err is))))

pub returns-in_err-certify-clause-answers : goal.returns-in_err-certify-clause-answers
returns-in_err-certify-clause-answers g c = λ left faults more logs begun come checked made.
    let functions = g.D.Digests.functions c.args.d.now in
    let header = c.args.header.now in
    let asked : Asked = unended (asked_for c.args.told.now functions (g.F.WrittenFold.text_behind begun)) in
    let limit = c.args.reader.now.limit in
    let inv = c.batches.invariant in
    let passed = c.pass_batch.ensures.passed in
    let fill = passed.1 in
    let old = c.batches.reader in
    let new = c.pass_batch.new.reader in
    let frames = passed.0 in
    let left_then = g.S.Source.left c.pass_batch.new.source in
    let faults_then = g.S.Source.faults c.pass_batch.new.source in
    let on = in_ok _ c.in_ok-filled.was fill.goes_on in
    let read = in_ok _ c.in_ok-filled.was passed.2 in
    let same = fill.same_limit ∙ inv.limit in
    let logs_now = inv.logs_now logs in
    let all = joined_from 0 logs_now frames in
    let told = inv.told logs checked in
    let now = inv.come left faults more logs come in
    let means = means-more left _ faults _ more logs_now old new now fill.rises header frames inv.known on in
    let own_tell = told_text c.args.told.now functions header in
    let count = length (lines_counted own_tell functions header logs c.args.certifier.now) in
    let tell = text_by g.D.Digests.functions c.telling-telling.result in
    let held = g.O.Sink.held c.args.out.now in
    let count_now = length (lines_counted tell functions header logs c.args.certifier.now) in
    let front = ⊎_elim
    (λ fine.
    let fed = read_checked functions header logs_now frames c.batches.certifier c.batches.runs c.pass_batch.new.runs told.checked read fine in
    front_more tell functions header logs_now frames c.batches.certifier c.batches.runs told.checked count_now c.pass_batch.new.runs held (g.O.Sink.held c.batches.out) (g.O.Sink.held c.certify.new.out)
    told.within fed told.written (c.in_err-certify.ensures.front (scheme_of functions header) header all fed))
    (λ starved.
    front_none tell functions header logs_now frames c.batches.certifier c.batches.runs told.checked count_now held (g.O.Sink.held c.batches.out) (g.O.Sink.held c.certify.new.out) told.written
    (ap g.O.Sink.held (c.certify.ensures.starved starved).1))
    (fed_or_not c.pass_batch.new.runs) in
    let reading : Reading = record {
      left = left;
      left_after = left_then;
      faults = faults;
      faults_after = faults_then;
    } in
    let wrote : Writing = record {
      held = g.O.Sink.held c.args.out.now;
      held_after = g.O.Sink.held c.certify.new.out;
      faults = g.O.Sink.faults c.args.out.now;
      faults_after = g.O.Sink.faults c.certify.new.out;
    } in
    subst (λ (r : Result BundleEnd Failure). AnswersNear more (answer_from count asked functions) reading_end limit (check_status limit r) reading wrote)
    (sym (handed_on c.from_residual-in_err-certify.result c.in_err-certify.field-0.0 c.from_residual-in_err-certify.ensures.1))
    (stop_answers count more asked functions header limit left left_then faults faults_then all new
    (on.header ∙ inv.known) means wrote c.certify.result c.in_err-certify.field-0.0 c.in_err-certify.was c.certify.ensures.failure
    (took_batch limit left _ _ faults _ more logs_now old new now fill.rises same fill.within fill.near
    c.pass_batch.result c.in_ok-filled.filled c.in_ok-filled.was fill.having_read fill.limit fill.full fill.beyond)
    c.requires.header (taken-more (scheme_of functions header) header logs_now c.batches.certifier _ frames told.checked).whole
    (subst (λ (t : EpochText). GrowsByFront held (g.O.Sink.held c.certify.new.out)
    (drop (length (lines_counted t functions header logs c.args.certifier.now)) (lines_due t functions header all))) c.telling-telling.ensures.text front)
    (λ is. rose_before _ _ _ inv.faults (c.certify.ensures.write_fault (c.in_err-certify.was ∙ ap Err is))))

pub batches-smaller : goal.batches-smaller
batches-smaller g c =
    let inv = c.batches.invariant in
    let passed = c.pass_batch.ensures.passed in
    let fill = passed.1 in
    let on = in_ok _ c.in_ok-filled.was fill.goes_on in
    let some = frames_bytes c.args.header.now.verifiers passed.0 (fill.ranges c.args.header.now inv.known) in
    let many = fill.whole (c.in_ok-filled.was ∙ ap Ok c.in-Whole.is) in
    omega (arith, on.bytes, some, many, fill.split, fill.within, fill.same_limit, inv.split, inv.within)

pub batches-preserved : goal.batches-preserved
batches-preserved g c =
    let functions = g.D.Digests.functions c.args.d.now in
    let header = c.args.header.now in
    let inv = c.batches.invariant in
    let passed = c.pass_batch.ensures.passed in
    let fill = passed.1 in
    let old = c.batches.reader in
    let new = c.pass_batch.new.reader in
    let frames = passed.0 in
    let on = in_ok _ c.in_ok-filled.was fill.goes_on in
    let read = in_ok _ c.in_ok-filled.was passed.2 in
    let same = fill.same_limit ∙ inv.limit in
    let whole = c.in_ok-filled.was ∙ ap Ok c.in-Whole.is in
    let own_read = fill.having_read (whole_no_stop c.pass_batch.result whole) in
    let machines = c.in_ok-certify.ensures.machines in
    record {
      logs_now = λ logs. joined_from 0 (inv.logs_now logs) frames;
      told = λ logs checked.
          let logs_now = inv.logs_now logs in
          let all = joined_from 0 logs_now frames in
          let told = inv.told logs checked in
          let tell = text_by g.D.Digests.functions c.telling-telling.result in
          let scheme = scheme_of functions header in
          let held = g.O.Sink.held c.args.out.now in
          let fed = read_checked functions header logs_now frames c.batches.certifier c.batches.runs c.pass_batch.new.runs told.checked read c.in_ok-certify.ensures.fed.0 in
          let taken = c.in_ok-certify.ensures.taken scheme header all fed in
          let counted = c.in_ok-certify.ensures.judged scheme header all fed in
          let next = told_then tell functions header logs logs_now c.args.certifier.now c.batches.certifier c.batches.runs c.pass_batch.new.runs frames held (g.O.Sink.held c.batches.out) told fed
          c.certify.new.self c.certify.new.runs taken counted (g.O.Sink.held c.certify.new.out) (c.in_ok-certify.ensures.lines scheme header all fed) in
          next;
      folded = λ logs checked.
          let logs_now = inv.logs_now logs in
          let all = joined_from 0 logs_now frames in
          let told = inv.told logs checked in
          let tell = text_by g.D.Digests.functions c.telling-telling.result in
          let scheme = scheme_of functions header in
          let held = g.O.Sink.held c.args.out.now in
          let fed = read_checked functions header logs_now frames c.batches.certifier c.batches.runs c.pass_batch.new.runs told.checked read c.in_ok-certify.ensures.fed.0 in
          let taken = c.in_ok-certify.ensures.taken scheme header all fed in
          let counted = c.in_ok-certify.ensures.judged scheme header all fed in
          made_then g.F.OperationFold.step (g.F.OperationFold.state c.args.folded.now) (g.F.OperationFold.state c.batches.folded) (g.F.OperationFold.state c.certify.new.folded)
          (lines_counted operations_told functions header logs c.args.certifier.now) (lines_counted operations_told functions header logs_now c.batches.certifier) _
          (lines_counted operations_told functions header all c.certify.new.self) (inv.folded logs checked) (c.in_ok-certify.ensures.folded scheme header all fed)
          (counted_more tell functions header logs logs_now c.args.certifier.now c.batches.certifier c.batches.runs c.pass_batch.new.runs frames held (g.O.Sink.held c.batches.out) told fed c.certify.new.self c.certify.new.runs taken counted operations_told);
      come = λ left faults more logs come.
          let now = inv.come left faults more logs come in
          come-more left _ faults _ more (inv.logs_now logs) old new now fill.rises (joined_from 0 (inv.logs_now logs) frames) _ _ own_read
          (means-more left _ faults _ more (inv.logs_now logs) old new now fill.rises header frames inv.known on) on.extent fill.near fill.never_falls;
      can = c.in_ok-certify.ensures.can;
      headers = headers_same header c.pass_batch.new.runs c.certify.new.runs machines (headers_read functions header 0 frames c.batches.runs c.pass_batch.new.runs read inv.headers);
      weights =
          weights_same new.progress.offset c.pass_batch.new.runs c.certify.new.runs machines c.in_ok-certify.ensures.held
          (weights_more c.pass_batch.new.runs (old.progress.offset + bytes_of frames) new.progress.offset (omega (arith, on.bytes))
          (weights_of_all functions frames 0 old.progress.offset c.batches.runs c.pass_batch.new.runs read inv.weights));
      few = omega (arith, inv.few, c.certify.ensures.len, length_of_all functions 0 frames c.batches.runs c.pass_batch.new.runs read);
      having_read =
          let sum : new.taken - c.args.reader.now.taken ≡ (old.taken - c.args.reader.now.taken) + (new.taken - old.taken) = omega (arith, inv.rises, fill.rises) in
          HasRead-then _ _ _ _ _ _ inv.having_read own_read sum;
      rises = omega (arith, inv.rises, fill.rises);
      read_faults = omega (arith, inv.read_faults, fill.never_falls);
      known = on.header ∙ inv.known;
      due = fill.due whole;
      limit = same;
      within = fill.within;
      split = fill.split;
      faults = omega (arith, inv.faults, c.certify.ensures.never_falls);
    }

pub returns-in-Stopped-clause-reads : goal.returns-in-Stopped-clause-reads
returns-in-Stopped-clause-reads g c =
    let limit = c.args.reader.now.limit in
    let inv = c.batches.invariant in
    let passed = c.pass_batch.ensures.passed in
    let fill = passed.1 in
    let old = c.batches.reader in
    let new = c.pass_batch.new.reader in
    let frames = passed.0 in
    let left_then = g.S.Source.left c.pass_batch.new.source in
    let faults_then = g.S.Source.faults c.pass_batch.new.source in
    let same = fill.same_limit ∙ inv.limit in
    let stopped = c.in_ok-filled.was ∙ ap Ok c.in-Stopped.is in
    let reading : Reading = record {
      left = g.S.Source.left c.args.source.now;
      left_after = left_then;
      faults = g.S.Source.faults c.args.source.now;
      faults_after = faults_then;
    } in
    let wrote : Writing = record {
      held = g.O.Sink.held c.args.out.now;
      held_after = g.O.Sink.held c.certify.new.out;
      faults = g.O.Sink.faults c.args.out.now;
      faults_after = g.O.Sink.faults c.certify.new.out;
    } in
    let start = c.args.reader.now.taken in
    ⊎_elim
    (λ is. subst (λ (stop : Failure). ReadsWithin (Err stop) start limit reading wrote) (sym is)
    (reads_read_fault start limit reading wrote
    (took_batch_within c.args.reader.now.taken limit (g.S.Source.left c.args.source.now) (g.S.Source.left c.batches.source) left_then old new inv.having_read inv.rises fill.rises fill.within same
    (fill.having_read (fault_no_limit c.pass_batch.result (stopped ∙ ap stopped_at is))))
    (rose_before _ _ _ inv.read_faults (fill.fault (stopped ∙ ap stopped_at is)))))
    (λ is. subst (λ (stop : Failure). ReadsWithin (Err stop) start limit reading wrote) (sym is)
    (reads_limit start limit reading wrote
    (took_batch_just c.args.reader.now.taken limit (g.S.Source.left c.args.source.now) (g.S.Source.left c.batches.source) left_then old new inv.having_read inv.rises fill.rises fill.within same
    (fill.limit (stopped ∙ ap stopped_at is)))))
    (fill.stopped c.in-Stopped.stop stopped)

pub returns-in-Stopped-clause-answers : goal.returns-in-Stopped-clause-answers
returns-in-Stopped-clause-answers g c = λ left faults more logs begun come checked made.
    let functions = g.D.Digests.functions c.args.d.now in
    let header = c.args.header.now in
    let asked : Asked = unended (asked_for c.args.told.now functions (g.F.WrittenFold.text_behind begun)) in
    let limit = c.args.reader.now.limit in
    let inv = c.batches.invariant in
    let passed = c.pass_batch.ensures.passed in
    let fill = passed.1 in
    let old = c.batches.reader in
    let new = c.pass_batch.new.reader in
    let frames = passed.0 in
    let left_then = g.S.Source.left c.pass_batch.new.source in
    let faults_then = g.S.Source.faults c.pass_batch.new.source in
    let on = in_ok _ c.in_ok-filled.was fill.goes_on in
    let read = in_ok _ c.in_ok-filled.was passed.2 in
    let same = fill.same_limit ∙ inv.limit in
    let logs_now = inv.logs_now logs in
    let all = joined_from 0 logs_now frames in
    let told = inv.told logs checked in
    let now = inv.come left faults more logs come in
    let means = means-more left _ faults _ more logs_now old new now fill.rises header frames inv.known on in
    let tell = text_by g.D.Digests.functions c.telling-telling.result in
    let scheme = scheme_of functions header in
    let held = g.O.Sink.held c.args.out.now in
    let fed = read_checked functions header logs_now frames c.batches.certifier c.batches.runs c.pass_batch.new.runs told.checked read c.in_ok-certify.ensures.fed.0 in
    let taken = c.in_ok-certify.ensures.taken scheme header all fed in
    let counted = c.in_ok-certify.ensures.judged scheme header all fed in
    let next = told_then tell functions header logs logs_now c.args.certifier.now c.batches.certifier c.batches.runs c.pass_batch.new.runs frames held (g.O.Sink.held c.batches.out) told fed
    c.certify.new.self c.certify.new.runs taken counted (g.O.Sink.held c.certify.new.out) (c.in_ok-certify.ensures.lines scheme header all fed) in
    let own_tell = told_text c.args.told.now functions header in
    let count = length (lines_counted own_tell functions header logs c.args.certifier.now) in
    let due = subst (λ (t : EpochText). Grows held (g.O.Sink.held c.certify.new.out)
    (drop (length (lines_counted t functions header logs c.args.certifier.now)) (lines_due t functions header all))) c.telling-telling.ensures.text
    (due_then tell functions header logs logs_now c.args.certifier.now c.batches.certifier c.batches.runs c.pass_batch.new.runs frames held (g.O.Sink.held c.batches.out) told fed c.certify.new.self c.certify.new.runs taken counted (g.O.Sink.held c.certify.new.out) next) in
    let stopped = c.in_ok-filled.was ∙ ap Ok c.in-Stopped.is in
    let sum : new.taken ≡ old.taken + (new.taken - old.taken) = omega (arith, fill.rises) in
    let sum_past : limit + 1 ≡ old.taken + (new.limit + 1 - old.taken) = omega (arith, fill.rises, fill.within, same) in
    let wrote : Writing = record {
      held = g.O.Sink.held c.args.out.now;
      held_after = g.O.Sink.held c.certify.new.out;
      faults = g.O.Sink.faults c.args.out.now;
      faults_after = g.O.Sink.faults c.certify.new.out;
    } in
    cut_answers count more asked functions limit left left_then faults faults_then new wrote c.in-Stopped.stop
    (took_batch limit left _ _ faults _ more logs_now old new now fill.rises same fill.within fill.near
    c.pass_batch.result c.in_ok-filled.filled c.in_ok-filled.was fill.having_read fill.limit fill.full fill.beyond)
    (due_taken count more asked functions header limit left left_then faults faults_then all new (on.header ∙ inv.known) means wrote
    (spent_at _ _ _ c.in_ok-filled.was fill.spent (stopped_not_whole c.in_ok-filled.filled c.in-Stopped.stop c.in-Stopped.is)).no_frames (joined_none 0 all) due)
    (λ is. rose_before _ _ _ now.never_falls (fill.fault (stopped ∙ ap stopped_at is)))
    (λ is. TookAtMost-from_read new.taken limit _ _ (HasRead-then _ _ _ _ _ _ now.having_read (fill.having_read (fault_no_limit c.pass_batch.result (stopped ∙ ap stopped_at is))) sum)
    (omega (arith, fill.within, same)))
    (λ is. TookJust-from_read (limit + 1) _ _ (HasRead-then _ _ _ _ _ _ now.having_read (fill.limit (stopped ∙ ap stopped_at is)) sum_past))
    (λ is. ends_behind limit left (g.S.Source.left c.batches.source) left_then faults _ more logs_now old new now fill.rises same fill.within fill.near (fill.beyond (stopped ∙ ap stopped_at is)))
    (fill.stopped c.in-Stopped.stop stopped)

pub returns-then-is_err-clause-reads : goal.returns-then-is_err-clause-reads
returns-then-is_err-clause-reads g c =
    let limit = c.args.reader.now.limit in
    let inv = c.batches.invariant in
    let passed = c.pass_batch.ensures.passed in
    let fill = passed.1 in
    let old = c.batches.reader in
    let new = c.pass_batch.new.reader in
    let frames = passed.0 in
    let left_then = g.S.Source.left c.pass_batch.new.source in
    let faults_then = g.S.Source.faults c.pass_batch.new.source in
    let same = fill.same_limit ∙ inv.limit in
    let ended = c.in_ok-filled.was ∙ ap Ok c.in-End.is in
    let own_read = fill.having_read (end_no_stop c.pass_batch.result ended) in
    let reading : Reading = record {
      left = g.S.Source.left c.args.source.now;
      left_after = left_then;
      faults = g.S.Source.faults c.args.source.now;
      faults_after = faults_then;
    } in
    let wrote : Writing = record {
      held = g.O.Sink.held c.args.out.now;
      held_after = g.O.Sink.held c.write.new.out;
      faults = g.O.Sink.faults c.args.out.now;
      faults_after = g.O.Sink.faults c.write.new.out;
    } in
    reads_write_fault c.args.reader.now.taken limit reading wrote (took_past _ _ _ _ (took_batch_within c.args.reader.now.taken limit (g.S.Source.left c.args.source.now) (g.S.Source.left c.batches.source) left_then old new inv.having_read inv.rises fill.rises fill.within same own_read))
    (rose_before _ _ _ (omega (arith, inv.faults, c.certify.ensures.never_falls))
    (err_holds _ c.write.result (sym c.is_err.ensures.value ∙ c.if-is_err.true) c.write.ensures.counts.failed))

pub returns-then-is_err-clause-answers : goal.returns-then-is_err-clause-answers
returns-then-is_err-clause-answers g c = λ left faults more logs begun come checked made.
    let functions = g.D.Digests.functions c.args.d.now in
    let header = c.args.header.now in
    let asked : Asked = unended (asked_for c.args.told.now functions (g.F.WrittenFold.text_behind begun)) in
    let limit = c.args.reader.now.limit in
    let inv = c.batches.invariant in
    let passed = c.pass_batch.ensures.passed in
    let fill = passed.1 in
    let old = c.batches.reader in
    let new = c.pass_batch.new.reader in
    let frames = passed.0 in
    let left_then = g.S.Source.left c.pass_batch.new.source in
    let faults_then = g.S.Source.faults c.pass_batch.new.source in
    let on = in_ok _ c.in_ok-filled.was fill.goes_on in
    let read = in_ok _ c.in_ok-filled.was passed.2 in
    let same = fill.same_limit ∙ inv.limit in
    let logs_now = inv.logs_now logs in
    let all = joined_from 0 logs_now frames in
    let told = inv.told logs checked in
    let now = inv.come left faults more logs come in
    let means = means-more left _ faults _ more logs_now old new now fill.rises header frames inv.known on in
    let tell = text_by g.D.Digests.functions c.telling-telling.result in
    let scheme = scheme_of functions header in
    let held = g.O.Sink.held c.args.out.now in
    let fed = read_checked functions header logs_now frames c.batches.certifier c.batches.runs c.pass_batch.new.runs told.checked read c.in_ok-certify.ensures.fed.0 in
    let taken = c.in_ok-certify.ensures.taken scheme header all fed in
    let counted = c.in_ok-certify.ensures.judged scheme header all fed in
    let next = told_then tell functions header logs logs_now c.args.certifier.now c.batches.certifier c.batches.runs c.pass_batch.new.runs frames held (g.O.Sink.held c.batches.out) told fed
    c.certify.new.self c.certify.new.runs taken counted (g.O.Sink.held c.certify.new.out) (c.in_ok-certify.ensures.lines scheme header all fed) in
    let own_tell = told_text c.args.told.now functions header in
    let count = length (lines_counted own_tell functions header logs c.args.certifier.now) in
    let due = subst (λ (t : EpochText). Grows held (g.O.Sink.held c.certify.new.out)
    (drop (length (lines_counted t functions header logs c.args.certifier.now)) (lines_due t functions header all))) c.telling-telling.ensures.text
    (due_then tell functions header logs logs_now c.args.certifier.now c.batches.certifier c.batches.runs c.pass_batch.new.runs frames held (g.O.Sink.held c.batches.out) told fed c.certify.new.self c.certify.new.runs taken counted (g.O.Sink.held c.certify.new.out) next) in
    let within = subst (λ (t : EpochText). length (lines_counted t functions header logs c.args.certifier.now) ≤ length (lines_due t functions header all)) c.telling-telling.ensures.text
    (within_then tell functions header logs logs_now c.args.certifier.now c.batches.certifier c.batches.runs c.pass_batch.new.runs frames held (g.O.Sink.held c.batches.out) told fed c.certify.new.self c.certify.new.runs taken counted (g.O.Sink.held c.certify.new.out) next) in
    let made_now = made_then g.F.OperationFold.step (g.F.OperationFold.state c.args.folded.now) (g.F.OperationFold.state c.batches.folded) (g.F.OperationFold.state c.certify.new.folded)
    (lines_counted operations_told functions header logs c.args.certifier.now) (lines_counted operations_told functions header logs_now c.batches.certifier) _
    (lines_counted operations_told functions header all c.certify.new.self) (inv.folded logs checked) (c.in_ok-certify.ensures.folded scheme header all fed)
    (counted_more tell functions header logs logs_now c.args.certifier.now c.batches.certifier c.batches.runs c.pass_batch.new.runs frames held (g.O.Sink.held c.batches.out) told fed c.certify.new.self c.certify.new.runs taken counted operations_told) in
    let made_all : g.F.OperationFold.state c.certify.new.folded ≡ fold g.F.OperationFold.step (g.F.OperationFold.state begun) (lines_due operations_told functions header all) =
    made_from g.F.OperationFold.step (g.F.OperationFold.state begun) (g.F.OperationFold.state c.args.folded.now) (g.F.OperationFold.state c.certify.new.folded)
    (lines_counted operations_told functions header logs c.args.certifier.now) (lines_counted operations_told functions header all c.certify.new.self) made_now made
    ∙ ap (fold g.F.OperationFold.step (g.F.OperationFold.state begun))
    (counted_all tell functions header logs logs_now c.args.certifier.now c.batches.certifier c.batches.runs c.pass_batch.new.runs frames held (g.O.Sink.held c.batches.out) told fed c.certify.new.self c.certify.new.runs taken counted operations_told) in
    let behind = g.F.WrittenFold.text_behind begun (lines_due operations_told functions header all) in
    let behind_is = g.met.F.WrittenFold.text_is_of_state begun c.certify.new.folded (lines_due operations_told functions header all) made_all in
    let ended = c.in_ok-filled.was ∙ ap Ok c.in-End.is in
    let own_read = fill.having_read (end_no_stop c.pass_batch.result ended) in
    let sum : new.taken ≡ old.taken + (new.taken - old.taken) = omega (arith, fill.rises) in
    let having_read = HasRead-then _ _ _ _ _ _ now.having_read own_read sum in
    let spent = spent_at _ _ _ c.in_ok-filled.was fill.spent (end_not_whole c.in_ok-filled.filled c.in-End.is) in
    let whole = (taken-more scheme header logs_now c.batches.certifier _ frames told.checked).whole in
    let means_ended = joined_end all new left_then (Some header) c.bad-bad.result (fill.end ended) (sym (on.header ∙ inv.known)) (c.bad-bad.ensures.ahead spent.unread) whole in
    let wrote : Writing = record {
      held = g.O.Sink.held c.args.out.now;
      held_after = g.O.Sink.held c.write.new.out;
      faults = g.O.Sink.faults c.args.out.now;
      faults_after = g.O.Sink.faults c.write.new.out;
    } in
    last_answers count more asked functions header limit left left_then faults faults_then all new
    (on.header ∙ inv.known) means wrote c.bad-bad.result having_read
    (omega (arith, fill.within, same)) means_ended
    (stops_more more _ _ _ reading_end having_read (near-more left _ faults _ more logs_now old new now fill.rises fill.near))
    (front_behind count (lines_due own_tell functions header all) behind held (g.O.Sink.held c.certify.new.out) (g.O.Sink.held c.write.new.out) within due
    (subst (GrowsByFront (g.O.Sink.held c.certify.new.out) (g.O.Sink.held c.write.new.out)) behind_is
    (err_holds _ c.write.result (sym c.is_err.ensures.value ∙ c.if-is_err.true) c.write.ensures.front)))
    (rose_before _ _ _ (omega (arith, inv.faults, c.certify.ensures.never_falls))
    (err_holds _ c.write.result (sym c.is_err.ensures.value ∙ c.if-is_err.true) c.write.ensures.counts.failed))

pub returns-clause-reads : goal.returns-clause-reads
returns-clause-reads g c =
    let limit = c.args.reader.now.limit in
    let inv = c.batches.invariant in
    let passed = c.pass_batch.ensures.passed in
    let fill = passed.1 in
    let old = c.batches.reader in
    let new = c.pass_batch.new.reader in
    let frames = passed.0 in
    let left_then = g.S.Source.left c.pass_batch.new.source in
    let faults_then = g.S.Source.faults c.pass_batch.new.source in
    let same = fill.same_limit ∙ inv.limit in
    let ended = c.in_ok-filled.was ∙ ap Ok c.in-End.is in
    let own_read = fill.having_read (end_no_stop c.pass_batch.result ended) in
    let reading : Reading = record {
      left = g.S.Source.left c.args.source.now;
      left_after = left_then;
      faults = g.S.Source.faults c.args.source.now;
      faults_after = faults_then;
    } in
    let wrote : Writing = record {
      held = g.O.Sink.held c.args.out.now;
      held_after = g.O.Sink.held c.write.new.out;
      faults = g.O.Sink.faults c.args.out.now;
      faults_after = g.O.Sink.faults c.write.new.out;
    } in
    reads_ended c.args.reader.now.taken limit reading wrote c.end.result (took_batch_within c.args.reader.now.taken limit (g.S.Source.left c.args.source.now) (g.S.Source.left c.batches.source) left_then old new inv.having_read inv.rises fill.rises fill.within same own_read)

pub returns-clause-answers : goal.returns-clause-answers
returns-clause-answers g c = λ left faults more logs begun come checked made.
    let functions = g.D.Digests.functions c.args.d.now in
    let header = c.args.header.now in
    let asked : Asked = unended (asked_for c.args.told.now functions (g.F.WrittenFold.text_behind begun)) in
    let limit = c.args.reader.now.limit in
    let inv = c.batches.invariant in
    let passed = c.pass_batch.ensures.passed in
    let fill = passed.1 in
    let old = c.batches.reader in
    let new = c.pass_batch.new.reader in
    let frames = passed.0 in
    let left_then = g.S.Source.left c.pass_batch.new.source in
    let faults_then = g.S.Source.faults c.pass_batch.new.source in
    let on = in_ok _ c.in_ok-filled.was fill.goes_on in
    let read = in_ok _ c.in_ok-filled.was passed.2 in
    let same = fill.same_limit ∙ inv.limit in
    let logs_now = inv.logs_now logs in
    let all = joined_from 0 logs_now frames in
    let told = inv.told logs checked in
    let now = inv.come left faults more logs come in
    let means = means-more left _ faults _ more logs_now old new now fill.rises header frames inv.known on in
    let tell = text_by g.D.Digests.functions c.telling-telling.result in
    let scheme = scheme_of functions header in
    let held = g.O.Sink.held c.args.out.now in
    let fed = read_checked functions header logs_now frames c.batches.certifier c.batches.runs c.pass_batch.new.runs told.checked read c.in_ok-certify.ensures.fed.0 in
    let taken = c.in_ok-certify.ensures.taken scheme header all fed in
    let counted = c.in_ok-certify.ensures.judged scheme header all fed in
    let next = told_then tell functions header logs logs_now c.args.certifier.now c.batches.certifier c.batches.runs c.pass_batch.new.runs frames held (g.O.Sink.held c.batches.out) told fed
    c.certify.new.self c.certify.new.runs taken counted (g.O.Sink.held c.certify.new.out) (c.in_ok-certify.ensures.lines scheme header all fed) in
    let own_tell = told_text c.args.told.now functions header in
    let count = length (lines_counted own_tell functions header logs c.args.certifier.now) in
    let due = subst (λ (t : EpochText). Grows held (g.O.Sink.held c.certify.new.out)
    (drop (length (lines_counted t functions header logs c.args.certifier.now)) (lines_due t functions header all))) c.telling-telling.ensures.text
    (due_then tell functions header logs logs_now c.args.certifier.now c.batches.certifier c.batches.runs c.pass_batch.new.runs frames held (g.O.Sink.held c.batches.out) told fed c.certify.new.self c.certify.new.runs taken counted (g.O.Sink.held c.certify.new.out) next) in
    let within = subst (λ (t : EpochText). length (lines_counted t functions header logs c.args.certifier.now) ≤ length (lines_due t functions header all)) c.telling-telling.ensures.text
    (within_then tell functions header logs logs_now c.args.certifier.now c.batches.certifier c.batches.runs c.pass_batch.new.runs frames held (g.O.Sink.held c.batches.out) told fed c.certify.new.self c.certify.new.runs taken counted (g.O.Sink.held c.certify.new.out) next) in
    let made_now = made_then g.F.OperationFold.step (g.F.OperationFold.state c.args.folded.now) (g.F.OperationFold.state c.batches.folded) (g.F.OperationFold.state c.certify.new.folded)
    (lines_counted operations_told functions header logs c.args.certifier.now) (lines_counted operations_told functions header logs_now c.batches.certifier) _
    (lines_counted operations_told functions header all c.certify.new.self) (inv.folded logs checked) (c.in_ok-certify.ensures.folded scheme header all fed)
    (counted_more tell functions header logs logs_now c.args.certifier.now c.batches.certifier c.batches.runs c.pass_batch.new.runs frames held (g.O.Sink.held c.batches.out) told fed c.certify.new.self c.certify.new.runs taken counted operations_told) in
    let made_all : g.F.OperationFold.state c.certify.new.folded ≡ fold g.F.OperationFold.step (g.F.OperationFold.state begun) (lines_due operations_told functions header all) =
    made_from g.F.OperationFold.step (g.F.OperationFold.state begun) (g.F.OperationFold.state c.args.folded.now) (g.F.OperationFold.state c.certify.new.folded)
    (lines_counted operations_told functions header logs c.args.certifier.now) (lines_counted operations_told functions header all c.certify.new.self) made_now made
    ∙ ap (fold g.F.OperationFold.step (g.F.OperationFold.state begun))
    (counted_all tell functions header logs logs_now c.args.certifier.now c.batches.certifier c.batches.runs c.pass_batch.new.runs frames held (g.O.Sink.held c.batches.out) told fed c.certify.new.self c.certify.new.runs taken counted operations_told) in
    let behind = g.F.WrittenFold.text_behind begun (lines_due operations_told functions header all) in
    let behind_is = g.met.F.WrittenFold.text_is_of_state begun c.certify.new.folded (lines_due operations_told functions header all) made_all in
    let ended = c.in_ok-filled.was ∙ ap Ok c.in-End.is in
    let own_read = fill.having_read (end_no_stop c.pass_batch.result ended) in
    let sum : new.taken ≡ old.taken + (new.taken - old.taken) = omega (arith, fill.rises) in
    let having_read = HasRead-then _ _ _ _ _ _ now.having_read own_read sum in
    let spent = spent_at _ _ _ c.in_ok-filled.was fill.spent (end_not_whole c.in_ok-filled.filled c.in-End.is) in
    let whole = (taken-more scheme header logs_now c.batches.certifier _ frames told.checked).whole in
    let means_ended = joined_end all new left_then (Some header) c.bad-bad.result (fill.end ended) (sym (on.header ∙ inv.known)) (c.bad-bad.ensures.ahead spent.unread) whole in
    let wrote : Writing = record {
      held = g.O.Sink.held c.args.out.now;
      held_after = g.O.Sink.held c.write.new.out;
      faults = g.O.Sink.faults c.args.out.now;
      faults_after = g.O.Sink.faults c.write.new.out;
    } in
    let end_is = c.end.ensures.end scheme header all taken counted in
    end_answers count more asked functions header limit left left_then faults faults_then all new
    (on.header ∙ inv.known) means wrote c.bad-bad.result c.end.result having_read
    (omega (arith, fill.within, same)) means_ended
    (took_to_end new.taken left left_then reading_end (end_ahead new) having_read
    (extent-more left _ faults _ more logs_now old new now fill.rises on.extent) (fill.reached ended))
    (stops_more more _ _ _ reading_end having_read (near-more left _ faults _ more logs_now old new now fill.rises fill.near))
    (ap status_of end_is)
    (text_behind count (lines_due own_tell functions header all) behind held (g.O.Sink.held c.certify.new.out) (g.O.Sink.held c.write.new.out) within due
    (subst (Grows (g.O.Sink.held c.certify.new.out) (g.O.Sink.held c.write.new.out)) behind_is
    (ok_holds _ c.write.result (sym c.is_err.ensures.value ∙ c.if-is_err.false) c.write.ensures.whole)))

pub returns-clause-done : goal.returns-clause-done
returns-clause-done g c = λ left faults more logs epochs come checked is.
    let functions = g.D.Digests.functions c.args.d.now in
    let header = c.args.header.now in
    let inv = c.batches.invariant in
    let passed = c.pass_batch.ensures.passed in
    let fill = passed.1 in
    let old = c.batches.reader in
    let new = c.pass_batch.new.reader in
    let frames = passed.0 in
    let left_then = g.S.Source.left c.pass_batch.new.source in
    let faults_then = g.S.Source.faults c.pass_batch.new.source in
    let on = in_ok _ c.in_ok-filled.was fill.goes_on in
    let read = in_ok _ c.in_ok-filled.was passed.2 in
    let logs_now = inv.logs_now logs in
    let all = joined_from 0 logs_now frames in
    let told = inv.told logs checked in
    let now = inv.come left faults more logs come in
    let means = means-more left _ faults _ more logs_now old new now fill.rises header frames inv.known on in
    let tell = text_by g.D.Digests.functions c.telling-telling.result in
    let scheme = scheme_of functions header in
    let held = g.O.Sink.held c.args.out.now in
    let fed = read_checked functions header logs_now frames c.batches.certifier c.batches.runs c.pass_batch.new.runs told.checked read c.in_ok-certify.ensures.fed.0 in
    let taken = c.in_ok-certify.ensures.taken scheme header all fed in
    let counted = c.in_ok-certify.ensures.judged scheme header all fed in
    let ended = c.in_ok-filled.was ∙ ap Ok c.in-End.is in
    let own_read = fill.having_read (end_no_stop c.pass_batch.result ended) in
    let sum : new.taken ≡ old.taken + (new.taken - old.taken) = omega (arith, fill.rises) in
    let having_read = HasRead-then _ _ _ _ _ _ now.having_read own_read sum in
    let spent = spent_at _ _ _ c.in_ok-filled.was fill.spent (end_not_whole c.in_ok-filled.filled c.in-End.is) in
    let whole = (taken-more scheme header logs_now c.batches.certifier _ frames told.checked).whole in
    let means_ended = joined_end all new left_then (Some header) c.bad-bad.result (fill.end ended) (sym (on.header ∙ inv.known)) (c.bad-bad.ensures.ahead spent.unread) whole in
    let done : c.end.result ≡ Done epochs = cc in
    let none = done_by c.certify.new.self.count c.certify.new.self.unbalanced _ c.bad-bad.result epochs (sym c.end.ensures.value ∙ done) in
    let whole_read : Logged = record { header = Some header; logs = all; bad = None } in
    let bad_none = ap (λ (b : Option ℕ). let l : Logged = record { header = Some header; logs = all; bad = b } in l) none.2 in
    let read_as = ReadsAs-back (λ (logged : Logged). logged ≡ whole_read) new.taken left left_then logged_of (behind_at all new) having_read means
    (same_left (λ (logged : Logged). logged ≡ whole_read) (record { header = Some header; logs = all; bad = c.bad-bad.result }) left_then (behind_at all new) means_ended bad_none) in
    let end_is = subst (λ (b : Option ℕ). c.end.result ≡ end_of scheme header (map (read_log (format_of header)) all) (histories_at scheme header all) b) none.2
    (c.end.ensures.end scheme header all taken counted) in
    record {
      logs = all;
      checked =
          checked_ended c.certify.new.runs c.end.new.runs c.end.ensures.ended none.1 scheme header all c.certify.new.self (record { count = epochs; unbalanced = None })
          (judged_is c.certify.new.self epochs none.3 none.0) taken;
      unbroken = unbroken_runs c.certify.new.runs c.end.new.runs c.end.ensures.ended none.1;
      means = read_as;
      done = status_by functions whole_read epochs left read_as (sym (ap status_of end_is) ∙ ap status_of done);
      all =
          all_taken new.taken left left_then (Some header) all having_read
          (ReadsAs-back (λ (end : ℕ). end ≤ new.taken) new.taken left left_then reading_end (end_ahead new) having_read
          (extent-more left _ faults _ more logs_now old new now fill.rises on.extent) (fill.reached ended)) read_as;
    }
