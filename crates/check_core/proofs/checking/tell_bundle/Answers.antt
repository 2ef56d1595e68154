use Rattle.std.proofs.Common.{◌≡◌, ℕ, Result, Err, sym, ◌∙◌, ap, subst}
use Rattle.record_hash.specs.Functions.{DigestFunctions}
use Rattle.fv_outside.specs.declared.failure.Failure.{Failure}
use Rattle.bundle_frames.specs.Extent.{reading_end}
use Rattle.report_text.specs.declared.status.Status.{Status}
use Rattle.report_text.specs.Ending.{status_of}
use Rattle.report_text.specs.Answer.{Reading, Writing, AnswersTo}
use Rattle.check_core.specs.declared.checked.Checked.{Checked}
use Rattle.check_core.specs.Asked.{Asked, unended, asked_answer}
use Rattle.check_core.specs.Checked.{checked_status}
use Rattle.check_core.specs.Told.{asked_for}
use Rattle.check_core.proofs.LastLineLemmas.{failed_answers, ended_answers, cut_line_answers}
use Rattle.check_core.proofs.checking.tell_bundle.Goals as goal

-- what was answered before the last line, as the status that the check came to
before : (asked : Asked) (functions : DigestFunctions) (limit : ℕ) (result : Result Checked Failure) (status : Status) (read : Reading) (wrote : Writing)
    → checked_status limit result ≡ status → AnswersTo (asked_answer asked functions) reading_end limit (checked_status limit result) read wrote
    → AnswersTo (asked_answer asked functions) reading_end limit status read wrote
before asked functions limit result status read wrote is answers =
    subst (λ (s : Status). AnswersTo (asked_answer asked functions) reading_end limit s read wrote) is answers

pub returns-in-Ok-write_end-clause-answers : goal.returns-in-Ok-write_end-clause-answers
returns-in-Ok-write_end-clause-answers g c =
    let functions = g.D.Digests.functions c.args.d.now in
    let asked : Asked = asked_for c.args.told.now functions (g.F.WrittenFold.text_behind c.args.folded.now) in
    let limit = c.args.limit in
    let held = g.O.Sink.held c.args.out.now in
    let held_now = g.O.Sink.held c.check_lines.new.out in
    let faults = g.O.Sink.faults c.args.out.now in
    let faults_now = g.O.Sink.faults c.check_lines.new.out in
    let read : Reading = record {
      left = g.S.Source.left c.args.source.now;
      left_after = g.S.Source.left c.check_lines.new.source;
      faults = g.S.Source.faults c.args.source.now;
      faults_after = g.S.Source.faults c.check_lines.new.source;
    } in
    let wrote : Writing = record { held = held; held_after = held_now; faults = faults; faults_after = faults_now } in
    let held_then = g.O.Sink.held c.write_end.new.out in
    let faults_then = g.O.Sink.faults c.write_end.new.out in
    let answers = before (unended asked) functions limit c.check_lines.result (status_of c.end.result) read wrote
    (ap (checked_status limit) c.in-Ok.is ∙ sym (ap status_of c.end.ensures.value)) c.check_lines.ensures.answers in
    let then_wrote : Writing = record { held = held; held_after = held_then; faults = faults; faults_after = faults_then } in
    subst (λ (status : Status). AnswersTo (asked_answer asked functions) reading_end limit status read then_wrote) (sym c.in-Ok-write_end.ensures.status)
    (ended_answers asked functions limit read held held_now faults faults_now c.end.result answers held_then faults_then c.in-Ok-write_end.ensures.line)

pub returns-in-Ok-clause-answers : goal.returns-in-Ok-clause-answers
returns-in-Ok-clause-answers g c =
    let functions = g.D.Digests.functions c.args.d.now in
    let asked : Asked = asked_for c.args.told.now functions (g.F.WrittenFold.text_behind c.args.folded.now) in
    let limit = c.args.limit in
    let held = g.O.Sink.held c.args.out.now in
    let held_now = g.O.Sink.held c.check_lines.new.out in
    let faults = g.O.Sink.faults c.args.out.now in
    let faults_now = g.O.Sink.faults c.check_lines.new.out in
    let read : Reading = record {
      left = g.S.Source.left c.args.source.now;
      left_after = g.S.Source.left c.check_lines.new.source;
      faults = g.S.Source.faults c.args.source.now;
      faults_after = g.S.Source.faults c.check_lines.new.source;
    } in
    let wrote : Writing = record { held = held; held_after = held_now; faults = faults; faults_after = faults_now } in
    let held_then = g.O.Sink.held c.write_end.new.out in
    let faults_then = g.O.Sink.faults c.write_end.new.out in
    let answers = before (unended asked) functions limit c.check_lines.result (status_of c.end.result) read wrote
    (ap (checked_status limit) c.in-Ok.is ∙ sym (ap status_of c.end.ensures.value)) c.check_lines.ensures.answers in
    cut_line_answers asked functions limit read held held_now faults faults_now c.end.result answers held_then faults_then c.in-Err-write_end.ensures.front
    c.check_lines.ensures.never_falls c.in-Err-write_end.ensures.counts.failed

pub returns-clause-answers : goal.returns-clause-answers
returns-clause-answers g c =
    let functions = g.D.Digests.functions c.args.d.now in
    let asked : Asked = asked_for c.args.told.now functions (g.F.WrittenFold.text_behind c.args.folded.now) in
    let limit = c.args.limit in
    let held = g.O.Sink.held c.args.out.now in
    let held_now = g.O.Sink.held c.check_lines.new.out in
    let faults = g.O.Sink.faults c.args.out.now in
    let faults_now = g.O.Sink.faults c.check_lines.new.out in
    let read : Reading = record {
      left = g.S.Source.left c.args.source.now;
      left_after = g.S.Source.left c.check_lines.new.source;
      faults = g.S.Source.faults c.args.source.now;
      faults_after = g.S.Source.faults c.check_lines.new.source;
    } in
    let wrote : Writing = record { held = held; held_after = held_now; faults = faults; faults_after = faults_now } in
    subst (λ (status : Status). AnswersTo (asked_answer asked functions) reading_end limit status read wrote) (sym c.of_failure.ensures.value)
    (failed_answers asked functions limit read held held_now faults faults_now c.in-Err.failure
    (before (unended asked) functions limit c.check_lines.result (checked_status limit (Err c.in-Err.failure)) read wrote
    (ap (checked_status limit) c.in-Err.is) c.check_lines.ensures.answers))
