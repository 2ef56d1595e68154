use Rattle.std.proofs.Common.{Err, is_ok, true≢false, refl, ap, sym, subst}
use Rattle.bundle_frames.specs.Extent.{reading_end}
use Rattle.report_text.specs.declared.status.Status.{Status}
use Rattle.report_text.specs.Answer.{Reading, Writing, AnswersTo}
use Rattle.report_text.specs.Ending.{status_of}
use Rattle.check_core.specs.Intake.{logged}
use Rattle.check_core.proofs.WholeReadLaws.{of_left, whole_read-ends, whole_read-stops}
use Rattle.bundle_upgrade.specs.Answer.{upgrade_by, upgrade_answer, KeepsReportBy, IsDone}
use Rattle.bundle_upgrade.proofs.AnswerLemmas.{is_end}
use Rattle.bundle_upgrade.proofs.upgrading.upgrade.Goals as goal

pub returns-in-Ok-upgrade_intake-clause-answers : goal.returns-in-Ok-upgrade_intake-clause-answers
returns-in-Ok-upgrade_intake-clause-answers g c =
    let functions = g.D.Digests.functions c.args.d.now in
    let read : Reading = record {
      left = g.S.Source.left c.args.source.now;
      left_after = g.S.Source.left c.read_bundle.new.source;
      faults = g.S.Source.faults c.args.source.now;
      faults_after = g.S.Source.faults c.read_bundle.new.source;
    } in
    let wrote : Writing = record {
      held = g.O.Sink.held c.args.out.now;
      held_after = g.O.Sink.held c.upgrade_intake.new.out;
      faults = g.O.Sink.faults c.args.out.now;
      faults_after = g.O.Sink.faults c.upgrade_intake.new.out;
    } in
    subst (λ (status : Status). AnswersTo (upgrade_answer functions) reading_end c.args.limit status read wrote) (sym c.status.ensures.value)
    (whole_read-ends (upgrade_by functions) c.args.limit read wrote (logged c.in-Ok.intake) c.in-Ok.ensures.bundle (c.in-Ok.ensures.within (λ is. true≢false (ap is_ok is)))
    c.in-Ok.ensures.stops status_of c.in-Ok-upgrade_intake.end (is_end c.in-Ok-upgrade_intake.end) c.in-Ok.ensures.reached c.in-Ok-upgrade_intake.ensures.ends)

pub returns-in-Ok-upgrade_intake-clause-report : goal.returns-in-Ok-upgrade_intake-clause-report
returns-in-Ok-upgrade_intake-clause-report g c = λ done.
    of_left (KeepsReportBy (g.D.Digests.functions c.args.d.now)) (g.S.Source.left c.args.source.now) (logged c.in-Ok.intake) c.in-Ok.ensures.bundle
    (c.in-Ok-upgrade_intake.ensures.report c.in-Ok-upgrade_intake.end refl (subst IsDone c.status.ensures.value done))

pub returns-in-Err-upgrade_intake-clause-answers : goal.returns-in-Err-upgrade_intake-clause-answers
returns-in-Err-upgrade_intake-clause-answers g c =
    let functions = g.D.Digests.functions c.args.d.now in
    let read : Reading = record {
      left = g.S.Source.left c.args.source.now;
      left_after = g.S.Source.left c.read_bundle.new.source;
      faults = g.S.Source.faults c.args.source.now;
      faults_after = g.S.Source.faults c.read_bundle.new.source;
    } in
    let wrote : Writing = record {
      held = g.O.Sink.held c.args.out.now;
      held_after = g.O.Sink.held c.upgrade_intake.new.out;
      faults = g.O.Sink.faults c.args.out.now;
      faults_after = g.O.Sink.faults c.upgrade_intake.new.out;
    } in
    subst (λ (status : Status). AnswersTo (upgrade_answer functions) reading_end c.args.limit status read wrote) (sym c.of_failure.ensures.value)
    (whole_read-stops (upgrade_by functions) c.args.limit read wrote (logged c.in-Ok.intake) c.in-Ok.ensures.bundle (c.in-Ok.ensures.within (λ is. true≢false (ap is_ok is)))
    c.in-Ok.ensures.stops status_of c.in-Err-upgrade_intake.failure c.in-Err-upgrade_intake.ensures.ends
    (λ is. ap g.O.Sink.held (c.in-Err-upgrade_intake.ensures.unwritten (ap Err is)))
    (λ is. c.in-Err-upgrade_intake.ensures.write_fault (ap Err is)))
