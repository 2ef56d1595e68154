use Rattle.std.proofs.Common.{Ok, Err, is_ok, true≢false, ap, subst, sym, ◌∙◌}
use Rattle.bundle_frames.specs.Extent.{reading_end}
use Rattle.report_text.specs.declared.status.Status.{Status}
use Rattle.report_text.specs.Answer.{Reading, Writing, AnswersTo}
use Rattle.fastver_top.specs.Auditing.{audit_end_status, audit_answer_by, audit_answer}
use Rattle.bundle_report.specs.Logged.{logged_of}
use Rattle.check_core.specs.Intake.{logged}
use Rattle.bundle_report.proofs.HeadlineLaws.{headline}
use Rattle.check_core.proofs.WholeReadLaws.{whole_read-ends, whole_read-stops}
use Rattle.fastver_top.proofs.AuditLemmas.{shown_collides, shown_left, status_shown, audit_is_end}
use Rattle.fastver_top.proofs.auditing.audit_text.Goals as goal

pub returns-in-Ok-audit_intake-clause-collides : goal.returns-in-Ok-audit_intake-clause-collides
returns-in-Ok-audit_intake-clause-collides g c = λ is.
    let functions = g.D.Digests.functions c.args.d.now in
    let ends = status_shown c.in-Ok-audit_intake.end (sym c.status.ensures.value ∙ is) in
    shown_left functions (g.S.Source.left c.args.source.now) (logged c.in-Ok.intake) c.in-Ok.ensures.bundle
    (c.audit_intake.ensures.shown (c.in-Ok-audit_intake.is ∙ ap Ok ends))
    (λ bytes shown.
    shown_collides functions (logged_of bytes).header (logged_of bytes).logs
    (headline functions bytes (λ text. (c.digests_have_32_bytes.ensures.digests text).size)) shown)

-- ---- the answer

pub returns-in-Ok-audit_intake-clause-answers : goal.returns-in-Ok-audit_intake-clause-answers
returns-in-Ok-audit_intake-clause-answers g c =
    let functions = g.D.Digests.functions c.args.d.now in
    let read : Reading = record {
      left = g.S.Source.left c.args.source.now;
      left_after = g.S.Source.left c.read_bundle.new.source;
      faults = g.S.Source.faults c.args.source.now;
      faults_after = g.S.Source.faults c.read_bundle.new.source;
    } in
    let wrote : Writing = record {
      held = g.O.Sink.held c.args.out.now;
      held_after = g.O.Sink.held c.audit_intake.new.out;
      faults = g.O.Sink.faults c.args.out.now;
      faults_after = g.O.Sink.faults c.audit_intake.new.out;
    } in
    subst (λ (status : Status). AnswersTo (audit_answer functions) reading_end c.args.limit status read wrote) (sym c.status.ensures.value)
    (whole_read-ends (audit_answer_by functions) c.args.limit read wrote (logged c.in-Ok.intake) c.in-Ok.ensures.bundle (c.in-Ok.ensures.within (λ is. true≢false (ap is_ok is)))
    c.in-Ok.ensures.stops audit_end_status c.in-Ok-audit_intake.end (audit_is_end c.in-Ok-audit_intake.end) c.in-Ok.ensures.reached c.in-Ok-audit_intake.ensures.ends)

pub returns-in-Ok-clause-answers : goal.returns-in-Ok-clause-answers
returns-in-Ok-clause-answers g c =
    let functions = g.D.Digests.functions c.args.d.now in
    let read : Reading = record {
      left = g.S.Source.left c.args.source.now;
      left_after = g.S.Source.left c.read_bundle.new.source;
      faults = g.S.Source.faults c.args.source.now;
      faults_after = g.S.Source.faults c.read_bundle.new.source;
    } in
    let wrote : Writing = record {
      held = g.O.Sink.held c.args.out.now;
      held_after = g.O.Sink.held c.audit_intake.new.out;
      faults = g.O.Sink.faults c.args.out.now;
      faults_after = g.O.Sink.faults c.audit_intake.new.out;
    } in
    subst (λ (status : Status). AnswersTo (audit_answer functions) reading_end c.args.limit status read wrote) (sym c.of_failure.ensures.value)
    (whole_read-stops (audit_answer_by functions) c.args.limit read wrote (logged c.in-Ok.intake) c.in-Ok.ensures.bundle (c.in-Ok.ensures.within (λ is. true≢false (ap is_ok is)))
    c.in-Ok.ensures.stops audit_end_status c.in-Err-audit_intake.failure c.in-Err-audit_intake.ensures.ends
    (λ is. ap g.O.Sink.held (c.in-Err-audit_intake.ensures.unwritten (ap Err is)))
    (λ is. c.in-Err-audit_intake.ensures.write_fault (ap Err is)))
