use Rattle.check_core.specs.Intake.{logs_in}
use Rattle.bundle_upgrade.proofs.AnswerLemmas.{on_ok, ends_found, keeps_found}
use Rattle.bundle_upgrade.proofs.upgrading.upgrade_intake.Goals as goal

pub returns-in-Some-clause-ends : goal.returns-in-Some-clause-ends
returns-in-Some-clause-ends g c =
    ends_found (g.D.Digests.functions c.args.d.now) c.args.intake.header c.in-Some.header (logs_in c.args.intake) c.args.intake.bad c.in-Some.is
    c.in_ok-end.field-0.conclusion.end c.in_ok-end.ensures.end c.upgrade_where_done.result (g.O.Sink.held c.args.out.now) (g.O.Sink.held c.upgrade_where_done.new.out)
    c.upgrade_where_done.ensures.ends

pub returns-in-Some-clause-report : goal.returns-in-Some-clause-report
returns-in-Some-clause-report g c = λ end so done.
    keeps_found (g.D.Digests.functions c.args.d.now) c.args.intake.header c.in-Some.header (logs_in c.args.intake) c.args.intake.bad c.in-Some.is
    c.in_ok-end.field-0.conclusion.end c.in_ok-end.ensures.end c.upgrade_where_done.result (g.O.Sink.held c.args.out.now) (g.O.Sink.held c.upgrade_where_done.new.out)
    c.upgrade_where_done.ensures.ends end so done
    (on_ok c.upgrade_where_done.result (λ keeps. keeps (g.D.Digests.functions c.args.d.now) c.args.intake.bad) c.upgrade_where_done.ensures.report)
