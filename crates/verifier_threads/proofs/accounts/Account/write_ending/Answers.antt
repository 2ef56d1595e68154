use Rattle.std.proofs.Common.{OnOk, OnErr, sym, subst}
use Rattle.fv_outside.specs.Written.{Grows, GrowsByFront}
use Rattle.verifier_threads.specs.declared.accounts.Account.{Account}
use Rattle.verifier_threads.specs.Running.{ending_for}
use Rattle.verifier_threads.proofs.accounts.Account.write_ending.Goals as goal

pub returns-in-Report-clause-whole : goal.returns-in-Report-clause-whole
returns-in-Report-clause-whole g c =
    subst (λ (a : Account). OnOk c.write_end.result (Grows (g.O.Sink.held c.args.out.now) (g.O.Sink.held c.write_end.new.out) (ending_for a c.args.rounds.now c.args.status.now))) (sym c.in-Report.is)
    c.write_end.ensures.line

pub returns-in-Report-clause-front : goal.returns-in-Report-clause-front
returns-in-Report-clause-front g c =
    subst (λ (a : Account). OnErr c.write_end.result (GrowsByFront (g.O.Sink.held c.args.out.now) (g.O.Sink.held c.write_end.new.out) (ending_for a c.args.rounds.now c.args.status.now))) (sym c.in-Report.is)
    c.write_end.ensures.front

pub returns-in-Summary-clause-whole : goal.returns-in-Summary-clause-whole
returns-in-Summary-clause-whole g c =
    subst (λ (a : Account). OnOk c.write_summary.result (Grows (g.O.Sink.held c.args.out.now) (g.O.Sink.held c.write_summary.new.out) (ending_for a c.args.rounds.now c.args.status.now))) (sym c.in-Summary.is)
    c.write_summary.ensures.whole

pub returns-in-Summary-clause-front : goal.returns-in-Summary-clause-front
returns-in-Summary-clause-front g c =
    subst (λ (a : Account). OnErr c.write_summary.result (GrowsByFront (g.O.Sink.held c.args.out.now) (g.O.Sink.held c.write_summary.new.out) (ending_for a c.args.rounds.now c.args.status.now))) (sym c.in-Summary.is)
    c.write_summary.ensures.front
