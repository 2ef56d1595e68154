use Rattle.std.proofs.Common.{OnOk, OnErr, sym, subst}
use Rattle.certified_epochs.specs.Telling.{text_by}
use Rattle.host_rounds.specs.SoFar.{lines_counted, lines_due}
use Rattle.verifier_threads.specs.declared.accounts.Account.{Account}
use Rattle.verifier_threads.specs.Serving.{GrowsFor}
use Rattle.verifier_threads.specs.Running.{GrowsByFrontFor}
use Rattle.verifier_threads.proofs.PassingLemmas.{ok_any, err_any}
use Rattle.verifier_threads.proofs.CallLemmas.{never-rose}
use Rattle.verifier_threads.proofs.accounts.Account.certify.Goals as goal

pub returns-in-Report-clause-due : goal.returns-in-Report-clause-due
returns-in-Report-clause-due g c = λ functions header logs held have grown.
    let tell = text_by g.D.Digests.functions c.args.telling.now in
    subst (λ (a : Account). OnOk c.certify.result (GrowsFor a held (g.O.Sink.held c.certify.new.out) (lines_due tell functions header logs))) (sym c.in-Report.is)
    (c.certify.ensures.due functions header logs held have
    (subst (λ (a : Account). GrowsFor a held (g.O.Sink.held c.args.out.now) (lines_counted tell functions header logs c.args.rounds.now)) c.in-Report.is grown))

pub returns-in-Report-clause-front : goal.returns-in-Report-clause-front
returns-in-Report-clause-front g c = λ functions header logs held have grown.
    let tell = text_by g.D.Digests.functions c.args.telling.now in
    subst (λ (a : Account). OnErr c.certify.result (GrowsByFrontFor a held (g.O.Sink.held c.certify.new.out) (lines_due tell functions header logs))) (sym c.in-Report.is)
    (c.certify.ensures.front functions header logs held have
    (subst (λ (a : Account). GrowsFor a held (g.O.Sink.held c.args.out.now) (lines_counted tell functions header logs c.args.rounds.now)) c.in-Report.is grown))

pub returns-in-Report-clause-lines : goal.returns-in-Report-clause-lines
returns-in-Report-clause-lines g c = λ fault. (c.in-Report.receipts, c.in-Report.is)

pub returns-in_err-sure-in-Summary-clause-front : goal.returns-in_err-sure-in-Summary-clause-front
returns-in_err-sure-in-Summary-clause-front g c = λ functions header logs held have grown.
    let tell = text_by g.D.Digests.functions c.args.telling.now in
    err_any _
    (subst (λ (a : Account). GrowsByFrontFor a held (g.O.Sink.held c.args.out.now) (lines_due tell functions header logs)) (sym c.in-Summary.is)
    (subst (λ (a : Account). GrowsFor a held (g.O.Sink.held c.args.out.now) (lines_counted tell functions header logs c.args.rounds.now)) c.in-Summary.is grown))

pub returns-in_ok-sure-in-Summary-clause-due : goal.returns-in_ok-sure-in-Summary-clause-due
returns-in_ok-sure-in-Summary-clause-due g c = λ functions header logs held have grown.
    let tell = text_by g.D.Digests.functions c.args.telling.now in
    ok_any c.certify-in-Summary.result
    (subst (λ (a : Account). GrowsFor a held (g.O.Sink.held c.args.out.now) (lines_due tell functions header logs)) (sym c.in-Summary.is)
    (subst (λ (a : Account). GrowsFor a held (g.O.Sink.held c.args.out.now) (lines_counted tell functions header logs c.args.rounds.now)) c.in-Summary.is grown))

pub returns-in_ok-sure-in-Summary-clause-front : goal.returns-in_ok-sure-in-Summary-clause-front
returns-in_ok-sure-in-Summary-clause-front g c = λ functions header logs held have grown.
    let tell = text_by g.D.Digests.functions c.args.telling.now in
    err_any c.certify-in-Summary.result
    (subst (λ (a : Account). GrowsByFrontFor a held (g.O.Sink.held c.args.out.now) (lines_due tell functions header logs)) (sym c.in-Summary.is)
    (subst (λ (a : Account). GrowsFor a held (g.O.Sink.held c.args.out.now) (lines_counted tell functions header logs c.args.rounds.now)) c.in-Summary.is grown))

pub returns-in_ok-sure-in-Summary-clause-lines : goal.returns-in_ok-sure-in-Summary-clause-lines
returns-in_ok-sure-in-Summary-clause-lines g c = λ fault. absurd (never-rose (c.certify-in-Summary.ensures.write_fault fault))

pub returns-in_ok-sure-in-Summary-clause-write_fault : goal.returns-in_ok-sure-in-Summary-clause-write_fault
returns-in_ok-sure-in-Summary-clause-write_fault g c = λ fault. absurd (never-rose (c.certify-in-Summary.ensures.write_fault fault))
