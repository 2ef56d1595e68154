use Rattle.std.proofs.Common.{◌≡◌, ℕ, IfOk, Option, subst, sym, ap, ◌∙◌, arith}
use Rattle.merkle_records.specs.Scheme.{scheme_of}
use Rattle.lamport_clocks.specs.declared.header.Header.{Header}
use Rattle.bundle_report.specs.Logs.{log_count}
use Rattle.check_core.specs.Intake.{logs_in}
use Rattle.bundle_report.specs.Answer.{certified_at}
use Rattle.check_core.proofs.MeaningLemmas.{logs_counted}
use Rattle.bundle_report.proofs.KeepingLaws.{count-keeping}
use Rattle.check_core.proofs.ConcludingLemmas.{status_kept, status_told}
use Rattle.check_core.proofs.concluding.conclude.Goals as goal

-- there is a log of each verifier
pub returns-in-Some-clause-certified : goal.returns-in-Some-clause-certified
returns-in-Some-clause-certified g c =
    let functions = g.D.Digests.functions c.args.d.now in
    let logs = logs_in c.args.intake.now in
    let whole = logs_counted (λ log. log.items) c.args.intake.now.logs.items c.args.intake.now.header c.args.intake.now.logs.len (omega (arith, c.args.intake.now.logs.ok)) c.args.intake.now.count
    ∙ ap log_count c.in-Some.is in
    subst (λ (n : ℕ). IfOk c.conclude_logs.result (λ found. found.conclusion.certified ≡ n))
    (count-keeping g.T.Kept.keeps (scheme_of functions c.in-Some.header) c.in-Some.header logs (c.args.intake.now.in_range c.in-Some.header c.in-Some.is) whole
    ∙ sym (ap (λ (o : Option Header). certified_at functions o logs) c.in-Some.is))
    c.conclude_logs.ensures.certified

pub returns-in-Some-clause-end : goal.returns-in-Some-clause-end
returns-in-Some-clause-end g c =
    let functions = g.D.Digests.functions c.args.d.now in
    let logs = logs_in c.args.intake.now in
    let whole = logs_counted (λ log. log.items) c.args.intake.now.logs.items c.args.intake.now.header c.args.intake.now.logs.len (omega (arith, c.args.intake.now.logs.ok)) c.args.intake.now.count
    ∙ ap log_count c.in-Some.is in
    status_told (λ found. found.conclusion.end) c.conclude_logs.result _ _
    (status_kept g.T.Kept.keeps functions c.args.intake.now.header c.in-Some.header logs c.args.intake.now.bad c.in-Some.is
    (c.args.intake.now.in_range c.in-Some.header c.in-Some.is) whole)
    c.conclude_logs.ensures.end
