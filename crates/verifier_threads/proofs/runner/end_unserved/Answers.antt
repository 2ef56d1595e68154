use Rattle.std.proofs.Common.{ℕ, List, Option, sym, ◌∙◌, subst}
use Rattle.fv_outside.specs.Written.{Grows, GrowsByFront}
use Rattle.report_text.specs.declared.status.Status.{Status}
use Rattle.verifier_threads.specs.declared.ending.RunEnd.TheVariants as ends
use Rattle.verifier_threads.specs.Serving.{status_at}
use Rattle.verifier_threads.specs.Running.{ending_for}
use Rattle.verifier_threads.proofs.PassingLemmas.{err_any}
use Rattle.verifier_threads.proofs.NothingLemmas.{nothing-served, nothing-cut}
use Rattle.verifier_threads.proofs.runner.end_unserved.Goals as goal

pub returns-clause-served : goal.returns-clause-served
returns-clause-served g c = λ own settings script outputs is written.
    let laws = c.logs_of_no_bytes_certify_nothing.ensures in
    let account = c.args.account.now in
    let rounds = c.args.rounds.now in
    let out' = g.O.Sink.held c.write_ending.new.out in
    nothing-served laws.lines laws.epochs laws.operations laws.texts own settings script is.short account rounds c.args.end outputs.vault outputs.vault_after outputs.out out' is.end_is
    is.keeps.runs is.none is.keeps.vault
    (subst (λ (o : Option (List ℕ)). Grows o out' (ending_for account rounds (status_at (ends.ClockEnd c.args.end)))) (sym written ∙ is.unwritten)
    (subst (λ (s : Status). Grows (g.O.Sink.held c.args.out.now) out' (ending_for account rounds s)) c.status.ensures.value c.in_ok-write_ending.ensures.whole))

pub returns-in_err-write_ending-clause-cut : goal.returns-in_err-write_ending-clause-cut
returns-in_err-write_ending-clause-cut g c = λ own settings script outputs is written.
    let laws = c.logs_of_no_bytes_certify_nothing.ensures in
    let account = c.args.account.now in
    let rounds = c.args.rounds.now in
    let out' = g.O.Sink.held c.write_ending.new.out in
    err_any c.from_residual.result
    (nothing-cut laws.lines laws.epochs laws.operations laws.texts own settings script is.short account rounds c.args.end outputs.vault outputs.vault_after outputs.out out' is.end_is
    is.keeps.runs is.none is.keeps.vault
    (subst (λ (o : Option (List ℕ)). GrowsByFront o out' (ending_for account rounds (status_at (ends.ClockEnd c.args.end)))) (sym written ∙ is.unwritten)
    (subst (λ (s : Status). GrowsByFront (g.O.Sink.held c.args.out.now) out' (ending_for account rounds s)) c.status.ensures.value c.in_err-write_ending.ensures.front)))
