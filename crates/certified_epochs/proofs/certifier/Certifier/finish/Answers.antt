use Rattle.std.proofs.Common.{List, ℕ, ◌∙◌, ap, subst}
use Rattle.fv_outside.specs.Written.{GrowsByFront}
use Rattle.report_text.specs.declared.ending.BundleEnd.{BundleEnd}
use Rattle.report_text.specs.Ending.{status_of}
use Rattle.report_text.specs.Status.{last_line}
use Rattle.certified_epochs.proofs.certifier.Certifier.finish.Goals as goal

pub returns-in-Err-clause-front : goal.returns-in-Err-clause-front
returns-in-Err-clause-front g c = λ scheme header logs taken all.
    subst (λ (line : List ℕ). GrowsByFront (g.O.Sink.held c.args.out.now) (g.O.Sink.held c.write_last.new.sink) line)
    (ap last_line c.status.ensures.value ∙ ap (λ (e : BundleEnd). last_line (status_of e)) (c.end-end.ensures.end scheme header logs taken all))
    c.in-Err.ensures.front
