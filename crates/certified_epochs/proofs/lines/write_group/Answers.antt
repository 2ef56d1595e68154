use Rattle.std.proofs.Common.{ℕ, List, sym, subst}
use Rattle.report_text.specs.Page.{Passes}
use Rattle.report_text.proofs.PassLaws.{Passes-start}
use Rattle.certified_epochs.proofs.PieceLemmas.{lines-nothing}
use Rattle.certified_epochs.proofs.lines.write_group.Goals as goal

pub returns-in-Nothing-clause-whole : goal.returns-in-Nothing-clause-whole
returns-in-Nothing-clause-whole g c =
    subst (λ (text : List ℕ). Passes (g.O.Sink.held c.args.out.now) c.args.page.now text (g.O.Sink.held c.args.out.now) c.args.page.now)
    (sym (lines-nothing g.D.Digests.functions c.args.telling.now c.args.group.now c.in-Nothing.is))
    (Passes-start (g.O.Sink.held c.args.out.now) c.args.page.now)
