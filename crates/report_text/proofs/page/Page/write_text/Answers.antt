use Rattle.fv_outside.proofs.WrittenLaws.{GrowsByFront-then}
use Rattle.report_text.proofs.PassLaws.{Passes-whole, ok_then, err_then}
use Rattle.report_text.proofs.page.Page.write_text.Goals as goal

pub returns-in-Ok-clause-whole : goal.returns-in-Ok-clause-whole
returns-in-Ok-clause-whole g c =
    ok_then c.write_all.result (λ grown. Passes-whole _ _ _ _ _ _ c.flush.ensures.empty c.in-Ok.ensures.whole grown) c.write_all.ensures.whole

pub returns-in-Ok-clause-front : goal.returns-in-Ok-clause-front
returns-in-Ok-clause-front g c =
    err_then c.write_all.result (λ front. GrowsByFront-then _ _ _ _ _ c.in-Ok.ensures.whole front) c.write_all.ensures.front
