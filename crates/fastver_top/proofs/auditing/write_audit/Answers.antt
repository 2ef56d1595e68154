use Rattle.std.proofs.Common.{Result, Ok, Err, OnErr}
use Rattle.report_text.proofs.PassLaws.{on_err}
use Rattle.fv_outside.proofs.WrittenLaws.{GrowsByFront-more, GrowsByFront-then}
use Rattle.fastver_top.proofs.auditing.write_audit.Goals as goal

-- what follows from what holds where there is an error
err_then : {T E P Q : Type 0} (r : Result T E) → (P → Q) → OnErr r P → OnErr r Q
err_then (Ok answer) then holds = tt
err_then (Err error) then holds = then holds

pub returns-in_err-write_exhibit-clause-front : goal.returns-in_err-write_exhibit-clause-front
returns-in_err-write_exhibit-clause-front g c = on_err c.from_residual.result (GrowsByFront-more _ _ _ _ c.in_err-write_exhibit.ensures.front)

pub returns-clause-front : goal.returns-clause-front
returns-clause-front g c = err_then c.write_last.result (GrowsByFront-then _ _ _ _ _ c.in_ok-write_exhibit.ensures.whole) (rw c.status.ensures.value at c.write_last.ensures.front)
