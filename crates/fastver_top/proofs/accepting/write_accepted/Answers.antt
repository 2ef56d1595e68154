use Rattle.std.proofs.Common.{◌++◌, Result, Ok, Err, OnOk, OnErr, subst}
use Rattle.std.specs.Prelude.{codes}
use Rattle.report_text.proofs.PassLaws.{on_err}
use Rattle.fv_outside.specs.Written.{Grows, GrowsByFront}
use Rattle.fv_outside.proofs.WrittenLaws.{Grows-then, GrowsByFront-more, GrowsByFront-then}
use Rattle.record_text.specs.declared.operation.Operation.{Operation}
use Rattle.report_text.specs.Lines.{operation_line}
use Rattle.fastver_top.proofs.accepting.write_accepted.Goals as goal

-- what follows from what holds where it was written
ok_then : {T E P Q : Type 0} (r : Result T E) → (P → Q) → OnOk r P → OnOk r Q
ok_then (Ok answer) then holds = then holds
ok_then (Err error) then holds = tt

-- what follows from what holds where there is an error
err_then : {T E P Q : Type 0} (r : Result T E) → (P → Q) → OnErr r P → OnErr r Q
err_then (Ok answer) then holds = tt
err_then (Err error) then holds = then holds

pub returns-in_err-write_all-clause-front : goal.returns-in_err-write_all-clause-front
returns-in_err-write_all-clause-front g c = on_err c.from_residual.result (GrowsByFront-more _ _ _ _ c.in_err-write_all.ensures.front)

pub returns-clause-whole : goal.returns-clause-whole
returns-clause-whole g c =
    subst (λ (operation : Operation). OnOk c.write_operation.result (Grows (g.O.Sink.held c.args.out.now) (g.O.Sink.held c.write_operation.new.sink) (codes "accepted " ++ operation_line operation)))
    c.by_ref.ensures.value
    (ok_then c.write_operation.result (Grows-then _ _ _ _ _ c.in_ok-write_all.ensures.whole) c.write_operation.ensures.whole)

pub returns-clause-front : goal.returns-clause-front
returns-clause-front g c =
    subst (λ (operation : Operation). OnErr c.write_operation.result (GrowsByFront (g.O.Sink.held c.args.out.now) (g.O.Sink.held c.write_operation.new.sink) (codes "accepted " ++ operation_line operation)))
    c.by_ref.ensures.value
    (err_then c.write_operation.result (GrowsByFront-then _ _ _ _ _ c.in_ok-write_all.ensures.whole) c.write_operation.ensures.front)
