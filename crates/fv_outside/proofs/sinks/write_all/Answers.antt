use Rattle.std.proofs.Common.{◌≡◌, ℕ, ◌-◌, ◌≤◌, List, length, take, drop, ◌∙◌, arith, length-drop}
use Rattle.std.proofs.lemmas.Grind.{common_steps}
use Rattle.std.proofs.lemmas.Result.{err_from_is_err_and}
use Rattle.fv_outside.proofs.WrittenLaws.{Grows-more, GrowsByFront-part}
use Rattle.fv_outside.proofs.sinks.write_all.Goals as goal

pub returns-in_err-done-clause-front : goal.returns-in_err-done-clause-front
returns-in_err-done-clause-front g c =
    let p = err_from_is_err_and c.from_residual.result c.from_residual.ensures.1 in
    rw p.1 (GrowsByFront-part _ _ _ c.loop-done.done c.args.text.now c.loop-done.invariant.grown c.in_err-done.ensures.bytes)

pub loop-done-preserved : goal.loop-done-preserved
loop-done-preserved g c =
    let text : List ℕ = c.args.text.now in
    let done = c.loop-done.done in
    let rest : take (length text - done) (drop done text) ≡ drop done text = grind (arith, common_steps) in
    let bytes = rw rest at c.in_ok-done.ensures.bytes in
    let taken : c.in_ok-done.field-0 ≤ length (drop done text) = rw rest at c.in_ok-done.ensures.bound.1 in
    record {
      within = omega (arith, length-drop done text, taken);
      grown = Grows-more _ _ _ done c.in_ok-done.field-0 text c.loop-done.invariant.grown bytes;
      name = c.in_ok-done.ensures.name ∙ c.loop-done.invariant.name;
      counted = omega (arith, c.in_ok-done.ensures.counts.never_falls);
    }
