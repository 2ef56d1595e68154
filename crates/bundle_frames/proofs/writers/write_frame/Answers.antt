use Rattle.std.proofs.Common.{◌++◌, List, ℕ, Result, Ok, Err, subst}
use Rattle.std.specs.Prelude.{OnErr}
use Rattle.std.proofs.lemmas.Result.{on_err_weaker}
use Rattle.fv_outside.specs.Written.{GrowsByFront}
use Rattle.fv_outside.proofs.WrittenLaws.{GrowsByFront-more, GrowsByFront-then}
use Rattle.bundle_frames.proofs.writers.write_frame.Goals as goal

OnErr_from : {T E P : Type 0} (r : Result T E) → P → OnErr r P
OnErr_from (Ok x) p = tt
OnErr_from (Err e) p = p

-- the head failed
pub returns-in_err-write_all-clause-front : goal.returns-in_err-write_all-clause-front
returns-in_err-write_all-clause-front g c =
    let held = g.O.Sink.held in
    let body = c.args.body.now in
    let Front : List ℕ → Type 0 = λ head. GrowsByFront (held c.args.sink.now) (held c.write_all.new.sink) (head ++ body) in
    OnErr_from _ (subst Front c.spell_head.ensures.text (GrowsByFront-more _ _ _ body c.in_err-write_all.ensures.front))

-- the head was written, and then the body
pub returns-clause-front : goal.returns-clause-front
returns-clause-front g c =
    let held = g.O.Sink.held in
    let body = c.args.body.now in
    let Front : List ℕ → Type 0 = λ head. GrowsByFront (held c.args.sink.now) (held c.write_all-2.new.sink) (head ++ body) in
    on_err_weaker c.write_all-2.result
    (λ front. subst Front c.spell_head.ensures.text (GrowsByFront-then _ _ _ _ body c.in_ok-write_all.ensures.whole front))
    c.write_all-2.ensures.front
