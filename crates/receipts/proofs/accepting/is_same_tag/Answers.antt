use Rattle.std.proofs.Common.{◌∙◌, sym, refl, arith, eq-eqb, eqb-true}
use Rattle.std.proofs.lemmas.List.{take_all}
use Rattle.receipts.proofs.TagLemmas.{agrees_further}
use Rattle.receipts.proofs.accepting.is_same_tag.Goals as goal

pub loop-place-init : goal.loop-place-init
loop-place-init c = record { same = λ _. refl; zero = λ _. refl }

pub loop-place-preserved : goal.loop-place-preserved
loop-place-preserved c =
    agrees_further c.args.tag.now c.args.other.now c.loop-place.place c.loop-place.differing (omega arith) (c.told-tag ∙ sym c.told-other) c.loop-place.invariant

pub returns : goal.returns
returns c =
    let agrees = c.loop-place.invariant in
    let tag = take_all c.loop-place.place c.args.tag.now (omega arith) in
    let other = take_all c.loop-place.place c.args.other.now (omega arith) in
    record { same = (λ none. sym tag ∙ agrees.same (eqb-true c.loop-place.differing 0 none) ∙ other, λ same. eq-eqb c.loop-place.differing 0 (agrees.zero (tag ∙ same ∙ sym other))) }
