use Rattle.std.proofs.Common.{◌<◌, List, [], length, sym, ◌∙◌, subst}
use Rattle.std.proofs.lemmas.List.{get_or_default}
use Rattle.record_text.specs.declared.operation.Operation.{Operation}
use Rattle.stamp_order.proofs.PlaceLemmas.{some-first, none-first}
use Rattle.stamp_order.proofs.merger.has_some.Goals as goal

pub returns-clause-some : goal.returns-clause-some
returns-clause-some c = λ is.
    subst (λ (list : List Operation). 0 < length list) (c.index-lists-place.is ∙ get_or_default c.args.lists.now c.args.place c.index-lists-place.result [] c.requires.within)
    (some-first c.index-lists-place.result c.first.result c.first.ensures.value (sym c.is_some.ensures ∙ is))

pub returns-clause-none : goal.returns-clause-none
returns-clause-none c = λ is.
    sym (c.index-lists-place.is ∙ get_or_default c.args.lists.now c.args.place c.index-lists-place.result [] c.requires.within)
    ∙ none-first c.index-lists-place.result c.first.result c.first.ensures.value (sym c.is_some.ensures ∙ is)
