-- A stable sort by the moments leaves the merged list.
use Rattle.std.proofs.Common.{rules, Bor, map, ap, ◌∙◌}
use Rattle.std.proofs.lemmas.List.Sorted.{answers_always}
use Rattle.record_text.specs.declared.element.Element.{Element}
use Rattle.stamp_order.specs.declared.moment.Moment.{Moment}
use Rattle.stamp_order.proofs.MapLaws.{merged-map}
use Rattle.stamp_order.proofs.MergedLaws.{merged-from_stable}
use Rattle.collision_exhibit.specs.Elements.{evict_moment}
use Rattle.collision_exhibit.proofs.elements.in_order.Goals as goal

-- the moment of the element behind a reference
abbrev moment : Bor Element → Moment
moment e = evict_moment e.now

pub returns : goal.returns
returns c = record {
  order =
      ap (map (λ (e : Bor Element). e.now))
      (merged-from_stable moment _ _ (c.in_ok-sort_by_key.ensures.sorted moment (answers_always _ _ _ (λ f a r g h. search rules)))
      (c.in_ok-sort_by_key.ensures.stable moment (answers_always _ _ _ (λ f a r g h. search rules))))
      ∙ merged-map evict_moment (λ (e : Bor Element). e.now) c.args.elements.items;
}
