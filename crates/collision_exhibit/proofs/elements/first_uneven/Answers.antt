-- In the order of their evicts the two lists part at the first uneven epoch.
use Rattle.std.proofs.Common.{◌≡◌, List, Bor, map, ap, ◌∙◌}
use Rattle.record_text.specs.declared.element.Element.{Element}
use Rattle.stamp_order.specs.Merged.{merged}
use Rattle.collision_exhibit.specs.Shown.{added_elements, evicted_elements}
use Rattle.collision_exhibit.specs.Elements.{evict_moment, within, parting}
use Rattle.collision_exhibit.proofs.PartingLemmas.{uneven_parts}
use Rattle.collision_exhibit.proofs.elements.first_uneven.Goals as goal

-- what references point to
abbrev pointed : List (Bor Element) → List Element
pointed items = map (λ e. e.now) items

pub returns : goal.returns
returns c =
    let added : pointed c.deref.result.now ≡ merged evict_moment (within c.args.first c.args.epochs (added_elements c.args.audited.now)) =
    ap pointed c.deref.ensures.value ∙ c.in_ok-added.ensures.order ∙ ap (merged evict_moment) c.in_ok-came_within.ensures.elements in
    let evicted : pointed c.deref-2.result.now ≡ merged evict_moment (within c.args.first c.args.epochs (evicted_elements c.args.audited.now)) =
    ap pointed c.deref-2.ensures.value ∙ c.in_ok-evicted.ensures.order ∙ ap (merged evict_moment) c.in_ok-went_within.ensures.elements in
    record {
      uneven =
          c.parting.ensures.epoch
          ∙ ap (λ (xs : List Element). parting xs (pointed c.deref-2.result.now)) added
          ∙ ap (λ (ys : List Element). parting (merged evict_moment (within c.args.first c.args.epochs (added_elements c.args.audited.now))) ys) evicted
          ∙ uneven_parts c.args.audited.now c.args.first c.args.epochs c.requires.own_stamps;
    }
