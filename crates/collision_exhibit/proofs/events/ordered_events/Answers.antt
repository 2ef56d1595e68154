-- A stable sort by the moments leaves the merged list.
use Rattle.std.proofs.Common.{rules, ap, ◌∙◌}
use Rattle.std.proofs.lemmas.List.Sorted.{answers_always}
use Rattle.stamp_order.specs.Merged.{merged}
use Rattle.stamp_order.proofs.MergedLaws.{merged-from_stable}
use Rattle.collision_exhibit.specs.AuditEvent.{audit_moment}
use Rattle.collision_exhibit.proofs.events.ordered_events.Goals as goal

pub returns : goal.returns
returns c = record {
  ordered =
      merged-from_stable audit_moment _ _
      (c.in_ok-sort_by_key.ensures.sorted audit_moment (answers_always _ _ _ (λ f a r g h. search rules)))
      (c.in_ok-sort_by_key.ensures.stable audit_moment (answers_always _ _ _ (λ f a r g h. search rules)))
      ∙ ap (merged audit_moment) c.in_ok-audited.ensures.events;
}
