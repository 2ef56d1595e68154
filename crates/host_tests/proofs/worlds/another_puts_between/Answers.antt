use Rattle.std.proofs.Common.{List, map, sym, ap, subst, ◌∙◌}
use Rattle.record_text.specs.declared.request.Request.{Request}
use Rattle.host_core.specs.WorldEvent.{WorldEvent}
use Rattle.host_world.specs.Shown.{shown_event}
use Rattle.host_world.specs.Worked.{AreEnabledBehind, two_shards, most, two_at_five}
use Rattle.host_tests.proofs.worlds.another_puts_between.Goals as goal

pub assert_order-requires : goal.assert_order-requires
assert_order-requires g c = record {
  enabled = λ functions.
      subst (λ (events : List (WorldEvent Request)). AreEnabledBehind functions (two_shards 2 most) two_at_five events)
      (sym (ap (map shown_event) c.as_slice.ensures.value ∙ c.put_between-events.ensures.events))
      (c.orders_of_two_workers_are_enabled.ensures.between functions);
}
