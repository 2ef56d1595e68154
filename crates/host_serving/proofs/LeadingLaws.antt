-- Ways from world to world: one event, one way behind another, and logs in front.
use Rattle.std.proofs.Common.{◌≡◌, List, [], ◌∷◌, ◌++◌, Option, Some, None, refl, sym, ◌∙◌, ap, subst}
use Rattle.log_codec.specs.declared.command.Command.{Command}
use Rattle.host_core.specs.Host.{Host}
use Rattle.host_core.specs.World.{World}
use Rattle.host_core.specs.WorldEvent.{WorldEvent, IsEnabled, AreEnabled, step, run_events}
use Rattle.host_core.proofs.EventLaws.{enabled-append, run-append}
use Rattle.host_world.specs.declared.fault.ClockEnd.{ClockEnd}
use Rattle.host_world.specs.Ending.{end_of}
use Rattle.host_world.specs.Behind.{with_logs}
use Rattle.host_world.proofs.FrontLaws.{enabled_with, step_with, ends_with}
use Rattle.host_serving.specs.Leading.{first_of, first_end, LeadsBy, Leads}

-- nothing before, and nothing behind
pub first_of-none : (end : Option ClockEnd) → first_of end None ≡ end
first_of-none None = refl
first_of-none (Some end) = refl

pub first_of-assoc : (x y z : Option ClockEnd) → first_of (first_of x y) z ≡ first_of x (first_of y z)
first_of-assoc None y z = refl
first_of-assoc (Some end) y z = refl

module _ {C R : Type 0} (host : Host C R) where
  pub first_end-append : (world : World C) (xs ys : List (WorldEvent R))
      → first_end host world (xs ++ ys) ≡ first_of (first_end host world xs) (first_end host (run_events host world xs) ys)
  first_end-append world [] ys = refl
  first_end-append world (x ∷ xs) ys =
      ap (first_of (end_of host world x)) (first_end-append (step host world x) xs ys)
      ∙ sym (first_of-assoc (end_of host world x) (first_end host (step host world x) xs) (first_end host (run_events host (step host world x) xs) ys))

  -- ---- by these events

  -- No event leads from a world to itself.
  pub by-none : (world : World C) → LeadsBy host world world None []
  by-none world = record { enabled = tt; is = refl; first = refl }

  -- One event leads to what it makes of the world.
  pub by-one : (world later : World C) (event : WorldEvent R) (end : Option ClockEnd) → IsEnabled host world event
      → later ≡ step host world event → end ≡ end_of host world event → LeadsBy host world later end (event ∷ [])
  by-one world later event end enabled is ends = record {
    enabled = (enabled, tt);
    is = is;
    first = first_of-none (end_of host world event) ∙ sym ends;
  }

  -- One way behind another.
  pub by-then : (world middle later : World C) (first second : Option ClockEnd) (xs ys : List (WorldEvent R)) → LeadsBy host world middle first xs
      → LeadsBy host middle later second ys → LeadsBy host world later (first_of first second) (xs ++ ys)
  by-then world middle later first second xs ys one two = record {
    enabled = enabled-append host world xs ys one.enabled (subst (λ (w : World C). AreEnabled host w ys) one.is two.enabled);
    is = two.is ∙ ap (λ (w : World C). run_events host w ys) one.is ∙ sym (run-append host world xs ys);
    first = first_end-append world xs ys
        ∙ ap (λ (w : World C). first_of (first_end host world xs) (first_end host w ys)) (sym one.is)
        ∙ ap (λ (e : Option ClockEnd). first_of e (first_end host middle ys)) one.first
        ∙ ap (first_of first) two.first;
  }

  -- ---- by some events

  by : (world later : World C) (end : Option ClockEnd) (way : Leads host world later end) → LeadsBy host world later end way.events
  by world later end way = record { enabled = way.enabled; is = way.is; first = way.first }

  -- what these events lead to, some do
  pub leads-by : (world later : World C) (end : Option ClockEnd) (events : List (WorldEvent R)) → LeadsBy host world later end events → Leads host world later end
  leads-by world later end events way = record { events = events; enabled = way.enabled; is = way.is; first = way.first }

  pub leads-none : (world : World C) → Leads host world world None
  leads-none world = leads-by world world None [] (by-none world)

  pub leads-one : (world later : World C) (event : WorldEvent R) (end : Option ClockEnd) → IsEnabled host world event
      → later ≡ step host world event → end ≡ end_of host world event → Leads host world later end
  leads-one world later event end enabled is ends = leads-by world later end (event ∷ []) (by-one world later event end enabled is ends)

  pub leads-then : (world middle later : World C) (first second : Option ClockEnd) → Leads host world middle first
      → Leads host middle later second → Leads host world later (first_of first second)
  leads-then world middle later first second one two =
      leads-by world later (first_of first second) (one.events ++ two.events)
      (by-then world middle later first second one.events two.events (by world middle first one) (by middle later second two))

  module _ (logs : List (List Command)) where
    enabled-with : (world : World C) (events : List (WorldEvent R)) → AreEnabled host world events → AreEnabled host (with_logs logs world) events
    enabled-with world [] enabled = tt
    enabled-with world (event ∷ events) enabled = (
      enabled_with host logs world event enabled.0,
      subst (λ (w : World C). AreEnabled host w events) (sym (step_with host logs world event)) (enabled-with (step host world event) events enabled.1),
    )

    pub run-with : (world : World C) (events : List (WorldEvent R)) → with_logs logs (run_events host world events) ≡ run_events host (with_logs logs world) events
    run-with world [] = refl
    run-with world (event ∷ events) =
        run-with (step host world event) events ∙ ap (λ (w : World C). run_events host w events) (sym (step_with host logs world event))

    pub first-with : (world : World C) (events : List (WorldEvent R)) → first_end host (with_logs logs world) events ≡ first_end host world events
    first-with world [] = refl
    first-with world (event ∷ events) =
        ap (λ (w : World C). first_of (end_of host (with_logs logs world) event) (first_end host w events)) (step_with host logs world event)
        ∙ ap (first_of (end_of host (with_logs logs world) event)) (first-with (step host world event) events)
        ∙ ap (λ (e : Option ClockEnd). first_of e (first_end host (step host world event) events)) (ends_with host logs world event)

    -- The same events lead from world to world where logs were handed out before.
    pub by-with : (world later : World C) (end : Option ClockEnd) (events : List (WorldEvent R)) → LeadsBy host world later end events
        → LeadsBy host (with_logs logs world) (with_logs logs later) end events
    by-with world later end events way = record {
      enabled = enabled-with world events way.enabled;
      is = ap (with_logs logs) way.is ∙ run-with world events;
      first = first-with world events ∙ way.first;
    }

    pub leads-with : (world later : World C) (end : Option ClockEnd) → Leads host world later end
        → Leads host (with_logs logs world) (with_logs logs later) end
    leads-with world later end way =
        leads-by (with_logs logs world) (with_logs logs later) end way.events (by-with world later end way.events (by world later end way))
