-- From one world to another by events that are enabled, and the first end of a clock among them.
use Rattle.std.specs.Prelude.{◌≡◌, List, [], ◌∷◌, ◌++◌, Option, Some, None}
use Rattle.host_core.specs.Host.{Host}
use Rattle.host_core.specs.World.{World}
use Rattle.host_core.specs.WorldEvent.{WorldEvent, IsEnabled, AreEnabled, step, run_events}
use Rattle.host_world.specs.declared.fault.ClockEnd.{ClockEnd}
use Rattle.host_world.specs.Ending.{end_of}

-- the first of two ends, if either is there
abbrev pub first_of : Option ClockEnd → Option ClockEnd → Option ClockEnd
first_of None later = later
first_of (Some end) later = Some end

-- The first end that events come to.
abbrev pub first_end : {C R : Type 0} → Host C R → World C → List (WorldEvent R) → Option ClockEnd
first_end host world [] = None
first_end host world (event ∷ events) = first_of (end_of host world event) (first_end host (step host world event) events)

-- These events are enabled and lead from the first world to the other, and this is the first end that they come to, if any.
pub record LeadsBy {C R : Type 0} (host : Host C R) (world later : World C) (end : Option ClockEnd) (events : List (WorldEvent R)) : Type 0 where
  pub enabled : AreEnabled host world events
  pub is : later ≡ run_events host world events
  pub first : first_end host world events ≡ end

-- So do events of this form.
pub record LeadsAs {C R : Type 0} (Form : Host C R → World C → List (WorldEvent R) → Type 0) (host : Host C R) (world later : World C)
    (end : Option ClockEnd) : Type 0 where
  pub events : List (WorldEvent R)
  pub enabled : AreEnabled host world events
  pub is : later ≡ run_events host world events
  pub first : first_end host world events ≡ end
  pub form : Form host world events

-- So does a front of these events, and the rest is not done.
pub record LeadsByFront {C R : Type 0} (host : Host C R) (world later : World C) (events : List (WorldEvent R)) : Type 0 where
  pub front : List (WorldEvent R)
  pub rest : List (WorldEvent R)
  pub parts : events ≡ front ++ rest
  pub end : Option ClockEnd
  pub way : LeadsBy host world later end front

-- Events that are enabled lead from the first world to the other, and this is the first end that they come to, if any.
pub record Leads {C R : Type 0} (host : Host C R) (world later : World C) (end : Option ClockEnd) : Type 0 where
  pub events : List (WorldEvent R)
  pub enabled : AreEnabled host world events
  pub is : later ≡ run_events host world events
  pub first : first_end host world events ≡ end

-- Enabled events lead from the first world to the other, whatever they come to.
abbrev pub LeadsTo : {C R : Type 0} → Host C R → World C → World C → Type 0
LeadsTo host world later = (end : Option ClockEnd) × Leads host world later end

-- no event is enabled any more
abbrev pub CanDoNoMore : {C R : Type 0} → Host C R → World C → Type 0
CanDoNoMore {C} {R} host world = (event : WorldEvent R) → IsEnabled host world event → ⊥
