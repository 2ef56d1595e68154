-- A verifier that keeps entries by path and one that keeps them by slot hold the same.
use Rattle.std.specs.Prelude.{◌≡◌, Bool, List, length, map, Option}
use Rattle.std.specs.Option.{option_map}
use Rattle.slot_rewriting.specs.Rewriting.{SlotPaths}
use Rattle.slot_rewriting.specs.Indexed.{taken}
use Rattle.verifier_cache.specs.declared.entry.Entry.{Entry}
use Rattle.verifier_cache.specs.Cache.{AreDistinct}
use Rattle.verifier_cache.specs.Slots.{Slots}
use Rattle.verifier_commands.specs.declared.state.State.{State}
use Rattle.verifier_commands.specs.declared.slot_state.SlotState.{SlotState}
use Rattle.soundness.specs.Showing.{shown_by, ShowSame}
use Rattle.soundness.specs.SlotHistory.{standing_in, shown_in}

-- the path that stands in a slot
abbrev pub path_of_slot : Option Entry → Option (List Bool)
path_of_slot slot = option_map (λ entry. entry.path) slot

-- which path stands in each slot
abbrev pub paths_in : Slots → SlotPaths
paths_in slots = map path_of_slot slots

-- the states show the same of each path, at one clock, and have room for as many entries
pub record AreAlike (state : State) (slotted : SlotState) : Type 0 where
  pub clock : slotted.clock ≡ state.clock
  pub shown : ShowSame (shown_by state) (shown_in slotted)
  pub distinct : AreDistinct state.cache.entries
  pub once : AreDistinct (standing_in slotted.slots)
  pub room : length slotted.slots ≡ state.cache.room
  pub count : length state.cache.entries ≡ taken (paths_in slotted.slots)
