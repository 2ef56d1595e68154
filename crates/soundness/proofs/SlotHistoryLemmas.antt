-- The events of a log whose commands name slots are a history.
use Rattle.std.proofs.Common.{◌≡◌, ℕ, zero, suc, ◌-◌, ◌==◌, Bool, true, false, List, [], ◌∷◌, Some, if◌then◌else◌, refl, sym, ap, subst}
use Rattle.std.specs.List.{AllByRecursion}
use Rattle.lamport_clocks.specs.declared.header.Header.{Header}
use Rattle.record_text.specs.Tree.{wide_of}
use Rattle.log_codec.specs.declared.slot_command.SlotCommand.{SlotCommand}
use Rattle.merkle_records.specs.Scheme.{Scheme}
use Rattle.verifier_cache.specs.declared.entry.Entry.{Entry}
use Rattle.verifier_cache.specs.Cache.{entry_of, AreDistinct}
use Rattle.verifier_cache.specs.Slots.{empty_slots}
use Rattle.verifier_commands.specs.State.{root_entry, opening}
use Rattle.verifier_commands.specs.SlotTransition.{slot_opening}
use Rattle.soundness.specs.Typed.{IsSlotTyped}
use Rattle.soundness.specs.StateHistory.{rules_under}
use Rattle.soundness.specs.Showing.{ShowSame, opening_shown}
use Rattle.soundness.specs.SlotHistory.{standing_in, shown_in, slot_machinery_of, slot_log_events}
use Rattle.soundness.specs.IsHistory.{IsTimely, IsHistory}
use Rattle.soundness.proofs.LawfulLemmas.{opening-distinct}
use Rattle.soundness.proofs.MachineryLemmas.{machinery_timely, machinery_history}
use Rattle.soundness.proofs.SlotLawfulLemmas.{HasEachOnce, slot_lawful, slot_timely}

-- ---- the start

-- nothing stands in empty slots
none_standing : (count : ℕ) → standing_in (empty_slots count) ≡ []
none_standing zero = refl
none_standing (suc count) = none_standing count

-- at the start the slots hold what a cache by paths holds
opening_standing : (number : ℕ) (header : Header) → standing_in (slot_opening number header).slots ≡ (opening number header).cache.entries
opening_standing number header = go (number == 0)
  where
    go : (b : Bool)
        → standing_in (if b then Some (root_entry (wide_of header)) ∷ empty_slots (header.cache - 1) else empty_slots header.cache)
        ≡ (if b then root_entry (wide_of header) ∷ [] else [])
    go true = ap (λ (more : List Entry). root_entry (wide_of header) ∷ more) (none_standing (header.cache - 1))
    go false = none_standing header.cache

-- so they show the same
pub slot_opening_shown : (number : ℕ) (header : Header) → ShowSame (shown_in (slot_opening number header)) (opening_shown header number)
slot_opening_shown number header path = ap (entry_of path) (opening_standing number header)

-- and hold each path once
pub slot_opening_once : (number : ℕ) (header : Header) → HasEachOnce (slot_opening number header)
slot_opening_once number header = subst AreDistinct (sym (opening_standing number header)) (opening-distinct number header)

-- ---- a log

-- The events of a log are timely, whatever its commands.
pub slot_log_timely : (scheme : Scheme) (header : Header) (number : ℕ) (commands : List SlotCommand)
    → IsTimely header number (slot_log_events scheme header number commands)
slot_log_timely scheme header number commands =
    machinery_timely scheme.format.longest scheme.digest (slot_machinery_of scheme header number) (λ state. state.clock) header number
    (slot_opening number header) commands refl (λ state. refl) (slot_timely (rules_under scheme header number))

-- Those of typed commands are a history.
pub slot_log_history : (scheme : Scheme) (header : Header) (number : ℕ) (commands : List SlotCommand)
    → AllByRecursion (IsSlotTyped scheme.format.longest) commands
    → IsHistory scheme.format.longest scheme.digest header number (slot_log_events scheme header number commands)
slot_log_history scheme header number commands typed =
    machinery_history scheme.format.longest scheme.digest (slot_machinery_of scheme header number) (λ state. state.clock) header number
    shown_in HasEachOnce (IsSlotTyped scheme.format.longest) (slot_opening number header) commands refl
    (λ state. refl) (slot_timely (rules_under scheme header number)) (slot_lawful (rules_under scheme header number))
    (slot_opening_shown number header) (slot_opening_once number header) typed
