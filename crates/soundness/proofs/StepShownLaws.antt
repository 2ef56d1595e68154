-- What an accepted command leaves to be shown, for laws on commands of both kinds.
use Rattle.std.proofs.Common.{◌≡◌, Bool, List, Ok}
use Rattle.log_codec.specs.declared.command.Command.{Command}
use Rattle.log_codec.specs.declared.slot_command.SlotCommand.{SlotCommand}
use Rattle.record_text.specs.declared.value.Value.{Value}
use Rattle.merkle_records.specs.Merkle.{Digest}
use Rattle.verifier_cache.specs.declared.entry.Entry.{Entry}
use Rattle.verifier_cache.specs.Cache.{AreDistinct}
use Rattle.verifier_commands.specs.declared.state.State.{State}
use Rattle.verifier_commands.specs.declared.slot_state.SlotState.{SlotState}
use Rattle.verifier_commands.specs.Change.{Change}
use Rattle.verifier_commands.specs.Changes.{Family, add_under, evict_under, defer_under}
use Rattle.verifier_commands.specs.Transition.{Rules, transition}
use Rattle.verifier_commands.specs.SlotTransition.{slot_transition}
use Rattle.soundness.specs.Typed.{IsPathTyped, IsSlotTyped}
use Rattle.soundness.specs.Showing.{Shown, ShowSame, IsFresh, shown_by, shown_after}
use Rattle.soundness.specs.SlotHistory.{standing_in, shown_in}
use Rattle.soundness.proofs.ToldLemmas.{told_same, fresh_same}
use Rattle.soundness.proofs.LawfulLemmas.{add_under-paths, evict_under-path, defer_under-path, path_lawful}
use Rattle.soundness.proofs.SlotLawfulLemmas.{slot_lawful}

-- what is shown where commands name paths
pub path_leaves : (rules : Rules) (state : State) (command : Command) (done : Change × State)
    → IsPathTyped rules.scheme.format.longest command → AreDistinct state.cache.entries → transition rules state command ≡ Ok done
    → IsFresh (shown_by state) done.0 → ShowSame (shown_by done.1) (shown_after (shown_by state) done.0) × AreDistinct done.1.cache.entries
path_leaves rules state command done typed distinct is fresh = (path_lawful rules state command done typed distinct is).leaves fresh

-- and where they name slots
pub slot_leaves : (rules : Rules) (state : SlotState) (command : SlotCommand) (done : Change × SlotState)
    → IsSlotTyped rules.scheme.format.longest command → AreDistinct (standing_in state.slots) → slot_transition rules state command ≡ Ok done
    → IsFresh (shown_in state) done.0 → ShowSame (shown_in done.1) (shown_after (shown_in state) done.0) × AreDistinct (standing_in done.1.slots)
slot_leaves rules state command done typed once is fresh = (slot_lawful rules state command done typed once is).leaves fresh

-- caches that show the same do so after one change, and an add is new to both
pub same_after : (a b : Shown) → ShowSame a b → (change : Change) → ShowSame (shown_after a change) (shown_after b change)
same_after a b same change = told_same a b same change

pub fresh_in_both : (a b : Shown) → ShowSame a b → (change : Change) → IsFresh a change → IsFresh b change
fresh_in_both a b same change fresh = fresh_same a b same change fresh

-- a parent keeps its path, and a child has the path that was added
pub added_paths : (digest : Digest) (parent : Entry) (path : List Bool) (value : Value) (family : Family)
    → add_under digest parent path value ≡ Ok family → (family.parent.path ≡ parent.path) × (family.child.path ≡ path)
added_paths digest parent path value family is = add_under-paths digest parent path value family is

pub evicted_path : (digest : Digest) (parent child after : Entry) → evict_under digest parent child ≡ Ok after → after.path ≡ parent.path
evicted_path digest parent child after is = evict_under-path digest parent child after is

pub deferred_path : (parent child after : Entry) → defer_under parent child ≡ Ok after → after.path ≡ parent.path
deferred_path parent child after is = defer_under-path parent child after is
