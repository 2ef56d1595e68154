-- What a command does for an audit, told from the cache that its verifier had before it.
use Rattle.std.specs.Prelude.{ℕ, Bool, List, Option, Some, None, if◌then◌else◌}
use Rattle.std.specs.Option.{option_map}
use Rattle.lamport_clocks.specs.declared.stamp.Stamp.{Stamp}
use Rattle.record_text.specs.declared.value.Value.{Value}
use Rattle.log_codec.specs.declared.command.Command.{Command}
use Rattle.log_codec.specs.declared.command.Command.TheVariants.{AddM, EvictM, AddB, EvictB, EvictBM, Get, Put, NextEpoch, Absent}
use Rattle.log_codec.specs.declared.slot_command.SlotCommand.{SlotCommand}
use Rattle.log_codec.specs.declared.slot_command.SlotCommand.TheVariants as slots
use Rattle.log_codec.specs.declared.log_command.LogCommand.{LogCommand}
use Rattle.log_codec.specs.declared.log_command.LogCommand.TheVariants.{ByPath, BySlot}
use Rattle.verifier_cache.specs.declared.entry.Entry.{Entry}
use Rattle.verifier_commands.specs.VerifierState.{AnyCache, path_entry, slot_entry}
use Rattle.verifier_commands.specs.Changes.{above}
use Rattle.verifier_commands.specs.Transition.{evicted_as}
use Rattle.soundness.specs.Clash.{is_known}
use Rattle.collision_exhibit.specs.declared.audit_event.AuditChange.{AuditChange}
use Rattle.collision_exhibit.specs.declared.audit_event.AuditChange.TheVariants as audits

-- a record comes in by its digest; it is told of where its parent is cached and the parent's pointer leads to it
abbrev pub added_under : Option Entry → List Bool → Value → Option AuditChange
added_under None path value = None
added_under (Some holder) path value = if is_known (above holder path) path then Some (audits.AddM path value) else None

-- a record goes out into its parent
abbrev pub evicted_m : Entry → AuditChange
evicted_m entry = audits.EvictM entry.path entry.value

-- a record goes out with a stamp of the verifier of this number
abbrev pub evicted_with : ℕ → Stamp → Entry → AuditChange
evicted_with number stamp entry = audits.EvictB (evicted_as number entry stamp)

-- what a command that names paths does for an audit, by the entries that are found of paths
abbrev pub path_audit_change : ℕ → (List Bool → Option Entry) → Command → Option AuditChange
path_audit_change number found (AddM path value parent) = added_under (found parent) path value
path_audit_change number found (EvictM path parent) = option_map evicted_m (found path)
path_audit_change number found (AddB path value stamp verifier) =
    Some (audits.AddB (record { path = path; value = value; stamp = stamp; verifier = verifier }))
path_audit_change number found (EvictB path stamp) = option_map (evicted_with number stamp) (found path)
path_audit_change number found (EvictBM path parent stamp) = option_map (evicted_with number stamp) (found path)
path_audit_change number found (Get path value) = None
path_audit_change number found (Put path value) = None
path_audit_change number found NextEpoch = None
path_audit_change number found (Absent path parent) = None

-- what a command that names slots does for it, by the entries that are found in slots
abbrev pub slot_audit_change : ℕ → (ℕ → Option Entry) → SlotCommand → Option AuditChange
slot_audit_change number found (slots.AddM slot path value parent) = added_under (found parent) path value
slot_audit_change number found (slots.EvictM slot parent) = option_map evicted_m (found slot)
slot_audit_change number found (slots.AddB slot path value stamp verifier) =
    Some (audits.AddB (record { path = path; value = value; stamp = stamp; verifier = verifier }))
slot_audit_change number found (slots.EvictB slot stamp) = option_map (evicted_with number stamp) (found slot)
slot_audit_change number found (slots.EvictBM slot parent stamp) = option_map (evicted_with number stamp) (found slot)
slot_audit_change number found (slots.Get slot value) = None
slot_audit_change number found (slots.Put slot value) = None
slot_audit_change number found slots.NextEpoch = None
slot_audit_change number found (slots.Absent path parent) = None

-- What a command of the verifier of this number does for an audit, by the cache before it.
abbrev pub audit_change_of : ℕ → AnyCache → LogCommand → Option AuditChange
audit_change_of number cache (ByPath command) = path_audit_change number (path_entry cache) command
audit_change_of number cache (BySlot command) = slot_audit_change number (slot_entry cache) command
