-- The commands of a log that was read: all of one kind, and in the ranges of version 3 too.
use Rattle.std.proofs.Common.{◌≡◌, ℕ, ◌≤◌, Bool, true, false, List, [], ◌∷◌, map, Option, Some, None, refl, ap, arith}
use Rattle.std.specs.List.{AllByRecursion}
use Rattle.record_text.specs.declared.value.Value.{Value}
use Rattle.record_text.specs.declared.value.Value.TheVariants as values
use Rattle.record_text.specs.Value.{IsBlob, IsOf}
use Rattle.log_codec.specs.declared.command.Command.{Command}
use Rattle.log_codec.specs.declared.command.Command.TheVariants as paths
use Rattle.log_codec.specs.declared.slot_command.SlotCommand.{SlotCommand}
use Rattle.log_codec.specs.declared.slot_command.SlotCommand.TheVariants as slots
use Rattle.log_codec.specs.declared.log_command.LogCommand.{LogCommand}
use Rattle.log_codec.specs.declared.log_command.LogCommand.TheVariants.{ByPath, BySlot}
use Rattle.log_codec.specs.Command.{IsPathCommand, IsCommandIn}
use Rattle.log_codec.specs.SlotCommand.{IsSlotCommand}
use Rattle.log_codec.specs.LogCommand.{IsCommandBy}
use Rattle.rewriting_laws.specs.RewrittenLog.{IsOfKind}
use Rattle.bundle_upgrade.specs.Upgraded.{path_commands}

-- ---- a longer value may be longer still

module _ (longest more : ℕ) (longer : longest ≤ more) where
  blob_fits : (blob : Option (List ℕ)) → IsBlob longest blob → IsBlob more blob
  blob_fits None is = tt
  blob_fits (Some bytes) is = omega (arith, is, longer)

  value_fits : (path : List Bool) (value : Value) → IsOf longest path value → IsOf more path value
  value_fits path (values.Blob blob) is = (is.0, blob_fits blob is.1)
  value_fits path (values.Node node) is = is

  path_fits : (command : Command) → IsPathCommand longest command → IsPathCommand more command
  path_fits (paths.AddM path value parent) is = (value_fits path value is.0, is.1)
  path_fits (paths.EvictM path parent) is = is
  path_fits (paths.AddB path value stamp verifier) is = (value_fits path value is.0, is.1, is.2)
  path_fits (paths.EvictB path stamp) is = is
  path_fits (paths.EvictBM path parent stamp) is = is
  path_fits (paths.Get path value) is = value_fits path value is
  path_fits (paths.Put path value) is = value_fits path value is
  path_fits paths.NextEpoch is = tt
  path_fits (paths.Absent path parent) is = is

  slot_fits : (command : SlotCommand) → IsSlotCommand longest command → IsSlotCommand more command
  slot_fits (slots.AddM slot path value parent) is = (is.0, value_fits path value is.1, is.2)
  slot_fits (slots.EvictM slot parent) is = is
  slot_fits (slots.AddB slot path value stamp verifier) is = (is.0, value_fits path value is.1, is.2, is.3)
  slot_fits (slots.EvictB slot stamp) is = is
  slot_fits (slots.EvictBM slot parent stamp) is = is
  slot_fits (slots.Get slot value) is = (is.0, blob_fits value is.1)
  slot_fits (slots.Put slot value) is = (is.0, blob_fits value is.1)
  slot_fits slots.NextEpoch is = tt
  slot_fits (slots.Absent path parent) is = is

  -- those of a log by slots
  pub slots_fit : (wide : Bool) (commands : List LogCommand) → AllByRecursion (IsCommandBy false wide longest) commands
      → AllByRecursion (IsCommandBy false wide more) commands
  slots_fit wide [] all = tt
  slots_fit wide (ByPath command ∷ commands) all = absurd all.0
  slots_fit wide (BySlot command ∷ commands) all = ((all.0.0, slot_fits command all.0.1), slots_fit wide commands all.1)

  -- those of a log that names paths
  pub paths_fit : (wide : Bool) (commands : List LogCommand) → AllByRecursion (IsCommandBy true wide longest) commands
      → AllByRecursion (IsPathCommand more) (path_commands commands)
  paths_fit wide [] all = tt
  paths_fit wide (ByPath command ∷ commands) all = (path_fits command all.0.1, paths_fit wide commands all.1)
  paths_fit wide (BySlot command ∷ commands) all = absurd all.0

-- ---- of one kind

-- a value of a command that is in range is of its path's kind
kind_of : (longest : ℕ) (command : Command) → IsPathCommand longest command → IsOfKind longest command
kind_of longest (paths.AddM path value parent) is = is.0
kind_of longest (paths.EvictM path parent) is = tt
kind_of longest (paths.AddB path value stamp verifier) is = is.0
kind_of longest (paths.EvictB path stamp) is = tt
kind_of longest (paths.EvictBM path parent stamp) is = tt
kind_of longest (paths.Get path value) is = is
kind_of longest (paths.Put path value) is = is
kind_of longest paths.NextEpoch is = tt
kind_of longest (paths.Absent path parent) is = tt

pub kinds_of : (longest : ℕ) (commands : List Command) → AllByRecursion (IsPathCommand longest) commands → AllByRecursion (IsOfKind longest) commands
kinds_of longest [] all = tt
kinds_of longest (command ∷ commands) all = (kind_of longest command all.0, kinds_of longest commands all.1)

module _ (wide : Bool) (longest : ℕ) where
  -- where commands name paths, all do
  pub all_by_path : (commands : List LogCommand) → AllByRecursion (IsCommandBy true wide longest) commands → map ByPath (path_commands commands) ≡ commands
  all_by_path [] all = refl
  all_by_path (ByPath command ∷ commands) all = ap (λ (more : List LogCommand). ByPath command ∷ more) (all_by_path commands all.1)
  all_by_path (BySlot command ∷ commands) all = absurd all.0

  -- paths of their tree
  pub paths_in : (commands : List LogCommand) → AllByRecursion (IsCommandBy true wide longest) commands → AllByRecursion (IsCommandIn wide) (path_commands commands)
  paths_in [] all = tt
  paths_in (ByPath command ∷ commands) all = (all.0.0, paths_in commands all.1)
  paths_in (BySlot command ∷ commands) all = absurd all.0

-- those of commands that name slots
abbrev pub slot_commands : List LogCommand → List SlotCommand
slot_commands [] = []
slot_commands (ByPath command ∷ commands) = slot_commands commands
slot_commands (BySlot command ∷ commands) = command ∷ slot_commands commands

-- where they name slots, all do
pub all_by_slot : (wide : Bool) (longest : ℕ) (commands : List LogCommand) → AllByRecursion (IsCommandBy false wide longest) commands → map BySlot (slot_commands commands) ≡ commands
all_by_slot wide longest [] all = refl
all_by_slot wide longest (ByPath command ∷ commands) all = absurd all.0
all_by_slot wide longest (BySlot command ∷ commands) all = ap (λ (more : List LogCommand). BySlot command ∷ more) (all_by_slot wide longest commands all.1)
