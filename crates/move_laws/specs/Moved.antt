-- What the commands of a move do to the verifier of its worker.
use Rattle.std.specs.Prelude.{◌≡◌, ℕ, ◌<◌, Bool, true, List, [], ◌∷◌, map, Option, Some, Ok}
use Rattle.std.specs.List.{AllByRecursion, flat_map}
use Rattle.tree_keys.specs.Path.{IsBelow, key_bits}
use Rattle.lamport_clocks.specs.Stamp.{IsLater}
use Rattle.lamport_clocks.specs.Reading.{Reading}
use Rattle.record_text.specs.declared.element.Element.{Element}
use Rattle.log_codec.specs.declared.command.Command.{Command}
use Rattle.verifier_cache.specs.Cache.{Held}
use Rattle.verifier_commands.specs.declared.state.State.{State}
use Rattle.verifier_commands.specs.Transition.{Rules}
use Rattle.soundness.specs.Certified.{sealed_by}
use Rattle.host_core.specs.Deeds.{AreSame}
use Rattle.host_shard.specs.Shard.{wide_in, pending_shard}
use Rattle.host_shard.specs.Content.{pending_hot}
use Rattle.host_laws.specs.Running.{Told, run, added_told, evicted_told, accesses_told}
use Rattle.host_laws.specs.Carried.{carried, carries}
use Rattle.host_laws.specs.Served.{IsBare, IsWithin}
use Rattle.protection_moves.specs.Stage.{Stage, hot_records}
use Rattle.protection_moves.specs.Move.{IsPastEnd}
use Rattle.move_laws.specs.Kept.{AreCarried}
use Rattle.move_laws.specs.Stages.{IsTakable}

-- the elements with which a shard and its hot places wait
abbrev pub waiting_in : Stage → List Element
waiting_in stage = pending_shard stage.shard ∷ map pending_hot (hot_records stage.places)

-- a verifier with this cache, where its clock is the stage's
abbrev pub at_stage : Held → Stage → State
at_stage cache stage = record { cache = cache; clock = stage.clock }

-- A verifier can take a stage in with this cache: nothing is cached but the root, there is room for each path above a key,
-- each element of the stage is of one of the verifiers and of an open epoch, and the counters don't pass the end.
pub record CanMove (rules : Rules) (cache : Held) (threshold : Option ℕ) (stage : Stage) : Type 0 where
  pub bare : IsBare cache.entries
  pub room : key_bits (wide_in stage.shard) < cache.room
  pub takable : AllByRecursion (IsTakable rules stage.clock) (waiting_in stage)
  pub counters : IsPastEnd threshold stage → ⊥

-- the element was evicted by this verifier, in the epoch of this clock
abbrev pub IsOfClock : Rules → Reading → Element → Type 0
IsOfClock rules clock element = (element.verifier ≡ rules.number) × (element.stamp.epoch ≡ clock.at.epoch)

-- The move runs: the verifier accepts its commands at the stage's clock, the same entries are cached afterwards, and the
-- clock is the new stage's. They add the elements with which the stage waited and evict those with which the new one waits, which are of
-- this verifier and this epoch; they read and write no data and seal no epoch. Each record below the frontier is carried as it is kept before and
-- after, no other is, and what carries one is done after the frontier's old stamp, up to its new one.
pub record MoveRuns (rules : Rules) (cache : Held) (old new : Stage) (commands : List Command) : Type 0 where
  pub told : Told
  pub runs : run rules (at_stage cache old) commands ≡ Ok (told, at_stage cache new)
  pub added : AreSame (added_told told) (waiting_in old)
  pub evicted : AreSame (evicted_told told) (waiting_in new)
  pub renewed : AllByRecursion (IsOfClock rules old.clock) (waiting_in new)
  pub no_access : accesses_told told ≡ []
  pub unsealed : flat_map (λ one. sealed_by one.1) told ≡ []
  pub kept : (path : List Bool) → AreCarried path (old.shard.records path) (new.shard.records path) (carried path told)
  pub own : (path : List Bool) → (IsBelow old.shard.frontier path → ⊥) → carried path told ≡ []
  pub within : (path : List Bool) → AllByRecursion
      (λ one. carries path one.1 ≡ true → IsWithin (Some (pending_shard old.shard)) (Some (pending_shard new.shard)) one.0) told
  pub rises : IsLater new.shard.stamp old.shard.stamp
