-- Which transfers can be done, and what one does to the verifier of its worker while the shard's frontier stands in its cache.
use Rattle.std.specs.Prelude.{◌≡◌, ℕ, ◌^◌, ◌<◌, ◌≤◌, Bool, List, [], ◌∷◌, ◌++◌, IsSome, Ok}
use Rattle.std.specs.List.{AllByRecursion, IsAmong, flat_map}
use Rattle.tree_keys.specs.Path.{IsBelow, key_bits}
use Rattle.lamport_clocks.specs.declared.stamp.Stamp.{Stamp}
use Rattle.lamport_clocks.specs.Reading.{Reading}
use Rattle.record_text.specs.declared.element.Element.{Element}
use Rattle.verifier_cache.specs.declared.entry.Entry.{Entry}
use Rattle.verifier_cache.specs.declared.entry.Hold.TheVariants.{B}
use Rattle.verifier_cache.specs.Entry.{new_entry}
use Rattle.verifier_commands.specs.declared.state.State.{State}
use Rattle.verifier_commands.specs.Transition.{Rules}
use Rattle.soundness.specs.Certified.{sealed_by}
use Rattle.host_shard.specs.declared.link.Link.{Link}
use Rattle.host_shard.specs.Content.{pending_hot}
use Rattle.host_shard.specs.Mirrors.{IsKeyOf}
use Rattle.host_shard.specs.Shard.{key_path_in, wide_in}
use Rattle.host_laws.specs.Running.{Told, run, added_told, evicted_told, accesses_told}
use Rattle.host_laws.specs.Carried.{carried}
use Rattle.protection_moves.specs.Stage.{Stage, hot_records, hot_paths, vacancies}
use Rattle.protection_moves.specs.Transfer.{Transfer, demotes, promotes, clock_by}
use Rattle.protection_moves.specs.Descent.{promoted_record, commands_by, done_by}
use Rattle.move_laws.specs.Kept.{AreCarried}
use Rattle.move_laws.specs.Stages.{IsOne, IsTakable}

-- A key of the shard can become hot: it has a record there and isn't hot, its touches are forgotten, and a place is vacant.
pub record IsPromotable (stage : Stage) (key : ℕ) : Type 0 where
  pub in_range : key < 2 ^ key_bits (wide_in stage.shard)
  pub own : IsKeyOf stage.shard (key_path_in stage.shard key)
  pub cold : IsAmong (hot_paths stage.places) (key_path_in stage.shard key) → ⊥
  pub there : IsSome (stage.shard.records (key_path_in stage.shard key))
  pub untouched : stage.shard.touches (key_path_in stage.shard key) ≡ 0
  pub room : 0 < vacancies stage.places

-- The transfer can be done: the record that comes back is hot, or the key can become hot.
abbrev pub IsFit : Stage → Transfer → Type 0
IsFit stage (demotes found) = IsOne (hot_records stage.places) found
IsFit stage (promotes key) = IsPromotable stage key

-- the elements that it adds, and those that it evicts
abbrev pub adds_by : Transfer → List Element
adds_by (demotes found) = pending_hot found ∷ []
adds_by (promotes key) = []

abbrev pub evicts_by : ℕ → Stage → Transfer → List Link → List Element
evicts_by worker stage (demotes found) links = []
evicts_by worker stage (promotes key) links = pending_hot (promoted_record worker stage key links) ∷ []

-- A verifier can do it: what it adds can be taken in, and the counter that it takes doesn't pass the end.
pub record CanDo (rules : Rules) (stage : Stage) (transfer : Transfer) : Type 0 where
  pub takable : AllByRecursion (IsTakable rules stage.clock) (adds_by transfer)
  pub counters : (clock_by stage.clock transfer).at.counter ≤ stage.clock.end

-- a verifier with these entries, behind which the shard's frontier stands
abbrev pub holding : List Entry → ℕ → Stage → State
holding entries room stage = record {
  cache = record { entries = entries ++ new_entry stage.shard.frontier stage.shard.value B ∷ []; room = room };
  clock = stage.clock;
}

-- the stamp is one from the first clock's up to the second's, in its epoch
abbrev pub IsBetween : Reading → Reading → Stamp → Type 0
IsBetween clock after at = (at.epoch ≡ clock.at.epoch) × (clock.at.counter ≤ at.counter) × (at.counter ≤ after.at.counter)

-- The transfer runs: its commands are accepted, the frontier stands with the value that they leave, and the clock is that
-- behind the transfer. They add and evict the element of the transfer's record and no other, read and write no data and seal no
-- epoch. Each record below the frontier is carried as it is kept before and after, and no other.
pub record TransferRuns (rules : Rules) (entries : List Entry) (room : ℕ) (stage : Stage) (transfer : Transfer) (links : List Link) : Type 0 where
  pub told : Told
  pub runs : run rules (holding entries room stage) (commands_by stage transfer links)
      ≡ Ok (told, holding entries room (done_by rules.scheme.digest rules.number stage transfer links))
  pub added : added_told told ≡ adds_by transfer
  pub evicted : evicted_told told ≡ evicts_by rules.number stage transfer links
  pub no_access : accesses_told told ≡ []
  pub unsealed : flat_map (λ one. sealed_by one.1) told ≡ []
  pub within : AllByRecursion (λ one. IsBetween stage.clock (clock_by stage.clock transfer) one.0) told
  pub kept : (path : List Bool) → AreCarried path (stage.shard.records path)
      ((done_by rules.scheme.digest rules.number stage transfer links).shard.records path) (carried path told)
  pub own : (path : List Bool) → (IsBelow stage.shard.frontier path → ⊥) → carried path told ≡ []
