-- What the machine takes of a host beside `IsFit`, so that its contents hold the plain map: that each operation on a key is done where
-- the key's value is held, and leaves there what it leaves of the map.
use Rattle.std.specs.Prelude.{◌≡◌, ℕ, suc, ◌<◌, nat_eq, Bool, true, false, List, [], length, filter, get_or, set, Option, Some, None}
use Rattle.std.specs.List.{AllByRecursion}
use Rattle.tree_keys.specs.Path.{key_of}
use Rattle.lamport_clocks.specs.Reading.{Reading}
use Rattle.lamport_clocks.specs.Stamp.{IsLater}
use Rattle.lamport_clocks.specs.declared.stamp.Stamp.{Stamp}
use Rattle.log_codec.specs.declared.command.Command.{Command}
use Rattle.stamp_order.specs.Serial.{none_everywhere}
use Rattle.verifier_commands.specs.declared.state.State.{State}
use Rattle.verifier_commands.specs.Change.{Change, did_add_m, did_evict_m, did_add_b, did_evict_b, did_evict_bm, did_get, did_put, did_next_epoch}
use Rattle.soundness.specs.History.{Event}
use Rattle.soundness.specs.StateHistory.{events_from}
use Rattle.soundness.specs.Certified.{order_of, operations_in, certified_operations}
use Rattle.soundness.specs.World.{Stored, stored_behind}
use Rattle.host_core.specs.Host.{Done, Host, scheme, machinery, resting}
use Rattle.host_core.specs.World.{World, shard_at, set_up}
use Rattle.host_core.specs.WorldEvent.{WorldEvent, HasAdvanced, AreEnabled, run_events}
use Rattle.host_core.specs.Deeds.{IsReady, IsReadyAt, IsFit}
use Rattle.host_core.specs.Core.{histories}
use Rattle.host_core.specs.Clear.{IsNotAfter}

-- What a host holds of the data: the shard that has a key; the data value that a shard with these contents holds of a key, none where it
-- has no record of it; and the stamp since which that waits.
pub record Storing (Content : Type 0) : Type 0 where
  pub home : ℕ → Option ℕ
  pub held : List Content → ℕ → Option (List ℕ)
  pub since : List Content → ℕ → Stamp

-- the data value of the key is read or written
abbrev pub operates : ℕ → Change → Bool
operates key (did_add_m parent after child) = false
operates key (did_evict_m parent after child) = false
operates key (did_add_b child element) = false
operates key (did_evict_b child element) = false
operates key (did_evict_bm parent after child element) = false
operates key (did_get entry) = nat_eq (key_of entry.path) key
operates key (did_put before after) = nat_eq (key_of after.path) key
operates key (did_next_epoch sealed) = false

-- the events that do
abbrev pub operating : ℕ → List Event → List Event
operating key events = filter (λ event. operates key event.change) events

-- those of a verifier's commands, from this state and this number on
abbrev pub operating_of : {C R : Type 0} → Host C R → ℕ → State → List Command → ℕ → ℕ → List Event
operating_of host i from commands index key = operating key (events_from (machinery host i) i index from commands)

module _ {C R : Type 0} (mirrors : ℕ → List C → Type 0) (storing : Storing C) (host : Host C R) where
  -- A deed at a shard operates on keys of that shard alone, behind the stamp since which the key's value waits there and up to that since
  -- which it then waits. From a map that has the value held before, these operations lead to the value held afterwards.
  pub record IsStoringDeed (i : ℕ) (from : State) (commands : List Command) (s : ℕ) (old new : List C) : Type 0 where
    pub apart : (index key : ℕ) → (storing.home key ≡ Some s → ⊥) → operating_of host i from commands index key ≡ []
    pub stores : (index key : ℕ) (stored : Stored) → storing.home key ≡ Some s → stored key ≡ storing.held old key
        → stored_behind stored (operations_in (operating_of host i from commands index key)) key ≡ storing.held new key
    pub behind : (index key : ℕ) → storing.home key ≡ Some s
        → AllByRecursion (λ event. IsLater event.at (storing.since old key)) (operating_of host i from commands index key)
    pub up_to : (index key : ℕ) → storing.home key ≡ Some s
        → AllByRecursion (λ event. IsNotAfter event.at (storing.since new key)) (operating_of host i from commands index key)
    pub rises : (key : ℕ) → storing.home key ≡ Some s → IsNotAfter (storing.since old key) (storing.since new key)

  -- Whatever the host does is so, and behind the setup no key has a value.
  pub record IsStoring : Type 0 where
    pub setup_none : (key s : ℕ) → storing.home key ≡ Some s → storing.held (get_or host.setup.after s []) key ≡ None
    pub serve : (i : ℕ) (clock : Reading) (s seat : ℕ) (contents : List C) (request : R) (done : Done C)
        → IsReadyAt mirrors host i clock s seat contents → seat < length contents → host.owns s contents seat request ≡ true
        → host.serve i clock (get_or contents seat host.vacant) request ≡ Some done
        → IsStoringDeed i (resting host i clock) done.commands s contents (set contents seat done.after)
    pub move : (i epoch : ℕ) (clock : Reading) (s : ℕ) (contents : List C) (done : Done (List C))
        → IsReady mirrors host i clock epoch s contents → clock.at.epoch ≡ suc epoch
        → host.move i clock s contents ≡ Some done
        → IsStoringDeed i (resting host i clock) done.commands s contents done.after

-- ---- what follows

-- each shard holds of each of its keys what this map has
abbrev pub HoldsMap : {C : Type 0} → Storing C → World C → Stored → Type 0
HoldsMap storing world stored = (key s : ℕ) → storing.home key ≡ Some s → storing.held (shard_at world s).contents key ≡ stored key

module _ {C R : Type 0} (host : Host C R) (storing : Storing C) (world : World C) where
  -- the plain map behind all operations
  abbrev pub HoldsAnswered : Type 0
  HoldsAnswered = HoldsMap storing world (stored_behind none_everywhere (operations_in (order_of (histories host world))))

  -- behind a whole last close it is that behind the certified operations
  abbrev pub HoldsCertified : Type 0
  HoldsCertified = ((i : ℕ) → i < length world.workers → HasAdvanced host world i 2)
      → HoldsMap storing world (stored_behind none_everywhere (certified_operations (scheme host) host.header.first (histories host world)))

-- P holds of the world behind every list of events that are enabled from the setup on, where whatever the host does fits
-- and is storing.
abbrev pub HoldsWhereStoring : {C R : Type 0} → (ℕ → List C → Type 0) → Storing C → Host C R → (World C → Type 0) → Type 0
HoldsWhereStoring mirrors storing host P =
    IsFit mirrors host → IsStoring mirrors storing host
    → (events : List (WorldEvent _)) → AreEnabled host (set_up host) events → P (run_events host (set_up host) events)

-- The same for whatever test says that a shard mirrors, and whatever the shards hold.
abbrev pub HoldsIfStoring : {C R : Type 0} → Host C R → (Storing C → World C → Type 0) → Type 0
HoldsIfStoring {C} host P =
    (mirrors : ℕ → List C → Bool) (storing : Storing C) → HoldsWhereStoring (λ s contents. mirrors s contents ≡ true) storing host (P storing)
