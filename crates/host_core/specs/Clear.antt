-- What the machine takes of a host beside `IsFit`, so that there is nothing to exhibit: that each record comes back by its
-- digest with the value that it left with. Permutations of elements alone don't say so.
use Rattle.std.specs.Prelude.{◌≡◌, ◌⊎◌, ℕ, suc, ◌<◌, ◌≤◌, Bool, true, false, List, [], length, filter, get_or, set, Option, Some, None}
use Rattle.std.specs.List.{AllByRecursion}
use Rattle.tree_keys.specs.Path.{same_path}
use Rattle.lamport_clocks.specs.Reading.{Reading}
use Rattle.lamport_clocks.specs.Stamp.{IsLater}
use Rattle.lamport_clocks.specs.declared.stamp.Stamp.{Stamp}
use Rattle.record_text.specs.declared.value.Value.{Value}
use Rattle.record_text.specs.declared.exhibit.Exhibit.TheVariants.{Clean}
use Rattle.log_codec.specs.declared.command.Command.{Command}
use Rattle.merkle_records.specs.Merkle.{GivesDigests}
use Rattle.stamp_order.specs.Serial.{IsSerial}
use Rattle.verifier_commands.specs.declared.state.State.{State}
use Rattle.verifier_commands.specs.State.{opening}
use Rattle.verifier_commands.specs.Change.{Change, did_add_m, did_evict_m, did_add_b, did_evict_b, did_evict_bm, did_get, did_put, did_next_epoch}
use Rattle.soundness.specs.History.{Event}
use Rattle.soundness.specs.StateHistory.{events_from}
use Rattle.soundness.specs.Certified.{certified_count, certified_operations}
use Rattle.soundness.specs.Clash.{LastEvicted, none_evicted, first_clash}
use Rattle.soundness.specs.Exhibit.{exhibit_of}
use Rattle.soundness.specs.World.{changes_in, last_evicted_behind}
use Rattle.host_core.specs.Host.{Done, Host, scheme, machinery, resting}
use Rattle.host_core.specs.World.{World, set_up}
use Rattle.host_core.specs.WorldEvent.{WorldEvent, AreEnabled, run_events}
use Rattle.host_core.specs.Deeds.{IsReady, IsReadyAt, IsFit}
use Rattle.host_core.specs.Core.{histories}

-- What a host keeps of its records: the shard below whose frontier a path lies; the value that a shard with these contents
-- keeps of a path by its digest, none where it has no record or has deferred it; and the stamp of the shard's frontier.
pub record Keeping (Content : Type 0) : Type 0 where
  pub home : List Bool → Option ℕ
  pub kept : ℕ → List Content → List Bool → Option Value
  pub front : List Content → Stamp

-- the first stamp is not after the other
abbrev pub IsNotAfter : Stamp → Stamp → Type 0
IsNotAfter s t = (s.epoch < t.epoch) ⊎ ((s.epoch ≡ t.epoch) × (s.counter ≤ t.counter))

-- the record of the path comes in by its digest, or leaves by it
abbrev pub touches : List Bool → Change → Bool
touches path (did_add_m parent after child) = same_path child.path path
touches path (did_evict_m parent after child) = same_path child.path path
touches path (did_add_b child element) = false
touches path (did_evict_b child element) = false
touches path (did_evict_bm parent after child element) = false
touches path (did_get entry) = false
touches path (did_put before after) = false
touches path (did_next_epoch sealed) = false

-- the events that touch the path
abbrev pub touching : List Bool → List Event → List Event
touching path events = filter (λ event. touches path event.change) events

-- those of a verifier's commands, from this state and this number on
abbrev pub touching_of : {C R : Type 0} → Host C R → ℕ → State → List Command → ℕ → List Bool → List Event
touching_of host i from commands index path = touching path (events_from (machinery host i) i index from commands)

-- what is kept of a path, if anything is, is what was last evicted of it
abbrev pub IsKept : LastEvicted → List Bool → Option Value → Type 0
IsKept last path None = Unit {0}
IsKept last path (Some value) = last path ≡ Some value

module _ {C R : Type 0} (mirrors : ℕ → List C → Type 0) (keeping : Keeping C) (host : Host C R) where
  -- A deed at a shard touches paths of that shard alone, behind the stamp of its frontier and up to the one that it leaves
  -- there. Each record comes in with the value that is kept of it, and what is kept then is what it left with.
  pub record IsClearDeed (i : ℕ) (from : State) (commands : List Command) (s : ℕ) (old new : List C) : Type 0 where
    pub apart : (index : ℕ) (path : List Bool) → (keeping.home path ≡ Some s → ⊥)
        → touching_of host i from commands index path ≡ []
    pub clear : (index : ℕ) (path : List Bool) (last : LastEvicted) → keeping.home path ≡ Some s → IsKept last path (keeping.kept s old path)
        → first_clash last (changes_in (touching_of host i from commands index path)) ≡ None
    pub keeps : (index : ℕ) (path : List Bool) (last : LastEvicted) → keeping.home path ≡ Some s → IsKept last path (keeping.kept s old path)
        → IsKept (last_evicted_behind last (changes_in (touching_of host i from commands index path))) path (keeping.kept s new path)
    pub behind : (index : ℕ) (path : List Bool)
        → AllByRecursion (λ event. IsLater event.at (keeping.front old)) (touching_of host i from commands index path)
    pub up_to : (index : ℕ) (path : List Bool)
        → AllByRecursion (λ event. IsNotAfter event.at (keeping.front new)) (touching_of host i from commands index path)
    pub rises : IsNotAfter (keeping.front old) (keeping.front new)

  -- Whatever the host does is clear. The setup touches no path below a frontier, and no shard keeps a record behind it.
  pub record IsClear : Type 0 where
    pub setup_clear : (path : List Bool) → keeping.home path ≡ None
        → first_clash none_evicted
        (changes_in (touching_of host 0 (opening 0 host.header) host.setup.commands 0 path)) ≡ None
    pub setup_apart : (path : List Bool) (s : ℕ) → keeping.home path ≡ Some s
        → (touching_of host 0 (opening 0 host.header) host.setup.commands 0 path ≡ [])
        × (keeping.kept s (get_or host.setup.after s []) path ≡ None)
    pub serve : (i : ℕ) (clock : Reading) (s seat : ℕ) (contents : List C) (request : R) (done : Done C)
        → IsReadyAt mirrors host i clock s seat contents → seat < length contents → host.owns s contents seat request ≡ true
        → host.serve i clock (get_or contents seat host.vacant) request ≡ Some done
        → IsClearDeed i (resting host i clock) done.commands s contents (set contents seat done.after)
    pub move : (i epoch : ℕ) (clock : Reading) (s : ℕ) (contents : List C) (done : Done (List C))
        → IsReady mirrors host i clock epoch s contents → clock.at.epoch ≡ suc epoch
        → host.move i clock s contents ≡ Some done
        → IsClearDeed i (resting host i clock) done.commands s contents done.after

-- ---- what follows

module _ {C R : Type 0} (host : Host C R) (world : World C) where
  -- an audit of the certified epochs has nothing to show
  abbrev pub HasNothingToShow : Type 0
  HasNothingToShow =
      exhibit_of host.header.first (certified_count (scheme host) host.header.first (histories host world)) (histories host world) ≡ Clean

  -- the answers of the certified epochs are serial, whatever functions the digests are
  abbrev pub IsServedSerially : Type 0
  IsServedSerially = GivesDigests host.functions.digest → IsSerial (certified_operations (scheme host) host.header.first (histories host world))

-- P holds of the world behind every list of events that are enabled from the setup on, where whatever the host does fits
-- and is clear.
abbrev pub HoldsWhereClear : {C R : Type 0} → (ℕ → List C → Type 0) → Keeping C → Host C R → (World C → Type 0) → Type 0
HoldsWhereClear mirrors keeping host P =
    IsFit mirrors host → IsClear mirrors keeping host
    → (events : List (WorldEvent _)) → AreEnabled host (set_up host) events → P (run_events host (set_up host) events)

-- The same for whatever test says that a shard mirrors, and whatever the shards keep.
abbrev pub HoldsIfClear : {C R : Type 0} → Host C R → (World C → Type 0) → Type 0
HoldsIfClear {C} host P =
    (mirrors : ℕ → List C → Bool) (keeping : Keeping C) → HoldsWhereClear (λ s contents. mirrors s contents ≡ true) keeping host P
