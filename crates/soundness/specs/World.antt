-- All caches together, what was last evicted and the plain map, and the spots that agree with them; and what events leave.
use Rattle.std.specs.Prelude.{◌≡◌, ◌⊎◌, ℕ, ◌≤◌, ◌==◌, Bool, true, false, List, [], ◌∷◌, map, Option, Some, None, if◌then◌else◌}
use Rattle.std.specs.Option.{unwrap_or}
use Rattle.tree_keys.specs.Path.{IsIn, IsData, key_of, side}
use Rattle.lamport_clocks.specs.declared.header.Header.{Header}
use Rattle.record_text.specs.declared.value.Value.{Value}
use Rattle.record_text.specs.declared.element.Element.{Element}
use Rattle.record_text.specs.declared.operation.Operation.{Operation}
use Rattle.record_text.specs.Tree.{wide_of}
use Rattle.record_text.specs.Longest.{longest_of}
use Rattle.merkle_records.specs.Merkle.{Digest, leads_over}
use Rattle.stamp_order.specs.Serial.{none_everywhere, map_after}
use Rattle.verifier_cache.specs.declared.entry.Entry.{Entry}
use Rattle.verifier_commands.specs.Outcome.{blob_of}
use Rattle.verifier_commands.specs.Change.{Change, did_add_m, did_evict_m, did_add_b, did_evict_b, did_evict_bm, did_get, did_put, did_next_epoch}
use Rattle.soundness.specs.History.{Event}
use Rattle.soundness.specs.Certified.{operations_in}
use Rattle.soundness.specs.Clash.{LastEvicted, none_evicted, last_evicted_after}
use Rattle.soundness.specs.Timed.{added_among, evicted_among}
use Rattle.soundness.specs.Permutation.{count_of, without_one}
use Rattle.soundness.specs.Showing.{Shown, opening_shown, shown_after}
use Rattle.soundness.specs.Spot.{Spot, untouched, cached, merkle, waiting, Spots, is_touched, value_at, pointer_at, IsTree}

-- ---- what a spot shows

-- the entry that a verifier's cache shows of a record at a spot
abbrev pub cached_in : ℕ → Spot → Option Entry
cached_in home untouched = None
cached_in home (cached verifier entry) = if verifier == home then Some entry else None
cached_in home (merkle value) = None
cached_in home (waiting element) = None

-- the data value that a value is, if it is one
abbrev pub blob_in : Option Value → Option (List ℕ)
blob_in None = None
blob_in (Some value) = blob_of value

-- the data value of what stands at a spot
abbrev pub blob_at : Spot → Option (List ℕ)
blob_at spot = blob_in (value_at spot)

-- ---- the world

-- what each verifier's cache shows
abbrev pub AllShown : Type 0
AllShown = ℕ → Shown

-- with this shown by the cache of a verifier
abbrev pub with_shown : AllShown → ℕ → Shown → AllShown
with_shown shown home next = λ other. if other == home then next else shown other

-- the data value of each key
abbrev pub Stored : Type 0
Stored = ℕ → Option (List ℕ)

-- the touched paths are all of one tree: of that whose keys are wide, or of the other
abbrev pub AreIn : Bool → Spots → Type 0
AreIn wide spots = (path : List Bool) → is_touched (spots path) ≡ true → IsIn wide path

-- The spots are a tree, all within one of the two, the caches show them, a record that is kept by its digest is what an
-- evictM took out, and the data values are those of the plain map.
pub record IsWorld (wide : Bool) (longest : ℕ) (digest : Digest) (shown : AllShown) (last : LastEvicted) (stored : Stored)
    (spots : Spots) : Type 0 where
  pub tree : IsTree longest digest spots
  pub within : AreIn wide spots
  pub shows : (home : ℕ) (path : List Bool) → shown home path ≡ cached_in home (spots path)
  pub was_evicted : (path : List Bool) (value : Value) → spots path ≡ merkle value → last path ≡ Some value
  pub holds : (path : List Bool) → IsIn wide path → IsData path → blob_at (spots path) ≡ stored (key_of path)

-- The elements that were evicted and not added back each wait at the spot of their path, none twice, and no others do.
pub record IsWaiting (spots : Spots) (pending : List Element) : Type 0 where
  pub each : (x : Element) → 1 ≤ count_of x pending → spots x.path ≡ waiting x
  pub once : (x : Element) → count_of x pending ≤ 1
  pub only : (path : List Bool) (x : Element) → spots path ≡ waiting x → 1 ≤ count_of x pending

-- ---- what events leave

-- what each verifier's cache shows behind events
abbrev pub shown_behind : AllShown → List Event → AllShown
shown_behind shown [] = shown
shown_behind shown (event ∷ events) =
    shown_behind (with_shown shown event.verifier (shown_after (shown event.verifier) event.change)) events

-- what events did
abbrev pub changes_in : List Event → List Change
changes_in events = map (λ event. event.change) events

-- what was last evicted, once all this was done
abbrev pub last_evicted_behind : LastEvicted → List Change → LastEvicted
last_evicted_behind last [] = last
last_evicted_behind last (change ∷ changes) = last_evicted_behind (last_evicted_after last change) changes

-- the elements that wait, once this was done
abbrev pub pending_after : List Element → Change → List Element
pending_after pending (did_add_m parent after child) = pending
pending_after pending (did_evict_m parent after child) = pending
pending_after pending (did_add_b child element) = unwrap_or (without_one element pending) pending
pending_after pending (did_evict_b child element) = element ∷ pending
pending_after pending (did_evict_bm parent after child element) = element ∷ pending
pending_after pending (did_get entry) = pending
pending_after pending (did_put before after) = pending
pending_after pending (did_next_epoch sealed) = pending

-- the elements that wait, once all this was done
abbrev pub pending_behind : List Element → List Change → List Element
pending_behind pending [] = pending
pending_behind pending (change ∷ changes) = pending_behind (pending_after pending change) changes

-- An element that was evicted once with events and not added back: it is one of those that wait behind them, once.
pub record IsPending (element : Element) (events : List Event) : Type 0 where
  pub evicted : count_of element (evicted_among events) ≡ 1
  pub not_added : count_of element (added_among events) ≡ 0
  pub waits : count_of element (pending_behind [] (changes_in events)) ≡ 1

-- the plain map behind operations
abbrev pub stored_behind : Stored → List Operation → Stored
stored_behind stored [] = stored
stored_behind stored (operation ∷ operations) = stored_behind (map_after operation stored) operations

-- ---- the spots behind events

-- The spots agree with what the caches show behind these events, what was last evicted by them, and their plain map; and
-- just what was evicted and not added back waits.
pub record IsBehind (digest : Digest) (header : Header) (events : List Event) (spots : Spots) : Type 0 where
  pub world : IsWorld (wide_of header) (longest_of header) digest (shown_behind (opening_shown header) events)
      (last_evicted_behind none_evicted (changes_in events)) (stored_behind none_everywhere (operations_in events)) spots
  pub waits : IsWaiting spots (pending_behind [] (changes_in events))

-- each path has one spot behind these events
abbrev pub HaveSpots : Digest → Header → List Event → Type 0
HaveSpots digest header events = (spots : Spots) × IsBehind digest header events spots

-- A data path below a touched one is untouched and has no value, where the pointer of its side leads neither to it nor to a
-- path above it.
abbrev pub AreAbsent : Stored → Spots → Type 0
AreAbsent stored spots =
    (path key : List Bool) (on : Bool) → is_touched (spots path) ≡ true → side path key ≡ Some on → IsData key
    → leads_over (pointer_at (spots path) on) key ≡ false → (spots key ≡ untouched) × (stored (key_of key) ≡ None)

-- each path has one spot behind these events, and data paths to which no pointer leads are untouched and have no value
abbrev pub HaveAbsentKeys : Digest → Header → List Event → Type 0
HaveAbsentKeys digest header events =
    (spots : Spots) × IsBehind digest header events spots
    × AreAbsent (stored_behind none_everywhere (operations_in events)) spots

-- a child joins where nothing was, or with the value that its digest keeps and the last evictM took; an element comes
-- where it waits, and its record comes in with its value
abbrev pub TakesWhatIsThere : LastEvicted → Spots → Change → Type 0
TakesWhatIsThere last spots (did_add_m parent after child) =
    (spots child.path ≡ untouched) ⊎ ((spots child.path ≡ merkle child.value) × (last child.path ≡ Some child.value))
TakesWhatIsThere last spots (did_add_b child element) = (spots child.path ≡ waiting element) × (child.value ≡ element.value)
TakesWhatIsThere last spots (did_evict_m parent after child) = Unit {0}
TakesWhatIsThere last spots (did_evict_b child element) = Unit {0}
TakesWhatIsThere last spots (did_evict_bm parent after child element) = Unit {0}
TakesWhatIsThere last spots (did_get entry) = Unit {0}
TakesWhatIsThere last spots (did_put before after) = Unit {0}
TakesWhatIsThere last spots (did_next_epoch sealed) = Unit {0}

-- each path has one spot behind these events, and the next change takes what is there
abbrev pub TakesFromSpots : Digest → Header → List Event → Change → Type 0
TakesFromSpots digest header events change =
    (spots : Spots) × IsBehind digest header events spots
    × TakesWhatIsThere (last_evicted_behind none_evicted (changes_in events)) spots change
