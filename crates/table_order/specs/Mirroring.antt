-- Tables that are made of contents that mirror, and what is then so of the contents between any two steps.
use Rattle.std.specs.Prelude.{◌≡◌, ℕ, ◌*◌, ◌/◌, ◌^◌, ◌<◌, Bool, List, length, map, take, drop, slice_index}
use Rattle.std.specs.List.{flat_map, AllByRecursion}
use mathlib.Core.Option.{some}
use lib.ListN.{get_elem?}
use Rattle.tree_keys.specs.Path.{key_bits}
use Rattle.record_text.specs.Tree.{wide_of}
use Rattle.record_text.specs.Longest.{longest_of}
use Rattle.record_text.specs.Value.{IsBlob}
use Rattle.atomic_table.specs.Table.{State}
use Rattle.record_text.specs.declared.element.Element.{Element}
use Rattle.merkle_records.specs.Merkle.{GivesDigests}
use Rattle.soundness.specs.Timed.{IsRising}
use Rattle.host_shard.specs.declared.content.Content as code
use Rattle.host_shard.specs.Shard.{wide_in}
use Rattle.host_shard.specs.Content.{Content, cold, hot, vacant, pending}
use Rattle.host_shard.specs.Shown.{shown_content}
use Rattle.protection_moves.specs.Stage.{hot_paths}
use Rattle.host_laws.specs.Mirroring.{ContentMirrors}
use Rattle.host_laws.specs.Served.{waiting}
use Rattle.host_epochs.specs.declared.told.Entry.{Entry}
use Rattle.host_epochs.specs.declared.views.Desk.{Desk}
use Rattle.host_epochs.specs.declared.views.Held.TheVariants.{Has}
use Rattle.host_epochs.specs.declared.views.View.{View}
use Rattle.host_epochs.specs.declared.views.View.TheVariants.{Working}
use Rattle.host_epochs.specs.Plays.{held_in}
use Rattle.host_epochs.specs.Rule.{Scene}
use Rattle.host_table.specs.declared.told.Service.{Service}
use Rattle.host_table.specs.Services.{services_of}
use Rattle.host_table.specs.Terms.{Terms, place_count, first_at, places_each, phase_epoch, IsStampOf, IsStamped, IsMaking}

-- ---- the making

-- what the places of this place's shard had at the making, in the order of their numbers
abbrev pub shard_at_making : Terms → ℕ → List Content
shard_at_making terms place = map shown_content (take places_each (drop (place / places_each * places_each) terms.contents))

-- the paths of the keys that are hot in this place's shard: those of the hot records that it had at the making
abbrev pub hot_keys_at : Terms → ℕ → List (List Bool)
hot_keys_at terms place = hot_paths (shard_at_making terms place)

-- the content is of this tree: its frontier, or the key of its hot record
abbrev pub IsOfTree : Bool → Content → Type 0
IsOfTree wide (cold shard) = wide_in shard ≡ wide
IsOfTree wide (hot record') = (record'.wide ≡ wide) × (record'.key < 2 ^ key_bits wide)
IsOfTree wide vacant = Unit {0}

-- The table is made of contents that mirror, each with the keys hot that have a hot record in its shard, and all are of the
-- header's tree. Its numbers are as a making asks, and digests have 32 bytes.
pub record MirrorsAtMaking (terms : Terms) : Type 0 where
  pub digests : GivesDigests terms.digest
  pub making : IsMaking terms.header terms.workers terms.contents
  pub mirrors : (place : ℕ) → place < place_count terms
      → ContentMirrors (longest_of terms.header) terms.digest (hot_keys_at terms place) (shown_content (first_at terms place))
  pub of_tree : (place : ℕ) → place < place_count terms → IsOfTree (wide_of terms.header) (shown_content (first_at terms place))

-- ---- between two steps

-- the keys that are asked for have no more bits, and the values no more bytes, than those of a bundle with the table's header
abbrev pub AreInRange : Terms → List Service → Type 0
AreInRange terms services = AllByRecursion
    (λ service. (service.request.key < 2 ^ key_bits (wide_of terms.header)) × IsBlob (longest_of terms.header) service.request.value) services

-- the same of the histories of all places
abbrev pub HasRequestsInRange : Terms → Scene → Type 0
HasRequestsInRange terms scene = (place : ℕ) → place < place_count terms → AreInRange terms (services_of (scene.past place))

-- this content is at home in its place's cell, whose word is 0
abbrev pub IsAtHome : State code.Content View → ℕ → code.Content → Type 0
IsAtHome s place content = (slice_index s.words place ≡ 0) × (get_elem? s.homes place ≡ some (some content))

-- a view of the table has this content of the place in hand
abbrev pub IsInHand : State code.Content View → ℕ → code.Content → Type 0
IsInHand s place content =
    (number : ℕ) × (view : View) × (past : List Entry) × (get_elem? s.views number ≡ some view) × (held_in view ≡ Has place content past)

-- The content mirrors as at the making, with the same keys hot. The element with which it waits, if it does, is by a verifier
-- of the bundle, of the phase's epoch, and its counter does not pass the end.
pub record MirrorsAt (terms : Terms) (place : ℕ) (content : code.Content) : Type 0 where
  pub mirrors : ContentMirrors (longest_of terms.header) terms.digest (hot_keys_at terms place) (shown_content content)
  pub stamped : IsStamped terms.header (phase_epoch terms) (shown_content content)

-- ---- a worker

-- a view of the table is a worker's, and has this on its desk
abbrev pub IsDesk : State code.Content View → Desk → Type 0
IsDesk s desk = (number : ℕ) × (get_elem? s.views number ≡ some (Working desk))

-- the elements with which what these services left waits, in their order
abbrev pub evicted_in : List Service → List Element
evicted_in services = flat_map (λ service. waiting (pending (shown_content service.after))) services

-- Each service left one element. They are the worker's, of the phase's epoch and within the counters' end, and each has a later
-- stamp than those before it.
pub record AreEvictsOf (terms : Terms) (worker : ℕ) (services : List Service) : Type 0 where
  pub each : length (evicted_in services) ≡ length services
  pub own : AllByRecursion (λ element. element.verifier ≡ worker) (evicted_in services)
  pub stamped : AllByRecursion (λ element. IsStampOf terms.header (phase_epoch terms) element.stamp element.verifier) (evicted_in services)
  pub rising : IsRising (evicted_in services)
