-- Tables with epochs that are made of contents that mirror, and what is then so of the contents between any two steps.
use Rattle.std.specs.Prelude.{◌≡◌, ℕ, ◌^◌, ◌<◌, ◌≤◌, List, length, Option, Some, None}
use Rattle.std.specs.List.{flat_map, AllByRecursion}
use Rattle.std.specs.Option.{ForSome}
use Rattle.tree_keys.specs.Path.{key_bits}
use Rattle.lamport_clocks.specs.declared.header.Header.{Header}
use Rattle.lamport_clocks.specs.declared.stamp.Stamp.{Stamp}
use Rattle.record_text.specs.declared.element.Element.{Element}
use Rattle.record_text.specs.declared.request.Request.{Request}
use Rattle.record_text.specs.Longest.{longest_of}
use Rattle.record_text.specs.Tree.{wide_of}
use Rattle.record_text.specs.Value.{IsBlob}
use Rattle.soundness.specs.Timed.{IsRising}
use Rattle.host_shard.specs.declared.content.Content as code
use Rattle.host_shard.specs.Content.{Content, pending}
use Rattle.host_shard.specs.Shown.{shown_content}
use Rattle.host_laws.specs.Mirroring.{ContentMirrors}
use Rattle.host_laws.specs.Served.{waiting}
use Rattle.host_epochs.specs.declared.told.Entry.{Entry}
use Rattle.host_epochs.specs.Rule.{Scene}
use Rattle.host_epochs.specs.Terms.{Terms, place_count, first_epoch, final_epoch}
use Rattle.host_table.specs.Terms.{phase_of}
use Rattle.table_order.specs.Mirroring.{hot_keys_at}

-- ---- what is asked

-- a request asks for a key of no more bits, and for a value of no more bytes, than those of a bundle with this header
abbrev pub IsAskInRange : Header → Option Request → Type 0
IsAskInRange header None = Unit {0}
IsAskInRange header (Some request) = (request.key < 2 ^ key_bits (wide_of header)) × IsBlob (longest_of header) request.value

abbrev pub AreAsksInRange : Terms → List Entry → Type 0
AreAsksInRange terms entries = AllByRecursion (λ entry. IsAskInRange terms.header entry.request) entries

-- the same of the histories of all places
abbrev pub HasAsksInRange : Terms → Scene → Type 0
HasAsksInRange terms scene = (place : ℕ) → place < place_count terms → AreAsksInRange terms (scene.past place)

-- ---- contents

-- a stamp of an epoch that may be entered, by a verifier of the bundle, whose counter does not pass the end
pub record IsStampIn (terms : Terms) (stamp : Stamp) (evictor : ℕ) : Type 0 where
  pub verifier : evictor < terms.header.verifiers
  pub from : first_epoch terms ≤ stamp.epoch
  pub to : stamp.epoch ≤ final_epoch terms
  pub counter : stamp.counter ≤ terms.header.end

-- the element with which the content waits, if it waits with one, is stamped so
abbrev pub IsStampedIn : Terms → Content → Type 0
IsStampedIn terms content = ForSome (pending content) (λ element. IsStampIn terms element.stamp element.verifier)

-- The content mirrors as at the making, with the same keys hot, and the element with which it waits, if it does, is stamped so.
pub record MirrorsIn (terms : Terms) (place : ℕ) (content : code.Content) : Type 0 where
  pub mirrors : ContentMirrors (longest_of terms.header) terms.digest (hot_keys_at (phase_of terms) place) (shown_content content)
  pub stamped : IsStampedIn terms (shown_content content)

-- ---- a worker

-- the elements with which what these entries left waits, in their order
abbrev pub evicted_in : List Entry → List Element
evicted_in entries = flat_map (λ entry. waiting (pending (shown_content entry.after))) entries

-- Each entry left one element. They are the worker's, of epochs that may be entered and within the counters' end, and each has a
-- later stamp than those before it.
pub record AreEvictsIn (terms : Terms) (worker : ℕ) (entries : List Entry) : Type 0 where
  pub each : length (evicted_in entries) ≡ length entries
  pub own : AllByRecursion (λ element. element.verifier ≡ worker) (evicted_in entries)
  pub stamped : AllByRecursion (λ element. IsStampIn terms element.stamp element.verifier) (evicted_in entries)
  pub rising : IsRising (evicted_in entries)
