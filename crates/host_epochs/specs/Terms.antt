-- What a table of records is made with: the contents of its places, who works on them, and how many epochs they may enter.
use Rattle.std.specs.Prelude.{◌≡◌, ℕ, suc, ◌+◌, ◌/◌, ◌%◌, ◌<◌, ◌≤◌, Bool, List, [], ◌∷◌, length, get_or}
use Rattle.std.specs.Option.{ForSome}
use Rattle.lamport_clocks.specs.declared.header.Header.{Header}
use Rattle.lamport_clocks.specs.declared.stamp.Stamp.{Stamp}
use Rattle.lamport_clocks.specs.Reading.{Reading}
use Rattle.record_text.specs.Longest.{longest_blob}
use Rattle.merkle_records.specs.Merkle.{Digest}
use Rattle.host_shard.specs.declared.content.Content as code
use Rattle.host_shard.specs.declared.content.Content.TheVariants.{Cold, Hot, Vacant}
use Rattle.host_shard.specs.declared.content.HotRecord.{HotRecord}
use Rattle.host_shard.specs.Content.{Content, cold, hot, vacant, pending}
use Rattle.host_shard.specs.Shown.{shown_content}
use Rattle.host_plan.specs.Plan.{Owns}

-- the digest of a value's text, the numbers of the bundle, how many workers there are, whether a get of a key that has no
-- record makes none, how many epochs may be entered behind that of the making, and the contents at the making, in the order
-- of the places
pub record Terms : Type 0 where
  pub digest : Digest
  pub header : Header
  pub workers : ℕ
  pub absent : Bool
  pub more : ℕ
  pub contents : List code.Content

abbrev pub place_count : Terms → ℕ
place_count terms = length terms.contents

-- the content of a place at the making
abbrev pub first_at : Terms → ℕ → code.Content
first_at terms place = get_or terms.contents place Vacant

-- how many places a shard has: one for itself, and its hot ones
abbrev pub places_each : ℕ
places_each = 5

-- the worker that scans a place in each epoch: shards go round among the workers
abbrev pub owner : Terms → ℕ → ℕ
owner terms place = (place / places_each) % terms.workers

-- the epoch with which the first content waits that is not vacant
abbrev pub epoch_in : List code.Content → ℕ
epoch_in [] = 0
epoch_in (Cold shard ∷ contents) = shard.stamp.epoch
epoch_in (Hot record' ∷ contents) = record'.stamp.epoch
epoch_in (Vacant ∷ contents) = epoch_in contents

-- the epoch of the making
abbrev pub first_epoch : Terms → ℕ
first_epoch terms = epoch_in terms.contents

-- the last epoch that may be entered
abbrev pub final_epoch : Terms → ℕ
final_epoch terms = first_epoch terms + terms.more

-- ---- what is asked

-- The key's place among these contents: its content owns the key, which is not hot at another place of the shard.
pub record IsPlaceAmong (contents : List code.Content) (place key : ℕ) : Type 0 where
  pub there : place < length contents
  pub owns : Owns longest_blob (shown_content (get_or contents place Vacant)) key
  pub cold : (other : ℕ) (kept : HotRecord) → other / places_each ≡ place / places_each → get_or contents other Vacant ≡ Hot kept
      → kept.key ≡ key → other ≡ place

-- the key's place at the making
abbrev pub IsPlaceOf : Terms → ℕ → ℕ → Type 0
IsPlaceOf terms place key = IsPlaceAmong terms.contents place key

-- a clock of the bundle, in an epoch that may be entered
pub record IsClockOf (terms : Terms) (clock : Reading) : Type 0 where
  pub first : clock.first ≡ terms.header.first
  pub end : clock.end ≡ terms.header.end
  pub from : first_epoch terms ≤ clock.at.epoch
  pub to : clock.at.epoch ≤ final_epoch terms

-- a clock of the bundle that stands so
abbrev pub clock_of : Header → Stamp → Reading
clock_of header stamp = record { first = header.first; end = header.end; at = stamp }

abbrev pub clock_at : Terms → Stamp → Reading
clock_at terms stamp = clock_of terms.header stamp

-- ---- the epochs of elements

-- what is so of the epoch of the element with which the content waits, if it waits with one
abbrev pub Waits : (ℕ → Type 0) → Content → Type 0
Waits P (cold shard) = P shard.stamp.epoch
Waits P (hot record') = P record'.stamp.epoch
Waits P vacant = Unit {0}

-- that epoch, and 0 where there is none
abbrev pub epoch_of : Content → ℕ
epoch_of (cold shard) = shard.stamp.epoch
epoch_of (hot record') = record'.stamp.epoch
epoch_of vacant = 0

abbrev pub IsFrom : ℕ → code.Content → Type 0
IsFrom low content = Waits (λ epoch. low ≤ epoch) (shown_content content)

abbrev pub IsWithin : ℕ → ℕ → code.Content → Type 0
IsWithin low high content = Waits (λ epoch. (low ≤ epoch) × (epoch ≤ high)) (shown_content content)

-- The element is at most one epoch before that of a worker which entered so many, and at most one behind the last that it is
-- through with; it is of none before the making, and of none that may not be entered.
abbrev pub IsNear : Terms → ℕ → ℕ → code.Content → Type 0
IsNear terms entered done content = Waits (λ epoch. (first_epoch terms ≤ epoch) × (first_epoch terms + entered ≤ suc epoch)
    × (epoch ≤ suc (first_epoch terms + done)) × (epoch ≤ final_epoch terms)) (shown_content content)

-- What a worker finds at a place: where it owns the place, the element is of no epoch before the last that the worker is through with;
-- and where it is the only worker, of none behind its own.
pub record IsUpToDate (terms : Terms) (place worker entered done : ℕ) (content : code.Content) : Type 0 where
  pub own : owner terms place ≡ worker → Waits (λ epoch. first_epoch terms + done ≤ epoch) (shown_content content)
  pub alone : terms.workers ≡ 1 → Waits (λ epoch. epoch ≤ first_epoch terms + entered) (shown_content content)

-- ---- the making

-- a stamp of the epoch, by a verifier of the bundle
pub record IsStampOf (header : Header) (epoch : ℕ) (stamp : Stamp) (evictor : ℕ) : Type 0 where
  pub verifier : evictor < header.verifiers
  pub epoch_is : stamp.epoch ≡ epoch
  pub counter : stamp.counter ≤ header.end

-- the element with which the content waits, if it waits with one, is stamped so
abbrev pub IsStamped : Header → ℕ → Content → Type 0
IsStamped header epoch content = ForSome (pending content) (λ element. IsStampOf header epoch element.stamp element.verifier)

-- What is asked of a making: some places and workers, no more workers than the bundle has verifiers, and contents that wait
-- with elements of one epoch, whose counters do not pass their end.
pub record IsMaking (header : Header) (workers : ℕ) (contents : List code.Content) : Type 0 where
  pub places : 0 < length contents
  pub some : 0 < workers
  pub few : workers ≤ header.verifiers
  pub stamped : (place : ℕ) → place < length contents
      → IsStamped header (epoch_in contents) (shown_content (get_or contents place Vacant))
