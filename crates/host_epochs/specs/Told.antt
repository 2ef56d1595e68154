-- What is told of a round: the histories of its places, and what each worker did.
use Rattle.std.specs.Prelude.{◌≡◌, ◌⊎◌, ℕ, zero, suc, ◌+◌, ◌<◌, ◌≤◌, List, [], ◌∷◌, ◌++◌, Option, Some, None}
use Rattle.std.specs.List.{AllByRecursion}
use Rattle.lamport_clocks.specs.Reading.{Reading}
use Rattle.record_text.specs.declared.request.Request.{Request}
use Rattle.record_text.specs.Longest.{longest_blob}
use Rattle.record_text.specs.Value.{IsBlob}
use Rattle.host_shard.specs.declared.content.Content.{Content}
use Rattle.host_shard.specs.Shown.{shown_content}
use Rattle.host_plan.specs.Plan.{IsPlan, IsPastEnd, clock_after}
use Rattle.host_epochs.specs.declared.told.Entry.{Entry}
use Rattle.host_epochs.specs.Scan.{IsStale, scan_commands, scanned}
use Rattle.host_epochs.specs.Terms.{Terms, IsPlaceOf, IsClockOf, Waits, first_at, first_epoch, place_count, owner}

-- both show the same
abbrev pub IsSame : Content → Content → Type 0
IsSame x y = shown_content y ≡ shown_content x

-- ---- entries

-- A worker scans a place of its own, whose element is of an epoch before its own.
pub record IsScan (terms : Terms) (entry : Entry) : Type 0 where
  pub there : entry.place < place_count terms
  pub own : owner terms entry.place ≡ entry.worker
  pub stale : IsStale entry.clock.at.epoch (shown_content entry.before)
  pub commands : entry.plan.commands ≡ scan_commands (shown_content entry.before) entry.clock
  pub content : shown_content entry.after ≡ scanned entry.worker (shown_content entry.before) entry.clock
  pub clock : entry.later ≡ clock_after (shown_content entry.before) entry.clock

-- A worker serves a request at the key's place, by its plan.
pub record IsService (terms : Terms) (entry : Entry) (request : Request) : Type 0 where
  pub at : IsPlaceOf terms entry.place request.key
  pub value : IsBlob longest_blob request.value
  pub plan : IsPlan terms.absent terms.digest entry.worker (shown_content entry.before) request entry.clock
      entry.plan (shown_content entry.after) entry.later

-- a service where there is a request, and else a scan
abbrev pub IsWork : Terms → Entry → Option Request → Type 0
IsWork terms entry (Some request) = IsService terms entry request
IsWork terms entry None = IsScan terms entry

-- What is asked of an entry: its worker and its clock are of the table, it is work, and the counters don't pass their end.
pub record IsAsked (terms : Terms) (entry : Entry) : Type 0 where
  pub by : entry.worker < terms.workers
  pub clock : IsClockOf terms entry.clock
  pub work : IsWork terms entry entry.request
  pub within : IsPastEnd (shown_content entry.before) entry.clock → ⊥

-- The element is of the clock's epoch or of the one before, and of none before the making.
abbrev pub IsCloseTo : Terms → Reading → Content → Type 0
IsCloseTo terms clock content = Waits (λ epoch. (first_epoch terms ≤ epoch) × (epoch ≤ clock.at.epoch) × (clock.at.epoch ≤ suc epoch)) (shown_content content)

-- What is so of an entry: besides, its element is close to its clock.
pub record IsDone (terms : Terms) (entry : Entry) : Type 0 where
  pub asked : IsAsked terms entry
  pub near : IsCloseTo terms entry.clock entry.before

-- The history of a place makes one content of another: each entry takes up the content that the one before it left.
abbrev pub Leads : Terms → ℕ → Content → List Entry → Content → Type 0
Leads terms place x [] y = IsSame x y
Leads terms place x (entry ∷ entries) y =
    (entry.place ≡ place) × IsSame x entry.before × IsDone terms entry × Leads terms place entry.after entries y

-- a content that a place has had: the first, or what an entry of its history left
abbrev pub IsHad : Content → List Entry → Content → Type 0
IsHad x [] had = IsSame x had
IsHad x (entry ∷ entries) had = IsSame x had ⊎ IsHad entry.after entries had

-- so many lists, from one number on, one after another
abbrev pub joined_from : ℕ → ℕ → (ℕ → List Entry) → List Entry
joined_from number zero lists = []
joined_from number (suc count) lists = lists number ++ joined_from (suc number) count lists

-- ---- the clock of a worker

-- the later clock stands at the beginning of a later epoch
pub record IsTurned (clock later : Reading) : Type 0 where
  pub first : later.first ≡ clock.first
  pub end : later.end ≡ clock.end
  pub epoch : clock.at.epoch < later.at.epoch
  pub counter : later.at.counter ≡ 0

-- the same clock, or the beginning of a later epoch
abbrev pub GoesOn : Reading → Reading → Type 0
GoesOn clock later = (later ≡ clock) ⊎ IsTurned clock later

-- a worker's first clock: any of the epoch of the making, or the beginning of a later one
abbrev pub Begins : Terms → Reading → Type 0
Begins terms clock = first_epoch terms < clock.at.epoch → clock.at.counter ≡ 0

-- each entry goes on from the clock that the one before it left, the first one from this clock, and that one from the last
abbrev pub Continues : Reading → List Entry → Reading → Type 0
Continues clock [] later = GoesOn clock later
Continues clock (entry ∷ entries) later = GoesOn clock entry.clock × Continues entry.later entries later

-- the clock goes on from a worker's last entry, or is a first one
abbrev pub TakesUp : Terms → List Entry → Reading → Type 0
TakesUp terms [] clock = Begins terms clock
TakesUp terms (entry ∷ entries) clock = Continues entry.later entries clock

-- the clock of a worker that did this and entered so many epochs
pub record IsClockBehind (terms : Terms) (entries : List Entry) (entered : ℕ) (clock : Reading) : Type 0 where
  pub is : IsClockOf terms clock
  pub epoch : clock.at.epoch ≡ first_epoch terms + entered
  pub chained : TakesUp terms entries clock

-- the clock of the first entry, if there is one, is a worker's first clock
abbrev pub IsBegun : Terms → List Entry → Type 0
IsBegun terms [] = Unit {0}
IsBegun terms (entry ∷ entries) = Begins terms entry.clock

-- A worker's list: what it did, each from the clock that the one before left, and the last clock, in the last epoch that it
-- entered.
pub record IsListOf (terms : Terms) (worker : ℕ) (entries : List Entry) (entered : ℕ) : Type 0 where
  pub own : AllByRecursion (λ entry. entry.worker ≡ worker) entries
  pub done : AllByRecursion (IsDone terms) entries
  pub begun : IsBegun terms entries
  pub last : Reading
  pub behind : IsClockBehind terms entries entered last
