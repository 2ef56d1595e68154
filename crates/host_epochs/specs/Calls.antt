-- What the calls do to a worker's hand.
use denote.Bor.{Bor}
use Rattle.std.specs.Prelude.{◌≡◌, ◌≢◌, ◌⊎◌, ℕ, suc, ◌+◌, ◌<◌, ◌≤◌, List, [], ◌∷◌, ◌++◌, length, slice_index_or, All, Option, Some, None, Bool, true, false}
use Rattle.lamport_clocks.specs.declared.stamp.Stamp.{Stamp}
use Rattle.lamport_clocks.specs.Reading.{Reading}
use Rattle.lamport_clocks.specs.Clock.{last_epoch}
use Rattle.record_text.specs.declared.element.Element.{Element}
use Rattle.record_text.specs.declared.request.Request.{Request}
use Rattle.atomic_table.specs.Seated.{TableId}
use Rattle.host_shard.specs.declared.content.Content.{Content}
use Rattle.host_shard.specs.declared.content.Content.TheVariants.{Vacant}
use Rattle.host_shard.specs.Content.{pending}
use Rattle.host_shard.specs.Shown.{shown_content}
use Rattle.host_plan.specs.Plan.{IsPastEnd}
use Rattle.host_epochs.specs.declared.told.Entry.{Entry}
use Rattle.host_epochs.specs.declared.told.Loss.{Loss}
use Rattle.host_epochs.specs.declared.told.Meeting.{Meeting}
use Rattle.host_epochs.specs.declared.told.Reached.{Reached}
use Rattle.host_epochs.specs.declared.told.Stop.{Stop}
use Rattle.host_epochs.specs.declared.hand.Hand.{Hand}
use Rattle.host_epochs.specs.declared.views.Row.{Row}
use Rattle.host_epochs.specs.declared.answers.Taking.{Taking}
use Rattle.host_epochs.specs.declared.answers.Taking.TheVariants as taking
use Rattle.host_epochs.specs.Plays.{new_row, given_back, row_with_done, row_with_epoch, row_with_stop, row_with_warning, row_with_entry}
use Rattle.host_epochs.specs.Stops.{IsAtEnd}
use Rattle.host_epochs.specs.Terms.{Terms, Waits, IsNear, IsUpToDate, clock_at, first_at, first_epoch, owner, place_count}
use Rattle.host_epochs.specs.Told.{IsAsked, IsDone, IsSame, IsClockBehind, Leads}
use Rattle.host_epochs.specs.Hands.{worker_of, row_of, entries, losses, left, seen, stop, entered, done, place, content, history, IsFree, Holds, HoldsContent}

-- ---- all hands of a table

-- the hands of all workers, in the order of their numbers, and none holds a place
pub record AreAll (table : TableId) (workers : ℕ) (hands : List Hand) : Type 0 where
  pub count : length hands ≡ workers
  pub numbers : (i : ℕ) (d : Hand) → i < length hands → worker_of (slice_index_or hands i d) ≡ i
  pub free : All (IsFree table) hands

-- a worker that has done nothing yet
pub record IsNew (hand : Hand) : Type 0 where
  pub row : row_of hand ≡ new_row
  pub losses : losses hand ≡ []
  pub left : left hand ≡ []
  pub seen : seen hand ≡ []

-- ---- what a call does

-- It is the same worker's, and tells this; it noted this much more of losses, of places and of workers.
pub record IsAfter (old new : Hand) (tells : Row) (found : List Loss) (given : List Reached) (looked : List Reached) : Type 0 where
  pub worker : worker_of new ≡ worker_of old
  pub row : row_of new ≡ tells
  pub losses : losses new ≡ losses old ++ found
  pub left : left new ≡ left old ++ given
  pub seen : seen new ≡ seen old ++ looked

-- nothing more is told or noted
abbrev pub IsAsBefore : Hand → Hand → Type 0
IsAsBefore old new = IsAfter old new (row_of old) [] [] []

-- ---- to take

-- one loss more: the place's word was found held, and not by this worker
pub record Loses (old new : Hand) (place : ℕ) : Type 0 where
  pub found : ℕ
  pub held : found ≢ 0
  pub other : found ≢ suc (worker_of old)
  pub after : IsAfter old new (row_of old) (record { place = place; found = found } ∷ []) [] []

-- the place is taken: the hand holds it, with its content, still in its cell, and its history
pub record Wins (terms : Terms) (table : TableId) (old : Hand) (place : ℕ) (new : Hand) : Type 0 where
  pub after : IsAsBefore old new
  pub holds : HoldsContent table new place
  pub leads : Leads terms place (first_at terms place) (history new) (content new)
  pub known : worker_of new < terms.workers
  pub near : IsNear terms (entered new) (done new) (content new)
  pub kept : IsUpToDate terms place (worker_of new) (entered new) (done new) (content new)

-- The content of the place is taken, with its history, which leads to it. Its element is at most one epoch before the worker's,
-- and at most one behind what the worker is through with: so none is newer than the worker's epoch while it isn't through with
-- that. At a place of its own it is of none before the last that it is through with, and where it is alone of none behind its own.
pub record Takes (terms : Terms) (table : TableId) (old : Hand) (place : ℕ) (x : Content) (new : Hand) : Type 0 where
  pub after : IsAsBefore old new
  pub holds : Holds table new place
  pub content_is : content new ≡ x
  pub leads : Leads terms place (first_at terms place) (history new) x
  pub known : worker_of new < terms.workers
  pub near : IsNear terms (entered new) (done new) x
  pub kept : IsUpToDate terms place (worker_of new) (entered new) (done new) x

-- A try takes the content of the place, or finds the word held.
abbrev pub Tries : Terms → TableId → Hand → ℕ → Taking → Hand → Type 0
Tries terms table old place (taking.Taken x) new = Takes terms table old place x new
Tries terms table old place taking.Busy new = Loses old new place × IsFree table new

-- ---- to give

-- the request that is lent, if there is one
abbrev pub asked : Option (Bor Request) → Option Request
asked None = None
asked (Some request) = Some request.now

-- the entry is what the worker does at the place that it holds: this request, or a scan where there is none, from this clock,
-- to this content
pub record IsEntryOf (old : Hand) (place : ℕ) (clock : Reading) (request : Option Request) (after : Content) (entry : Entry) : Type 0 where
  pub place_is : entry.place ≡ place
  pub worker_is : entry.worker ≡ worker_of old
  pub before_is : entry.before ≡ content old
  pub clock_is : entry.clock ≡ clock
  pub request_is : entry.request ≡ request
  pub after_is : entry.after ≡ after

-- The worker is going on, this is its clock, and there is such an entry. The element is of no later epoch than the clock, which
-- is so anyway in the last epoch that may be entered.
pub record MayNote (terms : Terms) (old : Hand) (place : ℕ) (clock : Reading) (request : Option Request) (after : Content) : Type 0 where
  pub going : stop old ≡ None
  pub behind : IsClockBehind terms (entries old) (entered old) clock
  pub reached : entered old < terms.more → Waits (λ epoch. epoch ≤ clock.at.epoch) (shown_content (content old))
  pub entry : Entry
  pub is : IsEntryOf old place clock request after entry
  pub asked : IsAsked terms entry

-- What is given back is what was taken; or it is what serving this request makes of it, or what a scan does where there is
-- none, from the clock that the worker has.
abbrev pub MayGive : Terms → Hand → ℕ → Content → Option (Stamp × Option (Bor Request)) → Type 0
MayGive terms old place given None = IsSame (content old) given
MayGive terms old place given (Some work) = MayNote terms old place (clock_at terms work.0) (asked work.1) given

-- one entry more, and the place is given back
pub record Notes (terms : Terms) (old : Hand) (place : ℕ) (clock : Reading) (request : Option Request) (given : Content) (new : Hand) : Type 0 where
  pub entry : Entry
  pub is : IsEntryOf old place clock request given entry
  pub done : IsDone terms entry
  pub after : IsAfter old new (row_with_entry (row_of old) entry) [] (given_back place given ∷ []) []

abbrev pub Gives : Terms → Hand → ℕ → Content → Option (Stamp × Option (Bor Request)) → Hand → Type 0
Gives terms old place given None new = IsAfter old new (row_of old) [] (given_back place given ∷ []) []
Gives terms old place given (Some work) new = Notes terms old place (clock_at terms work.0) (asked work.1) given new

-- ---- the epochs

-- one of these says that it came as far as this
abbrev pub HasReached : List Reached → ℕ → ℕ → Type 0
HasReached [] of least = ⊥
HasReached (reached ∷ more) of least = ((reached.of ≡ of) × (least ≤ reached.least)) ⊎ HasReached more of least

-- The worker is through with its epoch: each place of its own that was not vacant at the making was given back with an element
-- of that epoch.
abbrev pub IsThrough : Terms → Hand → Type 0
IsThrough terms hand = (place : ℕ) → place < place_count terms → owner terms place ≡ worker_of hand
    → (first_at terms place ≡ Vacant) ⊎ HasReached (left hand) place (first_epoch terms + entered hand)

-- There is one more epoch to enter, and all workers were seen to be through with the worker's.
pub record MayRaise (terms : Terms) (hand : Hand) : Type 0 where
  pub more : entered hand < terms.more
  pub room : first_epoch terms + entered hand < last_epoch
  pub all : (worker : ℕ) → worker < terms.workers → HasReached (seen hand) worker (entered hand)

-- It enters one epoch more, which may be entered; or it doesn't, and then the element of what it holds is of no later epoch
-- than its own.
abbrev pub Enters : Terms → Hand → Bool → Hand → Type 0
Enters terms old true new = IsAfter old new (row_with_epoch (row_of old)) [] [] [] × (suc (entered old) ≤ terms.more)
    × (first_epoch terms + suc (entered old) ≤ last_epoch)
Enters terms old false new = IsAsBefore old new × Waits (λ epoch. epoch ≤ first_epoch terms + entered old) (shown_content (content old))

-- ---- to stop

-- what it holds, if it stops at that, with the request, if there is one
abbrev pub met_by : Hand → Bool → Option Request → Option Meeting
met_by hand false request = None
met_by hand true request = Some (record { place = place hand; content = content hand; request = request })

abbrev pub stop_by : Terms → Hand → Stamp → Bool → Option Request → Stop
stop_by terms hand at held request = record { clock = clock_at terms at; met = met_by hand held request }

-- it stops at what it holds where it tells of an element, and else by its clock alone
abbrev pub stop_of : Terms → Hand → Stamp → Option (Bor Element) → Stop
stop_of terms hand at None = stop_by terms hand at false None
stop_of terms hand at (Some element) = stop_by terms hand at true None

-- it holds a place
pub record HoldsSome (table : TableId) (hand : Hand) : Type 0 where
  pub place : ℕ
  pub holds : Holds table hand place

-- the two counters that the clock would take at what it holds pass the end
pub record IsEndedHere (table : TableId) (hand : Hand) (clock : Reading) : Type 0 where
  pub some : HoldsSome table hand
  pub ends : IsPastEnd (shown_content (content hand)) clock

-- why a worker stops: there is no epoch to come, or its counter ends; or its counter ends at what it holds
abbrev pub HasCause : Terms → TableId → Hand → Reading → Bool → Type 0
HasCause terms table hand clock false = IsAtEnd terms clock
HasCause terms table hand clock true = IsEndedHere table hand clock

-- the same, where an element that is told of is that with which what it holds waits
abbrev pub HasCauseAt : Terms → TableId → Hand → Reading → Option (Bor Element) → Type 0
HasCauseAt terms table hand clock None = HasCause terms table hand clock false
HasCauseAt terms table hand clock (Some element) =
    HasCause terms table hand clock true × (pending (shown_content (content hand)) ≡ Some element.now)

-- the worker is going on, and this is its clock
pub record IsGoing (terms : Terms) (hand : Hand) (at : Stamp) : Type 0 where
  pub going : stop hand ≡ None
  pub behind : IsClockBehind terms (entries hand) (entered hand) (clock_at terms at)

-- where it reads that a worker stopped, it notes that
abbrev pub Hears : Hand → Bool → Hand → Type 0
Hears old true new = IsAfter old new (row_with_warning (row_of old)) [] [] []
Hears old false new = IsAsBefore old new
