-- A worker's part of a round at a table: what it is asked, and what it did of it.
use Rattle.std.specs.Prelude.{◌≡◌, ℕ, ◌+◌, ◌<◌, ◌≤◌, true, false, is_some, All, List, [], ◌∷◌, ◌++◌, length, map, Option, Some, None}
use Rattle.std.specs.Option.{ForSome}
use Rattle.lamport_clocks.specs.Reading.{Reading}
use Rattle.record_text.specs.declared.request.Request.{Request}
use Rattle.host_core.specs.World.{Worker}
use Rattle.round_order.specs.Turn.{on_to, clock_behind, served_behind, logged}
use Rattle.host_epochs.specs.declared.told.Entry.{Entry}
use Rattle.host_epochs.specs.declared.told.Meeting.{Meeting}
use Rattle.host_epochs.specs.declared.told.Stop.{Stop}
use Rattle.host_epochs.specs.declared.views.Row.{Row}
use Rattle.host_epochs.specs.Terms.{Terms, IsPlaceOf, first_epoch, final_epoch}
use Rattle.table_order.specs.Rounds.{turns_of, BeginsAt}
use Rattle.round_workers.specs.declared.turn.Turn.{Turn}
use Rattle.round_workers.specs.Order.{AreCalledFor, AreFresh, AreInOrder, NoneMay}

-- ---- what is asked

-- what a worker's turns ask of it, in order: each a request with its phase, counted from the epoch of the making
abbrev pub asked_in : List Turn → List (ℕ × Request)
asked_in turns = map (λ turn. (turn.phase, turn.task.request)) turns

-- a turn has its key's place at a table, and its phase is of an epoch that may be entered
pub record HasPlace (terms : Terms) (turn : Turn) : Type 0 where
  pub at : IsPlaceOf terms turn.place turn.task.request.key
  pub phase : turn.phase ≤ terms.more

abbrev pub HavePlaces : Terms → List Turn → Type 0
HavePlaces terms turns = All (HasPlace terms) turns

-- The turns of each worker at a table.
pub record HaveTurns (terms : Terms) (turns : List (List Turn)) : Type 0 where
  pub many : length turns ≡ terms.workers
  pub places : All (HavePlaces terms) turns

-- ---- what is done

-- A request that is served is the next that is asked, at a clock of an epoch of at least its phase; a scan leaves all that is asked.
abbrev pub IsNext : ℕ → List (ℕ × Request) → Entry → Option Request → List (ℕ × Request) → Type 0
IsNext first asked entry None rest = asked ≡ rest
IsNext first asked entry (Some request) rest = (phase : ℕ) × (asked ≡ (phase, request) ∷ rest) × (first + phase ≤ entry.clock.at.epoch)

-- what is asked is served in order, and this is left
abbrev pub AreDone : ℕ → List (ℕ × Request) → List Entry → List (ℕ × Request) → Type 0
AreDone first asked [] rest = asked ≡ rest
AreDone first asked (entry ∷ entries) rest =
    (then : List (ℕ × Request)) × IsNext first asked entry entry.request then × AreDone first then entries rest

-- the request for which a worker took the place at which it stopped
abbrev pub request_at : Option Meeting → Option Request
request_at None = None
request_at (Some met) = met.request

-- where a worker stopped at a request, that is the next that is asked; where it stopped at none, there are further epochs
abbrev pub IsNextOf : ℕ → List (ℕ × Request) → Option Request → Type 0
IsNextOf more rest None = 0 < more
IsNextOf more rest (Some request) = (phase : ℕ) × (then : List (ℕ × Request)) × (rest ≡ (phase, request) ∷ then)

-- A worker stopped at its clock, with this still to do.
pub record IsEnd (more : ℕ) (rest : List (ℕ × Request)) (clock : Reading) (stop : Stop) : Type 0 where
  pub clock_is : stop.clock ≡ clock
  pub next : IsNextOf more rest (request_at stop.met)

-- The worker did what it was asked up to this rest, from its clock on: it logged the commands and, between them and at the end, the
-- epochs that it entered, and its clock is behind all that. Its scans came first in each epoch, in order, and what it served at its
-- own places found an element of the epoch. Where it stopped it is stopped. Only where there are further epochs it may have read that
-- one stopped. Where it is the only worker, it entered no epoch before that was called for.
pub record HasDoneUpTo (terms : Terms) (asked rest : List (ℕ × Request)) (row : Row) (old new : Worker) : Type 0 where
  pub done : AreDone (first_epoch terms) asked row.list rest
  pub begins : BeginsAt old.clock row.list
  pub fresh : AreFresh terms.workers (turns_of row.list)
  pub order : AreInOrder (first_epoch terms) NoneMay (turns_of row.list)
  pub called : terms.workers ≡ 1
      → AreCalledFor (first_epoch terms) (final_epoch terms) (first_epoch terms) asked (turns_of row.list) (first_epoch terms + row.entered)
  pub log : new.log ≡ old.log ++ logged (first_epoch terms + row.entered) old.clock (turns_of row.list)
  pub clock : new.clock ≡ on_to (first_epoch terms + row.entered) (clock_behind old.clock (turns_of row.list))
  pub served : new.served ≡ served_behind old.served (turns_of row.list)
  pub stopped : new.stopped ≡ is_some row.stop
  pub ended : ForSome row.stop (IsEnd terms.more rest new.clock)
  pub heard : row.warned ≡ true → 0 < terms.more
  pub holds : new.holds ≡ old.holds
  pub stuck : new.stuck ≡ old.stuck

-- A worker that is through with the last epoch has nothing left to do.
pub record IsWhole (more : ℕ) (rest : List (ℕ × Request)) (row : Row) : Type 0 where
  pub served : rest ≡ []
  pub entered : row.entered ≡ more
  pub done : row.done ≡ more

-- The worker did its part: all that it was asked, unless it stopped, or read that one stopped.
pub record HasDone (terms : Terms) (asked : List (ℕ × Request)) (row : Row) (old new : Worker) : Type 0 where
  pub rest : List (ℕ × Request)
  pub so_far : HasDoneUpTo terms asked rest row old new
  pub whole : row.stop ≡ None → row.warned ≡ false → IsWhole terms.more rest row
