-- What holds of the table between any two steps.
use Rattle.std.specs.Prelude.{◌≡◌, ◌≢◌, ℕ, suc, ◌+◌, ◌<◌, ◌≤◌, true, List, length, slice_index, IsPermutation, Option, Some}
use Rattle.std.specs.List.{AllByRecursion}
use mathlib.Core.Option.{some}
use lib.ListN.{get_elem?}
use Rattle.lamport_clocks.specs.Clock.{last_epoch}
use Rattle.atomic_table.specs.Table.{State}
use Rattle.host_shard.specs.declared.content.Content.{Content}
use Rattle.host_epochs.specs.declared.told.Entry.{Entry}
use Rattle.host_epochs.specs.declared.told.Reached.{Reached}
use Rattle.host_epochs.specs.declared.told.Stop.{Stop}
use Rattle.host_epochs.specs.declared.views.Held.{Held}
use Rattle.host_epochs.specs.declared.views.Held.TheVariants.{Idle, Has}
use Rattle.host_epochs.specs.declared.views.Row.{Row}
use Rattle.host_epochs.specs.declared.views.View.{View}
use Rattle.host_epochs.specs.declared.views.View.TheVariants.{Spent, Working, Keeping}
use Rattle.host_epochs.specs.Stops.{IsStop}
use Rattle.host_epochs.specs.Terms.{Terms, IsFrom, IsWithin, place_count, first_at, first_epoch, owner}
use Rattle.host_epochs.specs.Told.{Leads, IsListOf, joined_from}
use Rattle.host_epochs.specs.Words.{word_count, newest_in, stop_in, done_in}

-- What is so at one moment: of each place the content that it has last, in its home or with who holds it, and its history; of
-- each worker what it tells, and which view is its own.
pub record Scene : Type 0 where
  pub now : ℕ → Content
  pub past : ℕ → List Entry
  pub row : ℕ → Row
  pub view_of : ℕ → ℕ

-- ---- places

-- the place is in hand
abbrev pub IsOf : ℕ → Held → Type 0
IsOf place Idle = ⊥
IsOf place (Has other x past) = other ≡ place

-- the view is this worker's, and holds the place
abbrev pub HoldsPlace : ℕ → ℕ → View → Type 0
HoldsPlace worker place (Working desk) = (desk.number ≡ worker) × IsOf place desk.held
HoldsPlace worker place (Keeping rack) = ⊥
HoldsPlace worker place Spent = ⊥

-- the word of a place that is held: one more than the number of the worker whose view holds the place
pub record IsHeldAt (terms : Terms) (scene : Scene) (views : List View) (place word : ℕ) : Type 0 where
  pub worker : ℕ
  pub is : word ≡ suc worker
  pub known : worker < terms.workers
  pub view : View
  pub there : get_elem? views (scene.view_of worker) ≡ some view
  pub holds : HoldsPlace worker place view

-- the element of a place is of an epoch that may be entered, and of none before the last that its owner is through with
abbrev pub IsInEpochs : Terms → Scene → List ℕ → ℕ → Type 0
IsInEpochs terms scene words place =
    IsWithin (first_epoch terms + (scene.row (owner terms place)).done) (first_epoch terms + newest_in terms words) (scene.now place)

-- A place whose word is 0 has its content at home; else the worker that the word names holds it. The history of the place
-- makes its last content of the one at the making.
pub record IsPlaceKept (terms : Terms) (scene : Scene) (s : State Content View) (place : ℕ) : Type 0 where
  pub free : slice_index s.words place ≡ 0 → get_elem? s.homes place ≡ some (some (scene.now place))
  pub held : slice_index s.words place ≢ 0 → IsHeldAt terms scene s.views place (slice_index s.words place)
  pub leads : Leads terms place (first_at terms place) (scene.past place) (scene.now place)
  pub epochs : IsInEpochs terms scene s.words place

-- ---- workers

-- A worker's list is its own, and where it stopped it did so behind that list. Its own word says with how many epochs it is
-- through: no more than it entered, and it entered no more than may be entered, which is at most one more than any worker is
-- through with. Where it read that a worker stopped, the word of stops is not 0.
pub record IsWorkerKept (terms : Terms) (past : ℕ → List Entry) (words : List ℕ) (worker : ℕ) (row : Row) : Type 0 where
  pub own : IsListOf terms worker row.list row.entered
  pub stopped : (stop : Stop) → row.stop ≡ Some stop → IsStop terms past row.list row.entered stop
  pub word : done_in terms words worker ≡ row.done
  pub done : row.done ≤ row.entered
  pub entered : row.entered ≤ newest_in terms words
  pub newest : newest_in terms words ≤ suc row.done
  pub warned : row.warned ≡ true → stop_in terms words ≢ 0

-- some worker stopped
pub record HasStopped (terms : Terms) (row : ℕ → Row) : Type 0 where
  pub worker : ℕ
  pub known : worker < terms.workers
  pub stop : Stop
  pub is : (row worker).stop ≡ Some stop

-- ---- views

-- what a worker holds is the last content of a place, with its history, and the place's word names the worker
abbrev pub KnowsHeld : Terms → Scene → List ℕ → ℕ → Held → Type 0
KnowsHeld terms scene words worker Idle = Unit {0}
KnowsHeld terms scene words worker (Has place x past) =
    (place < place_count terms) × (slice_index words place ≡ suc worker) × (x ≡ scene.now place) × (past ≡ scene.past place)

-- the row of a worker
pub record IsRowOf (scene : Scene) (view worker : ℕ) (row : Row) : Type 0 where
  pub here : scene.view_of worker ≡ view
  pub is : row ≡ scene.row worker

-- the element of a place is of none before the epoch with which it was given back
abbrev pub IsLeft : Scene → Reached → Type 0
IsLeft scene reached = IsFrom reached.least (scene.now reached.of)

-- a worker is through with as many epochs as it was found to be
abbrev pub IsSeen : Terms → Scene → Reached → Type 0
IsSeen terms scene reached = reached.of < terms.workers → reached.least ≤ (scene.row reached.of).done

-- What a view says is so: a worker's, that its row is that worker's, with what it holds and how far it found places and
-- workers; one that keeps rows, that they are those of all workers from a number on.
abbrev pub Knows : Terms → Scene → List ℕ → ℕ → View → Type 0
Knows terms scene words view Spent = Unit {0}
Knows terms scene words view (Working desk) =
    (desk.number < terms.workers) × IsRowOf scene view desk.number desk.row × KnowsHeld terms scene words desk.number desk.held
    × AllByRecursion (IsLeft scene) desk.left × AllByRecursion (IsSeen terms scene) desk.seen
Knows terms scene words view (Keeping rack) = (rack.from + length rack.rows ≡ terms.workers)
    × ((i : ℕ) (row : Row) → get_elem? rack.rows i ≡ some row → IsRowOf scene view (rack.from + i) row)

-- ---- the rule

-- There is a scene that all places, workers and views are of, and the histories of the places have the entries of the workers'
-- lists. No more epochs may be entered than the making says, and than there are. The word of stops is not 0 only where a
-- worker stopped.
pub record IsKept (terms : Terms) (s : State Content View) : Type 0 where
  pub scene : Scene
  pub wide : length s.words ≡ word_count terms
  pub deep : length s.homes ≡ place_count terms
  pub places : (place : ℕ) → place < place_count terms → IsPlaceKept terms scene s place
  pub workers : (worker : ℕ) → worker < terms.workers → IsWorkerKept terms scene.past s.words worker (scene.row worker)
  pub views : (view : ℕ) (v : View) → get_elem? s.views view ≡ some v → Knows terms scene s.words view v
  pub even : IsPermutation (joined_from 0 terms.workers (λ worker. (scene.row worker).list)) (joined_from 0 (place_count terms) scene.past)
  pub more : newest_in terms s.words ≤ terms.more
  pub room : 0 < newest_in terms s.words → first_epoch terms + newest_in terms s.words ≤ last_epoch
  pub stopped : stop_in terms s.words ≢ 0 → HasStopped terms scene.row
