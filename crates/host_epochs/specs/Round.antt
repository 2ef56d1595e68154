-- What is known of a round once its table is closed.
use Rattle.std.specs.Prelude.{◌≡◌, ℕ, suc, ◌+◌, ◌<◌, ◌≤◌, true, List, length, get_or, IsPermutation, Some}
use Rattle.std.specs.List.{flat_map}
use Rattle.lamport_clocks.specs.Clock.{last_epoch}
use Rattle.host_shard.specs.declared.content.Content.{Content}
use Rattle.host_shard.specs.declared.content.Content.TheVariants.{Vacant}
use Rattle.host_epochs.specs.declared.told.Entry.{Entry}
use Rattle.host_epochs.specs.declared.told.Stop.{Stop}
use Rattle.host_epochs.specs.declared.views.Row.{Row}
use Rattle.host_epochs.specs.Plays.{new_row}
use Rattle.host_epochs.specs.Rule.{HasStopped}
use Rattle.host_epochs.specs.Stops.{IsStop}
use Rattle.host_epochs.specs.Terms.{Terms, IsWithin, place_count, first_at, first_epoch, owner}
use Rattle.host_epochs.specs.Told.{Leads, IsListOf, joined_from}

-- what a worker tells
abbrev pub row_at : List Row → ℕ → Row
row_at rows worker = get_or rows worker new_row

-- Each place has a history, which makes the content at the end of the one at the making; the histories have the entries of
-- the workers' lists, each as often; each list is its worker's; and where a worker stopped, it did so with cause. Each worker
-- entered all epochs that could be entered, or all but the last, and is through with these; so is each element of one of the
-- last two, and of none before the last that its place's owner is through with. Where a worker read that one stopped, one did.
pub record IsRound (terms : Terms) (after : List Content) (rows : List Row) : Type 0 where
  pub past : ℕ → List Entry
  pub as_many : length after ≡ place_count terms
  pub all : length rows ≡ terms.workers
  pub leads : (place : ℕ) → place < place_count terms
      → Leads terms place (first_at terms place) (past place) (get_or after place Vacant)
  pub own : (worker : ℕ) → worker < terms.workers → IsListOf terms worker (row_at rows worker).list (row_at rows worker).entered
  pub stopped : (worker : ℕ) (stop : Stop) → worker < terms.workers → (row_at rows worker).stop ≡ Some stop
      → IsStop terms past (row_at rows worker).list (row_at rows worker).entered stop
  pub same : IsPermutation (flat_map (λ row. row.list) rows) (joined_from 0 (place_count terms) past)
  pub newest : ℕ
  pub more : newest ≤ terms.more
  pub room : 0 < newest → first_epoch terms + newest ≤ last_epoch
  pub done : (worker : ℕ) → worker < terms.workers → (row_at rows worker).done ≤ (row_at rows worker).entered
  pub entered : (worker : ℕ) → worker < terms.workers → (row_at rows worker).entered ≤ newest
  pub behind : (worker : ℕ) → worker < terms.workers → newest ≤ suc (row_at rows worker).done
  pub epochs : (place : ℕ) → place < place_count terms
      → IsWithin (first_epoch terms + (row_at rows (owner terms place)).done) (first_epoch terms + newest) (get_or after place Vacant)
  pub warned : (worker : ℕ) → worker < terms.workers → (row_at rows worker).warned ≡ true → HasStopped terms (row_at rows)
