-- What is known of a phase once its table is closed.
use Rattle.std.specs.Prelude.{◌≡◌, ℕ, ◌<◌, List, [], length, get_or, IsPermutation, Some, None}
use Rattle.std.specs.List.{flat_map}
use Rattle.host_shard.specs.declared.content.Content.{Content}
use Rattle.host_shard.specs.declared.content.Content.TheVariants.{Vacant}
use Rattle.host_table.specs.declared.views.Row.{Row}
use Rattle.host_table.specs.declared.told.Service.{Service}
use Rattle.host_table.specs.declared.told.Stop.{Stop}
use Rattle.host_table.specs.Terms.{Terms, place_count, first_at}
use Rattle.host_table.specs.Told.{Leads, IsListOf, IsStop, joined_from}

-- the row of a worker that has served nothing
abbrev pub new_row : Row
new_row = record { list = []; stop = None }

-- what a worker tells
abbrev pub row_at : List Row → ℕ → Row
row_at rows worker = get_or rows worker new_row

-- Each place has a history, which makes the content at the end of the one at the making; the histories have the services of
-- the workers' lists, each as often; each list is its worker's; and where a worker's clock ended, it did at a content that
-- the place has had.
pub record IsPhase (terms : Terms) (after : List Content) (rows : List Row) : Type 0 where
  pub past : ℕ → List Service
  pub as_many : length after ≡ place_count terms
  pub all : length rows ≡ terms.workers
  pub leads : (place : ℕ) → place < place_count terms
      → Leads terms place (first_at terms place) (past place) (get_or after place Vacant)
  pub own : (worker : ℕ) → worker < terms.workers → IsListOf terms worker (row_at rows worker).list
  pub ended : (worker : ℕ) (stop : Stop) → worker < terms.workers → (row_at rows worker).stop ≡ Some stop
      → IsStop terms (past stop.place) (row_at rows worker).list stop
  pub same : IsPermutation (flat_map (λ row. row.list) rows) (joined_from 0 (place_count terms) past)
