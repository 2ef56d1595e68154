use Rattle.std.proofs.Common.{◌≡◌, ℕ, ◌-◌, ◌<◌, ◌≤◌, ◌⊎◌}
use Rattle.path_index.specs.Order.{order_of}
use Rattle.path_index.specs.Index.{mark_at, count_of}
use Rattle.path_index.proofs.HalvingLemmas.{Halved}
use Rattle.path_index.proofs.searching.search.Given as goal

-- what comes before the range and behind it lies so to the path, the range was halved by each step, and before the first
-- step it is the whole
abbrev pub invariant-halving : goal.invariant-halving
invariant-halving g l = record {
  order : l.low ≤ l.high;
  within : l.high ≤ count_of l.index;
  before : (i : ℕ) → i < l.low → order_of (mark_at l.index i).path < order_of l.k;
  behind : (i : ℕ) → l.high ≤ i → i < count_of l.index → order_of l.k < order_of (mark_at l.index i).path;
  rise : l.fn.steps ≤ l.steps;
  counts : (l.fn.steps < l.steps) ⊎ ((l.low ≡ 0) × (l.high ≡ count_of l.index));
  halved : Halved (l.steps - l.fn.steps) (l.high - l.low) (count_of l.index);
}

abbrev pub decreases-halving : goal.decreases-halving
decreases-halving g l = l.high - l.low
