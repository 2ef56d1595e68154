-- What a sum shows of its multiset: eight exact sums and a count.
use Rattle.std.specs.Prelude.{◌≡◌, ℕ, ◌-◌, ◌*◌, ◌^◌, ◌<◌, ◌≤◌, List, length, EachIndex, slice_index}

-- what a sum shows: the sum of each lane, and the number of elements
pub record Tally : Type 0 where
  pub lanes : List ℕ
  pub count : ℕ

-- There are eight lanes, none is more than so many numbers of 32 bits can give, and the number of elements is so
-- bounded that each lane is below 2^63.
pub record IsTally (s : Tally) : Type 0 where
  pub eight : length s.lanes ≡ 8
  pub count : s.count < 2 ^ 31
  pub bounded : EachIndex s.lanes (λ lane. slice_index s.lanes lane ≤ s.count * (2 ^ 32 - 1))
