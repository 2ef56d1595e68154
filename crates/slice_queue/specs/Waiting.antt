-- What a queue holds: the items that wait, in order, and how many more there is room for.
use Rattle.std.specs.Prelude.{ℕ, List}

-- the items, first come first, and how many more can be appended without memory
pub record Waiting (A : Type 0) : Type 0 where
  pub items : List A
  pub room : ℕ
