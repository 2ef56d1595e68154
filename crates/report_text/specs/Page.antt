-- What has been written and what waits, as one text.
use Rattle.std.specs.Prelude.{◌≡◌, ℕ, List, ◌++◌, Option}
use Rattle.fv_outside.specs.Written.{Grows}

-- what was written and what waits grew by a line together: some bytes were written of what waited before
pub record Passes (old : Option (List ℕ)) (waited line : List ℕ) (new : Option (List ℕ)) (waits : List ℕ) : Type 0 where
  pub written : List ℕ
  pub grown : Grows old new written
  pub kept : written ++ waits ≡ waited ++ line
