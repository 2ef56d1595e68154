-- The calls of an object in memory: how many it has had, and which of them are to fail.
use Rattle.std.specs.Prelude.{ℕ, List, Bool, ◌==◌}
use Rattle.std.specs.List.{list_any}
use Rattle.fv_outside.specs.Faults.{counted}

-- the numbers (from 0) of the calls that are to fail, the number of the next call, and the faults so far
pub record CallCounts : Type 0 where
  pub fails : List ℕ
  pub made : ℕ
  pub faults : ℕ

-- before the first call
abbrev pub no_calls : List ℕ → CallCounts
no_calls fails = record { fails = fails; made = 0; faults = 0 }

-- whether the next call is to fail
abbrev pub is_to_fail : CallCounts → Bool
is_to_fail calls = list_any (λ n. n == calls.made) calls.fails

-- one call more. At the last value of a count the number stands still
abbrev pub answered : CallCounts → CallCounts
answered calls = record calls { made = counted calls.made }

-- one call more, which failed
abbrev pub failing : CallCounts → CallCounts
failing calls = record calls { made = counted calls.made; faults = counted calls.faults }
