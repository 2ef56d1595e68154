-- What a clock shows, as plain data.
use Rattle.std.specs.Prelude.{◌≡◌, ℕ, ◌≤◌}
use Rattle.lamport_clocks.specs.declared.stamp.Stamp.{Stamp}

-- what a clock shows: its first epoch, the last value of its counter, and where it stands
pub record Reading : Type 0 where
  pub first : ℕ
  pub end : ℕ
  pub at : Stamp

-- the clock has not passed its end, nor fallen behind its first epoch
pub record IsReading (r : Reading) : Type 0 where
  pub within : r.at.counter ≤ r.end
  pub from_first : r.first ≤ r.at.epoch

-- the first epoch and the counter's end are as they were
pub record SameBounds (old new : Reading) : Type 0 where
  pub first : new.first ≡ old.first
  pub end : new.end ≡ old.end
