-- Counts of faults: how an object from outside shows that a failure was its own.
use Rattle.std.specs.Prelude.{◌≡◌, ℕ, ◌+◌, ◌-◌, ◌^◌, ◌<◌, ◌≤◌, ◌⊎◌, min, Result, OnErr, is_ok, if◌then◌else◌}

-- the count rose, or stands at the last value of a count of 64 bits
abbrev pub Rose : ℕ → ℕ → Type 0
Rose before now = (before < now) ⊎ (now ≡ 2 ^ 64 - 1)

-- one more, and never more than the last value
abbrev pub counted : ℕ → ℕ
counted n = min (n + 1) (2 ^ 64 - 1)

-- over a call the count never falls, and the call fails only where it rose or stands at its last value
pub record Counts {A E : Type 0} (before now : ℕ) (result : Result A E) : Type 0 where
  pub never_falls : before ≤ now
  pub failed : OnErr result (Rose before now)

-- the count after a call that counts each failure as one fault
abbrev pub faults_after : {A E : Type 0} → ℕ → Result A E → ℕ
faults_after faults result = if is_ok result then faults else counted faults
