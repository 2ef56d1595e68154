-- A number that only rises: what its calls say of it where it is told, and a counter in memory as plain data.
use Rattle.std.specs.Prelude.{◌≡◌, ℕ, ◌+◌, ◌-◌, ◌^◌, ◌<◌, ◌==◌, ◌||◌, ⊤, Bool, List, Option, None, Some, Result, Ok, Err, if◌then◌else◌}
use Rattle.fv_outside.specs.declared.errors.Failed.{Failed}
use Rattle.fv_outside.specs.Errors.{failed}
use Rattle.fv_outside.specs.Calls.{CallCounts, no_calls, is_to_fail, answered, failing}

-- this is the number, where it is told
abbrev pub Tells : Option ℕ → ℕ → Type 0
Tells None answer = ⊤
Tells (Some number) answer = answer ≡ number

-- this is one more than the number, where it is told, and it is the number from then on
abbrev pub Raises : Option ℕ → Option ℕ → ℕ → Type 0
Raises None new answer = ⊤
Raises (Some number) None answer = ⊥
Raises (Some number) (Some new) answer = (new ≡ number + 1) × (answer ≡ new)

-- the last value of a number of 64 bits
abbrev pub last_number : ℕ
last_number = 2 ^ 64 - 1

-- the number is below its last value
abbrev pub HasRaisesLeft : ℕ → Type 0
HasRaisesLeft number = number < last_number

-- a counter in memory: the number, and the calls
pub record CounterState : Type 0 where
  pub number : ℕ
  pub calls : CallCounts

-- a counter that has had no call
abbrev pub new_counter : ℕ → List ℕ → CounterState
new_counter start fails = record { number = start; calls = no_calls fails }

-- what a read answers
abbrev pub read_answer : CounterState → Result ℕ Failed
read_answer c = if is_to_fail c.calls then Err failed else Ok c.number

-- the counter after a read: one that failed is a fault
abbrev pub after_read : CounterState → CounterState
after_read c = if is_to_fail c.calls then record c { calls = failing c.calls } else record c { calls = answered c.calls }

-- whether the next raise fails: its number is in the list, or the counter stands at the last value
abbrev pub raise_fails : CounterState → Bool
raise_fails c = is_to_fail c.calls || c.number == last_number

-- what a raise answers
abbrev pub raise_answer : CounterState → Result ℕ Failed
raise_answer c = if raise_fails c then Err failed else Ok (c.number + 1)

-- the counter after a raise: one that failed left the number and is a fault
abbrev pub after_raise : CounterState → CounterState
after_raise c = if raise_fails c then record c { calls = failing c.calls } else record { number = c.number + 1; calls = answered c.calls }
