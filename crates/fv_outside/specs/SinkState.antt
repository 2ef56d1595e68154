-- A sink in memory as plain data, and what one write to it answers and leaves. A vault in memory is
-- such a sink with a name.
use Rattle.std.specs.Prelude.{◌≡◌, ℕ, ◌-◌, min, Bool, ◌||◌, nat_le, nat_lt, List, [], ◌++◌, length, take, Option, None, Some, Result, Ok, Err, if◌then◌else◌}
use Rattle.fv_outside.specs.declared.errors.Failed.{Failed}
use Rattle.fv_outside.specs.Errors.{failed}
use Rattle.fv_outside.specs.Calls.{CallCounts, no_calls, is_to_fail, answered, failing}

-- the bytes held and how many can be held, the most that one write takes, and the calls
pub record SinkState : Type 0 where
  pub held : List ℕ
  pub capacity : ℕ
  pub piece : ℕ
  pub calls : CallCounts

-- a sink that has had no call
abbrev pub new_sink : ℕ → ℕ → List ℕ → SinkState
new_sink capacity piece fails = record { held = []; capacity = capacity; piece = piece; calls = no_calls fails }

-- whether the next write fails: its number is in the list, or the sink is full
abbrev pub write_fails : SinkState → Bool
write_fails s = is_to_fail s.calls || nat_le s.capacity (length s.held)

-- how many bytes of a text a write takes that doesn't fail
abbrev pub taken_count : SinkState → List ℕ → ℕ
taken_count s text = min (min (length text) s.piece) (s.capacity - length s.held)

-- what a write answers
abbrev pub write_answer : SinkState → List ℕ → Result ℕ Failed
write_answer s text = if write_fails s then Err failed else Ok (taken_count s text)

-- the sink after a write: one that failed took nothing and is a fault
abbrev pub after_write : SinkState → List ℕ → SinkState
after_write s text = if write_fails s then record s { calls = failing s.calls } else record s { held = s.held ++ take (taken_count s text) text; calls = answered s.calls }

-- a vault in memory: a sink, and the name if it was given one
pub record VaultState : Type 0 where
  pub sink : SinkState
  pub name : Option (List ℕ)

-- a vault that has had no call
abbrev pub new_vault : ℕ → ℕ → List ℕ → VaultState
new_vault capacity piece fails = record { sink = new_sink capacity piece fails; name = None }

-- neither named nor written to
abbrev pub IsFresh : VaultState → Type 0
IsFresh v = (v.sink.held ≡ []) × (v.name ≡ None)

-- whether naming fails: the call's number is in the list, or the name is longer than the capacity
abbrev pub name_fails : VaultState → List ℕ → Bool
name_fails v path = is_to_fail v.sink.calls || nat_lt v.sink.capacity (length path)

-- what naming answers
abbrev pub name_answer : VaultState → List ℕ → Result (Unit {0}) Failed
name_answer v path = if name_fails v path then Err failed else Ok tt

-- the vault after it: naming is a call of its sink's, and one that failed left the name as it was
abbrev pub after_name : VaultState → List ℕ → VaultState
after_name v path = if name_fails v path then record v { sink = record v.sink { calls = failing v.sink.calls } } else record { sink = record v.sink { calls = answered v.sink.calls }; name = Some path }
