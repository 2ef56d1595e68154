-- A source in memory as plain data, and what one read of it answers, gives and leaves.
use Rattle.std.specs.Prelude.{ℕ, min, List, ◌++◌, length, take, drop, Result, Ok, Err, if◌then◌else◌}
use Rattle.fv_outside.specs.declared.errors.Failed.{Failed}
use Rattle.fv_outside.specs.Errors.{failed}
use Rattle.fv_outside.specs.Calls.{CallCounts, no_calls, is_to_fail, answered, failing}

-- a source that never fails: the bytes left, and the most that one read gives
pub record SureSourceState : Type 0 where
  pub left : List ℕ
  pub piece : ℕ

-- how many bytes a read into so much room gives
abbrev pub given_count : SureSourceState → ℕ → ℕ
given_count source room = min (min room source.piece) (length source.left)

-- those bytes
abbrev pub given : SureSourceState → ℕ → List ℕ
given source room = take (given_count source room) source.left

-- the room after the read: the bytes given at its front, and behind them what stood there
abbrev pub filled : SureSourceState → List ℕ → List ℕ
filled source room = given source (length room) ++ drop (given_count source (length room)) room

-- the source after the read
abbrev pub rest_of : SureSourceState → ℕ → SureSourceState
rest_of source room = record source { left = drop (given_count source room) source.left }

-- a source of which some calls are to fail
pub record SourceState : Type 0 where
  pub source : SureSourceState
  pub calls : CallCounts

-- a source that has had no call
abbrev pub new_source : List ℕ → ℕ → List ℕ → SourceState
new_source bytes piece fails = record { source = record { left = bytes; piece = piece }; calls = no_calls fails }

-- what a read answers: Failed where the call is to fail, else how many bytes it gives
abbrev pub read_answer : SourceState → ℕ → Result ℕ Failed
read_answer s room = if is_to_fail s.calls then Err failed else Ok (given_count s.source room)

-- the room after a read: as it was where the call failed
abbrev pub read_room : SourceState → List ℕ → List ℕ
read_room s room = if is_to_fail s.calls then room else filled s.source room

-- the source after a read: a call that failed gave nothing and is a fault
abbrev pub after_read : SourceState → ℕ → SourceState
after_read s room = if is_to_fail s.calls then record s { calls = failing s.calls } else record { source = rest_of s.source room; calls = answered s.calls }
