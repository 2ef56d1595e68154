-- Operations as they are counted one by one.
use Rattle.std.specs.Prelude.{ℕ, ◌+◌, ◌≤◌, Bool, true, false, List, [], length, get_or, set, Option, Some, None}
use Rattle.record_text.specs.declared.operation.Operation.{Operation}
use Rattle.load_summary.specs.declared.tally.Tally.{Tally}
use Rattle.load_summary.specs.Tallies.{tally_of, tallies_of}

-- how many operations were counted, and the tally of each worker
pub record Counted : Type 0 where
  pub operations : ℕ
  pub tallies : List Tally

-- of so many workers, when these operations were counted
abbrev pub counted_of : ℕ → List Operation → Counted
counted_of workers ops = record { operations = length ops; tallies = tallies_of workers ops }

-- a tally with a get or a put more, by its value
abbrev pub with_one : Bool → Option (List ℕ) → Tally → Tally
with_one false None tally = record tally { gets = tally.gets + 1; none = tally.none + 1 }
with_one false (Some bytes) tally = record tally { gets = tally.gets + 1 }
with_one true None tally = record tally { dels = tally.dels + 1 }
with_one true (Some bytes) tally = record tally { puts = tally.puts + 1 }

-- with an operation more, which is in the tally of its worker if that is one of these
abbrev pub with_operation : Counted → Operation → Counted
with_operation counted op = record {
  operations = counted.operations + 1;
  tallies = set counted.tallies op.verifier (with_one op.put op.value (get_or counted.tallies op.verifier (tally_of 0 [])));
}

-- no number of a tally is above this one
pub record IsWithin (most : ℕ) (tally : Tally) : Type 0 where
  pub gets : tally.gets ≤ most
  pub none : tally.none ≤ most
  pub puts : tally.puts ≤ most
  pub dels : tally.dels ≤ most
