-- How often each worker got, put and deleted among operations.
use Rattle.std.specs.Prelude.{ℕ, ◌+◌, ◌==◌, ◌&&◌, Bool, not, List, map, is_some, is_none, count_by}
use Rattle.std.specs.List.{range_with_len}
use Rattle.record_text.specs.declared.operation.Operation.{Operation}
use Rattle.load_summary.specs.declared.tally.Tally.{Tally}

-- whether an operation is a get of this worker
abbrev pub is_get : ℕ → Operation → Bool
is_get worker op = op.verifier == worker && not op.put

-- whether it is a get that found none
abbrev pub is_get_of_none : ℕ → Operation → Bool
is_get_of_none worker op = is_get worker op && is_none op.value

-- whether it is a put of a value
abbrev pub is_put : ℕ → Operation → Bool
is_put worker op = op.verifier == worker && op.put && is_some op.value

-- whether it is a put of none, which is called a del
abbrev pub is_del : ℕ → Operation → Bool
is_del worker op = op.verifier == worker && op.put && is_none op.value

-- how many gets a worker has among operations, how many of these found none, how many puts and how many dels
abbrev pub tally_of : ℕ → List Operation → Tally
tally_of worker ops = record {
  gets = count_by (is_get worker) ops;
  none = count_by (is_get_of_none worker) ops;
  puts = count_by (is_put worker) ops;
  dels = count_by (is_del worker) ops;
}

-- those of so many workers, from worker 0 on
abbrev pub tallies_of : ℕ → List Operation → List Tally
tallies_of workers ops = map (λ worker. tally_of worker ops) (range_with_len 0 workers)

-- two tallies, number by number
abbrev pub tally_sum : Tally → Tally → Tally
tally_sum one other = record {
  gets = one.gets + other.gets;
  none = one.none + other.none;
  puts = one.puts + other.puts;
  dels = one.dels + other.dels;
}
