use Rattle.std.proofs.Common.{◌≡◌, [], length, All}
use Rattle.worker_threads.proofs.turns.no_turns.Given as goal

-- so many lists are there, with nothing in them
abbrev pub invariant-loop : goal.invariant-loop
invariant-loop l = record {
  count : length l.turns.items ≡ l.counter;
  none : All (λ own. own.items ≡ []) l.turns.items;
}
