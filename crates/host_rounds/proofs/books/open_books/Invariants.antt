use Rattle.std.proofs.Common.{◌≡◌, ◌<◌, ℕ, length, map, get_or}
use Rattle.std.specs.List.{AllByRecursion}
use Rattle.epoch_book.specs.Passes.{verifiers_of}
use Rattle.host_rounds.specs.declared.with_passes.WithPasses.{WithPasses}
use Rattle.host_rounds.specs.WithPasses.{run_in, passes_in}
use Rattle.host_rounds.specs.Sealing.{AreNewPasses}
use Rattle.host_rounds.proofs.books.open_books.Given as goal

-- each verifier has its passes of the books so far
abbrev pub invariant-loop : goal.invariant-loop
invariant-loop l = record {
  count : length l.books.items ≡ l.counter;
  len : length l.all ≡ length l.fn.all;
  verifiers : AllByRecursion (λ book. verifiers_of book ≡ length l.fn.all) l.books.items;
  passes : (i : ℕ) (one : WithPasses) → i < length l.fn.all → AreNewPasses l.books.items i (passes_in (get_or l.all i one));
  runs : map run_in l.all ≡ map run_in l.fn.all;
}
