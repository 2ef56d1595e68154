use Rattle.std.proofs.Common.{◌≡◌, ◌+◌, [], ◌++◌, length, All}
use Rattle.epoch_book.specs.Passes.{IsPassOf, id_of, rows_of}
use Rattle.epoch_book.proofs.book.EpochBook.gather.Given as goal

abbrev pub invariant-loop-pass : goal.invariant-loop-pass
invariant-loop-pass l = record {
  book : l.ticket.table_id ≡ id_of l.self;
  others : All (λ pass. IsPassOf l.self pass) l.passes.items;
  count : l.ticket.me.0.passes + length l.passes.items ≡ length l.fn.passes.items;
  rows : rows_of l.passes.items ++ l.ticket.me.0.rows ≡ rows_of l.fn.passes.items;
  slots : l.ticket.me.1 ≡ [];
}

abbrev pub decreases-loop-pass : goal.decreases-loop-pass
decreases-loop-pass l = length l.passes.items
