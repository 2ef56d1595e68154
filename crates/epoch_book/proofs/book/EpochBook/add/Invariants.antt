use Rattle.std.proofs.Common.{◌≡◌, [], ◌∷◌, take}
use Rattle.epoch_book.specs.Words.{account_of}
use Rattle.epoch_book.proofs.book.EpochBook.add.Given as goal

abbrev pub invariant-loop-word : goal.invariant-loop-word
invariant-loop-word l = record {
  book : l.ticket.table_id ≡ l.initial.ticket.table_id;
  row : l.ticket.me ≡ (account_of 1 (take l.word l.numbers ∷ []), []);
}
