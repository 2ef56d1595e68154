use Rattle.std.proofs.Common.{◌≡◌, ℕ, ◌-◌, [], All, None, Some, length, slice_get}
use Rattle.epoch_book.specs.declared.pass.Pass.{Pass}
use Rattle.epoch_book.specs.Words.{account_of}
use Rattle.epoch_book.specs.Passes.{id_of, IsPassOf, number_of, part_of}
use Rattle.epoch_book.proofs.book.EpochBook.deal.Given as goal

abbrev pub invariant-loop-number : goal.invariant-loop-number
invariant-loop-number l = record {
  dealer : l.dealer.table_id ≡ id_of l.self;
  left : l.dealer.me ≡ (account_of (l.verifiers - l.number) [], []);
  count : length l.passes.items ≡ l.number;
  each : (k : ℕ) (pass : Pass) → slice_get l.passes.items k ≡ Some pass → (number_of pass ≡ k) × IsPassOf l.self pass;
  empty : All (λ pass. part_of pass ≡ None) l.passes.items;
}
