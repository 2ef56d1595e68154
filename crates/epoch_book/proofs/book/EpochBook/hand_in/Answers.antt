use Rattle.std.proofs.Common.{◌≤◌, ◌^◌, slice_index, subst, sym}
use Rattle.epoch_book.proofs.NumberLemmas.{numbers-bounded}
use Rattle.epoch_book.proofs.book.EpochBook.hand_in.Goals as goal

pub add-requires-clause-small : goal.add-requires-clause-small
add-requires-clause-small c word =
    let tallies = c.numbers_of.ensures.tallies in
    let bound = numbers-bounded c.args.part tallies.0 tallies.1 c.requires.counts.0 c.requires.counts.1 word in
    subst (λ (numbers : _). slice_index numbers word ≤ 2 ^ 57) (sym c.numbers_of.ensures.numbers) bound
