use Rattle.std.proofs.Common.{◌≡◌, ℕ, ◌<◌, length, slice_index}
use Rattle.core.specs.Mem.Slots.{slots_items}
use mathlib.Core.Option.{some}
use lib.ListN.{get_elem?}
use Rattle.epoch_book.proofs.gathering.words_of.Given as goal

abbrev pub invariant-loop-word : goal.invariant-loop-word
invariant-loop-word l = record {
  count : length l.words ≡ 18;
  front : (k : ℕ) → k < l.word → get_elem? (slots_items l.closed.words) k ≡ some (slice_index l.words k);
}
