use Rattle.std.proofs.Common.{◌≡◌, ◌+◌, ◌<◌, ℕ, drop, length, map, get_or}
use Rattle.std.specs.Vec.Iter.{into_iter_items}
use Rattle.bundle_report.specs.declared.judged.Judged.{Judged}
use Rattle.certified_epochs.specs.Turn.{AreVerdictsOn}
use Rattle.host_rounds.proofs.DealingLemmas.{Passes}
use Rattle.host_rounds.proofs.books.settle_all.Given as goal

-- the books so far are settled, and their passes are used up
abbrev pub invariant-loop-book : goal.invariant-loop-book
invariant-loop-book l = record {
  left : drop (length l.verdicts.items) l.fn.books.items ≡ into_iter_items l.books;
  count : length l.verdicts.items + length (into_iter_items l.books) ≡ length l.fn.books.items;
  len : length l.passes.items ≡ length l.fn.passes.items;
  passes : (i : ℕ) (one : Passes) → i < length l.fn.passes.items
      → drop (length l.verdicts.items) (into_iter_items (get_or l.fn.passes.items i one)) ≡ into_iter_items (get_or l.passes.items i one);
  settled : (judged : Judged) → AreVerdictsOn judged (map (λ fed. fed.run) l.runs) l.verdicts.items;
}

abbrev pub decreases-loop-book : goal.decreases-loop-book
decreases-loop-book l = length (into_iter_items l.books)
