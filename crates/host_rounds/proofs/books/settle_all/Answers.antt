use Rattle.std.proofs.Common.{◌≡◌, ℕ, ◌<◌, suc, ◌∷◌, List, length, refl, get_or, map, drop, sym, ◌∙◌, ap, subst, arith}
use Rattle.std.specs.Vec.Iter.{into_iter_items}
use Rattle.std.proofs.lemmas.List.{with_items_is}
use Rattle.epoch_book.specs.declared.book.EpochBook.{EpochBook}
use Rattle.epoch_book.specs.declared.pass.Pass.{Pass}
use Rattle.epoch_book.specs.Passes.{verifiers_of}
use Rattle.certified_epochs.specs.declared.fed_run.FedRun.{FedRun}
use Rattle.host_rounds.proofs.ChangedLemmas.{left-within, next-left, more-length}
use Rattle.host_rounds.proofs.DealingLemmas.{Passes}
use Rattle.host_rounds.proofs.SealingLemmas.{one-of}
use Rattle.host_rounds.proofs.SettlingLemmas.{all-passes, settled-verdict, one-more}
use Rattle.host_rounds.proofs.SealedLemmas.{one-left, column, column-left}
use Rattle.host_rounds.proofs.books.settle_all.Goals as goal

pub next_of_each-requires : goal.next_of_each-requires
next_of_each-requires c =
    let so_far = c.loop-book.invariant in
    let lent = c.as_mut_slice.ensures.value in
    record {
      some = λ i one there.
          subst (λ (ps : List Passes). 0 < length (into_iter_items (get_or ps i one))) (sym lent)
          (one-left c.args.books.items (into_iter_items c.next.new.self) c.args.runs.now c.args.passes.items c.loop-book.passes.items (length c.loop-book.verdicts.items) c.in-Some.book c.requires.as_many
          c.requires.handed (so_far.left ∙ c.in-Some.ensures.items) so_far.passes i one (let size = ap (λ (ps : List Passes). length ps) lent in omega (arith, there, size, so_far.len)));
    }

pub settle-requires : goal.settle-requires
settle-requires c =
    let so_far = c.loop-book.invariant in
    let lent = c.as_mut_slice.ensures.value in
    let books = c.args.books.items in
    let place = length c.loop-book.verdicts.items in
    let book = c.in-Some.book in
    let books_left = into_iter_items c.next.new.self in
    let left : drop place books ≡ book ∷ books_left = so_far.left ∙ c.in-Some.ensures.items in
    let size = ap (λ (ps : List Passes). length ps) lent in
    let as_many : length c.in_ok-own.own.items ≡ length c.args.passes.items = omega (arith, c.in_ok-own.ensures.as_many, size, so_far.len) in
    let verifiers : verifiers_of book ≡ length c.args.runs.now =
    subst (λ (b : EpochBook). verifiers_of b ≡ length c.args.runs.now) (next-left books books_left place (suc place) book book left refl).0
    (one-of (λ (b : EpochBook). verifiers_of b ≡ length c.args.runs.now) books place book (left-within books books_left place book left) c.requires.verifiers) in
    record {
      all =
          all-passes book place c.args.runs.now c.in_ok-own.own.items (as_many ∙ c.requires.as_many) verifiers
          (column books books_left c.args.runs.now c.args.passes.items c.loop-book.passes.items place book c.requires.as_many c.requires.handed left so_far.passes c.in_ok-own.own.items
          c.next_of_each.new.all (suc place) refl as_many
          (λ i one pass within.
          ap (λ (ps : List Passes). into_iter_items (get_or ps i one)) (sym lent) ∙ c.in_ok-own.ensures.next i one pass (omega (arith, within, size, so_far.len))));
    }

pub loop-book-preserved : goal.loop-book-preserved
loop-book-preserved c =
    let so_far = c.loop-book.invariant in
    let lent = c.as_mut_slice.ensures.value in
    let books = c.args.books.items in
    let place = length c.loop-book.verdicts.items in
    let book = c.in-Some.book in
    let books_left = into_iter_items c.next.new.self in
    let left : drop place books ≡ book ∷ books_left = so_far.left ∙ c.in-Some.ensures.items in
    let size = ap (λ (ps : List Passes). length ps) lent in
    let own = c.in_ok-own.own.items in
    let laters = c.next_of_each.new.all in
    let as_many : length own ≡ length c.args.passes.items = omega (arith, c.in_ok-own.ensures.as_many, size, so_far.len) in
    let given = λ (i : ℕ) (one : Passes) (pass : Pass) (within : i < length c.args.passes.items).
    ap (λ (ps : List Passes). into_iter_items (get_or ps i one)) (sym lent) ∙ c.in_ok-own.ensures.next i one pass (omega (arith, within, size, so_far.len)) in
    let later = c.push.new.self.items in
    let more = c.in_ok-push.ensures.items in
    let next : length later ≡ suc place = more-length later c.loop-book.verdicts.items c.settle.result more in
    let back = with_items_is c.loop-book.passes laters (c.in_ok-own.ensures.len ∙ c.as_mut_slice.ensures.len) in
    let verifiers : verifiers_of book ≡ length c.args.runs.now =
    subst (λ (b : EpochBook). verifiers_of b ≡ length c.args.runs.now) (next-left books books_left place (suc place) book book left refl).0
    (one-of (λ (b : EpochBook). verifiers_of b ≡ length c.args.runs.now) books place book (left-within books books_left place book left) c.requires.verifiers) in
    record {
      left = (next-left books books_left place (length later) book book left next).1;
      count = let used = ap (λ (bs : List EpochBook). length bs) c.in-Some.ensures.items in omega (arith, used, next, so_far.count);
      len = ap (λ (ps : List Passes). length ps) back ∙ c.in_ok-own.ensures.len ∙ size ∙ so_far.len;
      passes = λ i one within.
          column-left books books_left c.args.runs.now c.args.passes.items c.loop-book.passes.items place book c.requires.as_many c.requires.handed left so_far.passes own laters (length later) next as_many
          given i one within
          ∙ ap (λ (ps : List Passes). into_iter_items (get_or ps i one)) (sym back);
      settled = λ judged.
          one-more judged (map (λ (fed : FedRun). fed.run) c.args.runs.now) later c.loop-book.verdicts.items c.settle.result (so_far.settled judged) more
          (λ can.
          settled-verdict book place c.args.runs.now own (as_many ∙ c.requires.as_many) verifiers
          (column books books_left c.args.runs.now c.args.passes.items c.loop-book.passes.items place book c.requires.as_many c.requires.handed left so_far.passes own laters (suc place) refl as_many given)
          judged c.settle.result c.in_ok-all_are_fed.ensures.fed can c.settle.ensures.epoch);
    }

pub returns-clause-count : goal.returns-clause-count
returns-clause-count c =
    let none = c.in_default.ensures.cases.0 in
    let size = c.loop-book.books.rest.ok.0 in
    omega (arith, none, size, c.loop-book.invariant.count)
