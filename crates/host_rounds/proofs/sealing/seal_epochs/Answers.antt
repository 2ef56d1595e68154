use Rattle.std.proofs.Common.{◌≡◌, ◌<◌, List, length, get_or, map, [], refl, sym, ◌∙◌, ap, subst, arith}
use Rattle.std.specs.List.{AllByRecursion}
use Rattle.std.specs.Vec.Iter.{into_iter_items}
use Rattle.epoch_book.specs.declared.book.EpochBook.{EpochBook}
use Rattle.epoch_book.specs.declared.pass.Pass.{Pass}
use Rattle.epoch_book.specs.Passes.{verifiers_of}
use Rattle.certified_epochs.specs.declared.fed_run.FedRun.{FedRun}
use Rattle.certified_epochs.specs.Turn.{AreFed, AreVerdictsOn}
use Rattle.host_rounds.specs.declared.with_passes.WithPasses.{WithPasses}
use Rattle.host_rounds.specs.WithPasses.{run_in, passes_in}
use Rattle.host_rounds.specs.Sealing.{CanTake, AreNewPasses, HaveHandedIn}
use Rattle.host_rounds.proofs.HalvesLemmas.{first-of, half-at, half-count, of-half, back-whole}
use Rattle.host_rounds.proofs.SealedLemmas.{sealed-taken}
use Rattle.host_rounds.proofs.sealing.seal_epochs.Goals as goal

pub seal_all-requires-clause-ready : goal.seal_all-requires-clause-ready
seal_all-requires-clause-ready g c κs within = λ i default there.
    let lent = c.as_mut_slice-2.result.now in
    let opened = c.open_books.new.all in
    let opened_is : lent ≡ opened = c.as_mut_slice-2.ensures.value ∙ back-whole _ _ opened (c.in_ok-books.ensures.len ∙ c.as_mut_slice.ensures.len) in
    let olds_are : c.args.runs.items ≡ map run_in lent =
    sym c.in_ok-sealers.ensures.runs ∙ ap (map run_in) (sym c.as_mut_slice.ensures.value) ∙ sym c.in_ok-books.ensures.runs ∙ ap (map run_in) (sym opened_is) in
    let size = ap (λ (xs : List WithPasses). length xs) opened_is in
    let books = c.in_ok-books.books.items in (
      of-half run_in (λ n (run : FedRun). CanTake (g.D.Digests.functions c.args.d.now) n c.args.logs.now run) c.args.runs.items lent olds_are c.requires.ready i default there,
      subst (λ (bs : List EpochBook). AreNewPasses bs i (passes_in (get_or lent i default))) (sym c.deref.ensures.value)
          (subst (λ (xs : List WithPasses). AreNewPasses books i (passes_in (get_or xs i default))) (sym opened_is)
          (c.in_ok-books.ensures.passes i default (omega (arith, there, size, c.in_ok-books.ensures.len)))),
    )

pub settle_all-requires-clause-verifiers : goal.settle_all-requires-clause-verifiers
settle_all-requires-clause-verifiers g c =
    let lent = c.as_mut_slice-2.result.now in
    let opened = c.open_books.new.all in
    let later = c.seal_all.new.sealers in
    let opened_is : lent ≡ opened = c.as_mut_slice-2.ensures.value ∙ back-whole _ _ opened (c.in_ok-books.ensures.len ∙ c.as_mut_slice.ensures.len) in
    let size = ap (λ (xs : List WithPasses). length xs) opened_is in
    let news_are : c.in_ok-runs.runs.items ≡ map run_in later = c.in_ok-runs.ensures.runs ∙ ap (map run_in) (back-whole _ _ later (c.seal_all.ensures.len ∙ c.as_mut_slice-2.ensures.len)) in
    let lent_runs = ap (λ (runs : List FedRun). length runs) c.deref-2.ensures.value in
    let count = half-count run_in c.in_ok-runs.runs.items later news_are in
    subst (λ n. AllByRecursion (λ (book : EpochBook). verifiers_of book ≡ n) c.in_ok-books.books.items)
    (omega (arith, lent_runs, count, c.seal_all.ensures.len, size, c.in_ok-books.ensures.len)) c.in_ok-books.ensures.verifiers

pub settle_all-requires-clause-handed : goal.settle_all-requires-clause-handed
settle_all-requires-clause-handed g c = λ i fed one there.
    let later = c.seal_all.new.sealers in
    let books = c.in_ok-books.books.items in
    let news = c.in_ok-runs.runs.items in
    let passes = c.in_ok-runs.passes.items in
    let later_is = back-whole _ _ later (c.seal_all.ensures.len ∙ c.as_mut_slice-2.ensures.len) in
    let news_are : news ≡ map run_in later = c.in_ok-runs.ensures.runs ∙ ap (map run_in) later_is in
    let passes_are : map into_iter_items passes ≡ map passes_in later = c.in_ok-runs.ensures.passes ∙ ap (map passes_in) later_is in
    let lent_runs = ap (λ (runs : List FedRun). length runs) c.deref-2.ensures.value in
    let count = half-count run_in news later news_are in
    let here : i < length later = omega (arith, there, lent_runs, count) in
    let own = first-of later i here in
    let rows = map into_iter_items passes in
    let many = half-count into_iter_items rows passes refl in
    let too = half-count passes_in rows later passes_are in
    let none : List Pass = [] in
    let passes_at : passes_in (get_or later i own) ≡ into_iter_items (get_or passes i one) =
    sym (half-at passes_in later rows i none own passes_are here) ∙ half-at into_iter_items passes rows i none one refl (omega (arith, here, many, too)) in
    let handed = (c.seal_all.ensures.sealed i own (omega (arith, here, c.seal_all.ensures.len))).1 in
    subst (λ (runs : List FedRun). HaveHandedIn books i (get_or runs i fed) (into_iter_items (get_or passes i one))) (sym c.deref-2.ensures.value)
    (subst (λ (run : FedRun). HaveHandedIn books i run (into_iter_items (get_or passes i one))) (sym (half-at run_in later news i fed own news_are here))
    (subst (HaveHandedIn books i (run_in (get_or later i own))) passes_at
    (subst (λ (bs : List EpochBook). HaveHandedIn bs i (run_in (get_or later i own)) (passes_in (get_or later i own))) c.deref.ensures.value handed)))

pub returns-clause-taken : goal.returns-clause-taken
returns-clause-taken g c =
    let lent = c.as_mut_slice-2.result.now in
    let opened = c.open_books.new.all in
    let later = c.seal_all.new.sealers in
    let opened_is : lent ≡ opened = c.as_mut_slice-2.ensures.value ∙ back-whole _ _ opened (c.in_ok-books.ensures.len ∙ c.as_mut_slice.ensures.len) in
    let olds_are : c.args.runs.items ≡ map run_in lent =
    sym c.in_ok-sealers.ensures.runs ∙ ap (map run_in) (sym c.as_mut_slice.ensures.value) ∙ sym c.in_ok-books.ensures.runs ∙ ap (map run_in) (sym opened_is) in
    let news_are : c.in_ok-runs.runs.items ≡ map run_in later = c.in_ok-runs.ensures.runs ∙ ap (map run_in) (back-whole _ _ later (c.seal_all.ensures.len ∙ c.as_mut_slice-2.ensures.len)) in
    sealed-taken run_in lent later c.in_ok-runs.runs.items news_are c.seal_all.ensures.len (g.D.Digests.functions c.args.d.now) c.args.logs.now c.args.runs.items olds_are
    (λ i x here. (c.seal_all.ensures.sealed i x here).0) (subst AreFed c.deref-2.ensures.value c.in_ok-settled.ensures.fed)

pub returns-clause-settled : goal.returns-clause-settled
returns-clause-settled g c = λ judged.
    subst (λ (runs : List FedRun). AreVerdictsOn judged (map (λ (fed : FedRun). fed.run) runs) c.in_ok-settled.settled.items) c.deref-2.ensures.value (c.in_ok-settled.ensures.settled judged)
