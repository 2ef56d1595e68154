-- Runs and passes that were lent to threads, once they are apart again.
use Rattle.std.proofs.Common.{◌≡◌, ℕ, zero, suc, ◌<◌, List, [], ◌∷◌, length, map, get_or, drop, sym, ◌∙◌, ap, subst, arith}
use Rattle.std.specs.Vec.Iter.{into_iter_items}
use Rattle.record_hash.specs.Functions.{DigestFunctions}
use Rattle.epoch_book.specs.declared.book.EpochBook.{EpochBook}
use Rattle.epoch_book.specs.declared.pass.Pass.{Pass}
use Rattle.certified_epochs.specs.declared.fed_run.FedRun.{FedRun}
use Rattle.certified_epochs.specs.Turn.{AreFed}
use Rattle.host_rounds.specs.Sealing.{HasRead, HaveAllTaken, HasHandedIn, HaveHandedIn}
use Rattle.host_rounds.proofs.HalvesLemmas.{first-of, half-count, back-two}
use Rattle.host_rounds.proofs.ChangedLemmas.{left-within, next-left}
use Rattle.host_rounds.proofs.DealingLemmas.{Passes}

module _ {X : Type 0} (run_in : X → FedRun) (lent later : List X) (news : List FedRun) (news_are : news ≡ map run_in later) (many : length later ≡ length lent) where
  -- all runs took the round
  pub sealed-taken : (functions : DigestFunctions) (round : List (List ℕ)) (olds : List FedRun) → olds ≡ map run_in lent
      → ((i : ℕ) (x : X) → i < length lent → HasRead functions i round (run_in (get_or lent i x)) (run_in (get_or later i x)))
      → AreFed news → HaveAllTaken functions round olds news
  sealed-taken functions round olds olds_are each fed = record {
    count = half-count run_in news later news_are ∙ many ∙ sym (half-count run_in olds lent olds_are);
    each = back-two run_in (λ i old new. HasRead functions i round old new) olds news lent later olds_are news_are many each;
    are_fed = fed;
  }

-- ---- passes that the verifiers give back, book by book

-- what is left of passes, of which there are more
some-left : (passes rest : List Pass) (place : ℕ) → place < length passes → drop place passes ≡ rest → 0 < length rest
some-left [] rest place within is = absurd (omega (arith, within))
some-left (pass ∷ passes) rest zero within is = let size = ap (λ (ps : List Pass). length ps) is in omega (arith, size)
some-left (pass ∷ passes) rest (suc place) within is = some-left passes rest place (omega (arith, within)) is

module _ (books books_left : List EpochBook) (runs : List FedRun) (all nows : List Passes) (place : ℕ) (book : EpochBook) (as_many : length all ≡ length runs)
    (handed : (i : ℕ) (fed : FedRun) (one : Passes) → i < length runs → HaveHandedIn books i (get_or runs i fed) (into_iter_items (get_or all i one)))
    (left : drop place books ≡ book ∷ books_left)
    (left_of_each : (i : ℕ) (one : Passes) → i < length all → drop place (into_iter_items (get_or all i one)) ≡ into_iter_items (get_or nows i one)) where
  there : place < length books
  there = left-within books books_left place book left

  -- each verifier has a pass of the next book
  pub one-left : (i : ℕ) (one : Passes) → i < length all → 0 < length (into_iter_items (get_or nows i one))
  one-left i one within =
      let here : i < length runs = omega (arith, within, as_many) in
      let all_passes = into_iter_items (get_or all i one) in
      let count = (handed i (first-of runs i here) one here).count in
      some-left all_passes (into_iter_items (get_or nows i one)) place (omega (arith, there, count)) (left_of_each i one within)

  module _ (own : List Pass) (laters : List Passes) (next : ℕ) (next_is : next ≡ suc place) (size : length own ≡ length all)
      (given : (i : ℕ) (one : Passes) (pass : Pass) → i < length all → into_iter_items (get_or nows i one) ≡ get_or own i pass ∷ into_iter_items (get_or laters i one)) where
    behind : (i : ℕ) (one : Passes) (pass : Pass) → i < length all
        → (get_or (into_iter_items (get_or all i one)) place pass ≡ get_or own i pass) × (drop next (into_iter_items (get_or all i one)) ≡ into_iter_items (get_or laters i one))
    behind i one pass within =
        next-left (into_iter_items (get_or all i one)) (into_iter_items (get_or laters i one)) place next (get_or own i pass) pass (left_of_each i one within ∙ given i one pass within) next_is

    -- by these the runs have handed in what they have of its epoch
    pub column : (i : ℕ) (fed : FedRun) (pass : Pass) → i < length runs → HasHandedIn book place i (get_or runs i fed) (get_or own i pass)
    column i fed pass here =
        let within : i < length all = omega (arith, here, as_many) in
        let one = first-of all i within in
        let own_at = (behind i one pass within).0 in
        let book_at = (next-left books books_left place next book book left next_is).0 in
        subst (λ (b : EpochBook). HasHandedIn b place i (get_or runs i fed) (get_or own i pass)) book_at
        (subst (HasHandedIn (get_or books place book) place i (get_or runs i fed)) own_at ((handed i fed one here).each place book pass there))

    -- and the passes of the books behind it are left
    pub column-left : (i : ℕ) (one : Passes) → i < length all → drop next (into_iter_items (get_or all i one)) ≡ into_iter_items (get_or laters i one)
    column-left i one within = (behind i one (first-of own i (omega (arith, within, size))) within).1
