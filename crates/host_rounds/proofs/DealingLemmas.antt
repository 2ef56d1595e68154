-- Passes that are dealt to the verifiers, and given back by them.
use Rattle.std.proofs.Common.{◌≡◌, ◌≢◌, ◌⊎◌, inl, inr, ℕ, suc, ◌<◌, List, [], ◌∷◌, ◌++◌, length, get_or, Global, sym, ◌∙◌, ap, subst, arith}
use Rattle.std.specs.Vec.Iter.{into_iter_items}
use Rattle.std.specs.declared.vec.IntoIter.{IntoIter}
use Rattle.epoch_book.specs.declared.book.EpochBook.{EpochBook}
use Rattle.epoch_book.specs.declared.pass.Pass.{Pass}
use Rattle.certified_epochs.specs.declared.fed_run.FedRun.{FedRun}
use Rattle.host_rounds.specs.declared.with_passes.WithPasses.{WithPasses}
use Rattle.host_rounds.specs.WithPasses.{passes_in}
use Rattle.host_rounds.specs.Sealing.{AreNewPasses, IsNewPass, HasHandedIn}
use Rattle.std.proofs.lemmas.Bool.{cases_eq}
use Rattle.host_rounds.proofs.ChangedLemmas.{more-at, more-last, more-length}

-- passes that come one after another
abbrev pub Passes : Type 0
Passes = IntoIter Pass Global

-- a verifier takes its pass of these
abbrev pub TakesPass : List Pass → ℕ → WithPasses → WithPasses → Type 0
TakesPass passes number old new = (pass : Pass) → passes_in new ≡ passes_in old ++ get_or passes number pass ∷ []

-- a verifier gives its pass of these
abbrev pub GivesPass : List Pass → ℕ → Passes → Passes → Type 0
GivesPass passes number old new = (pass : Pass) → into_iter_items old ≡ get_or passes number pass ∷ into_iter_items new

-- by a pass is handed in what the run has of the epoch of its book
abbrev pub HandsIn : List EpochBook → ℕ → FedRun → ℕ → Pass → Pass → Type 0
HandsIn books number run index old new = (book : EpochBook) → HasHandedIn (get_or books index book) index number run new

-- ---- new passes

-- of one book more
pub more-new : (books all : List EpochBook) (book : EpochBook) (number : ℕ) (passes now : List Pass) (pass : Pass) → AreNewPasses books number passes
    → all ≡ books ++ book ∷ [] → now ≡ passes ++ pass ∷ [] → IsNewPass book number pass → AreNewPasses all number now
more-new books all book number passes now pass are more later own = record {
  count = more-length now passes pass later ∙ ap suc are.count ∙ sym (more-length all books book more);
  each = λ index b p below. at index b p below (cases_eq index (length books));
}
  where
    at : (index : ℕ) (b : EpochBook) (p : Pass) → index < length all → (index ≡ length books) ⊎ (index ≢ length books) → IsNewPass (get_or all index b) number (get_or now index p)
    at index b p below (inl last) =
        subst (λ (k : EpochBook). IsNewPass k number (get_or now index p)) (sym (more-last all books book b index more last))
        (subst (IsNewPass book number) (sym (more-last now passes pass p index later (last ∙ sym are.count))) own)
    at index b p below (inr other) =
        let size = more-length all books book more in
        let apart : index ≢ length books = other in
        let there : index < length books = omega (arith, below, size, apart) in
        subst (λ (k : EpochBook). IsNewPass k number (get_or now index p)) (sym (more-at all books book b index more there))
        (subst (IsNewPass (get_or books index b) number) (sym (more-at now passes pass p index later (omega (arith, there, are.count)))) (are.each index b p there))
