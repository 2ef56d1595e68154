-- A seal that is placed has the number that the counter then has.
use Rattle.std.proofs.Common.{◌≡◌, ℕ, ◌<◌, ◌≤◌, ◌^◌, List, ◌++◌, length, Option, sym, ap, subst, ◌∙◌}
use Rattle.record_hash.specs.Functions.{DigestFunctions}
use Rattle.record_hash.specs.Digests.{IsDigest}
use Rattle.fv_outside.specs.Counting.{Raises}
use Rattle.fv_outside.specs.Written.{Grows, GrowsByFront}
use Rattle.receipts.specs.Receipts.{tagged}
use Rattle.seals.specs.State.{Seal}
use Rattle.seals.specs.Seal.{seal_text, tag_bytes}
use Rattle.seals.specs.Numbered.{numbered, IsCut}
use Rattle.resumed_runs.specs.Kept.{IsSealOf}
use Rattle.check_core.specs.Sealing.{Keeping, Counting, IsSealText, IsRaisedFor, IsPlaced, IsPlacedInPart}

-- a seal with another number
abbrev pub with_counter : ℕ → Seal → Seal
with_counter number seal = record seal { counter = number }

-- what the law of `seals` says of numbers
abbrev pub AreNumbered : Type 0
AreNumbered = (functions : DigestFunctions) (seal : Seal) (tag : List ℕ) (number : ℕ) → length tag ≡ tag_bytes
    → numbered functions number (seal_text seal ++ tag) ≡ tagged functions (seal_text (with_counter number seal))

module _ (functions : DigestFunctions) (keeping : Keeping) (counting : Counting) (bytes : List ℕ) (are_numbered : AreNumbered)
    (tags : (text : List ℕ) → IsDigest (functions.tag text)) (old : List ℕ) (is : IsSealText functions bytes old) (few : length bytes ≤ 2 ^ 40) where
  -- the seal of a bundle is one whatever the number
  of_any : (number : ℕ) → IsSealOf functions bytes (with_counter number is.seal)
  of_any number = record { taken = is.of.taken; header = is.of.header; done = is.of.done; runs = is.of.runs }

  text_with : (number : ℕ) → numbered functions number old ≡ tagged functions (seal_text (with_counter number is.seal))
  text_with number =
      ap (numbered functions number) is.text_is
      ∙ are_numbered functions is.seal (functions.tag (seal_text is.seal)) number (tags (seal_text is.seal)).size

  raised_for : (number : ℕ) → Raises counting.number counting.number_after number → IsRaisedFor functions bytes (with_counter number is.seal) counting
  raised_for number raised = record { of = of_any number; raised = raised; few = few }

  -- It is placed.
  pub placed : (number : ℕ) (new : List ℕ) → number < 2 ^ 64 → Raises counting.number counting.number_after number → new ≡ numbered functions number old
      → Grows keeping.held keeping.held_after new → IsPlaced functions keeping counting bytes
  placed number new fits raised same grows = record {
    seal = with_counter number is.seal;
    raised = raised_for number raised;
    fits = fits;
    written = subst (Grows keeping.held keeping.held_after) (same ∙ text_with number) grows;
  }

  -- Or a front of it is.
  pub placed_in_part : (new : List ℕ) → IsCut functions counting.number counting.number_after old new keeping.held keeping.held_after
      → IsPlacedInPart functions keeping counting bytes
  placed_in_part new cut = record {
    seal = with_counter cut.number is.seal;
    raised = raised_for cut.number cut.raised;
    written = subst (GrowsByFront keeping.held keeping.held_after) (cut.text_is ∙ text_with cut.number) cut.front;
  }
