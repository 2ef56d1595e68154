-- Two texts on a page, one behind the other, and what an epoch's text is.
use Rattle.std.proofs.Common.{◌≡◌, ℕ, List, [], ◌++◌, length, Option, refl, sym, ◌∙◌, ap, subst, append-nil, append_assoc}
use Rattle.fv_outside.specs.Written.{GrowsByFront}
use Rattle.fv_outside.proofs.WrittenLaws.{GrowsByFront-more}
use Rattle.record_hash.specs.Functions.{DigestFunctions}
use Rattle.record_text.specs.declared.operation.Operation.{Operation}
use Rattle.report_text.specs.Page.{Passes}
use Rattle.report_text.specs.Lines.{epoch_line, certificate_line}
use Rattle.report_text.proofs.PassLaws.{Passes-then, Passes-front}
use Rattle.certified_epochs.specs.declared.telling.Telling.{Telling}
use Rattle.certified_epochs.specs.declared.telling.Telling.TheVariants.{Plain, Receipts, Nothing}
use Rattle.certified_epochs.specs.Telling.{text_by, head_by, tail_by}
use Rattle.certified_epochs.specs.Pieces.{lines_of}
use Rattle.certified_epochs.proofs.PieceLemmas.{lines-none}

-- both were added
pub Passes-both : (a b c : Option (List ℕ)) (waited p q one two first second : List ℕ) → one ≡ first → two ≡ second
    → Passes a waited one b p → Passes b p two c q → Passes a waited (first ++ second) c q
Passes-both a b c waited p q one two first second one_is two_is h k =
    Passes-then a b c waited p q first second (subst (λ (text : List ℕ). Passes a waited text b p) one_is h)
    (subst (λ (text : List ℕ). Passes b p text c q) two_is k)

-- a part of the first was written
pub front-first : (a c : Option (List ℕ)) (waited one first second : List ℕ) → one ≡ first → GrowsByFront a c (waited ++ one)
    → GrowsByFront a c (waited ++ (first ++ second))
front-first a c waited one first second is h =
    subst (GrowsByFront a c) (append_assoc waited one second ∙ ap (λ (text : List ℕ). waited ++ (text ++ second)) is)
    (GrowsByFront-more a c (waited ++ one) second h)

-- the first was added, and then a part of the second was written
pub front-second : (a b c : Option (List ℕ)) (waited p one two first second : List ℕ) → one ≡ first → two ≡ second → Passes a waited one b p
    → GrowsByFront b c (p ++ two) → GrowsByFront a c (waited ++ (first ++ second))
front-second a b c waited p one two first second one_is two_is h k =
    Passes-front a b c waited p one two [] (first ++ second) h k
    (append-nil (one ++ two) ∙ ap (λ (text : List ℕ). text ++ two) one_is ∙ ap (λ (text : List ℕ). first ++ text) two_is)

-- of three: the first was added, and then a part of the second was written, or the second too and then a part of the third
pub front-middle : (a b c : Option (List ℕ)) (waited p one first second third : List ℕ) → one ≡ first → Passes a waited one b p
    → GrowsByFront b c (p ++ second) → GrowsByFront a c (waited ++ (first ++ (second ++ third)))
front-middle a b c waited p one first second third is h k =
    front-second a b c waited p one (second ++ third) first (second ++ third) is refl h (front-first b c p second second third refl k)

pub front-last : (a b c d : Option (List ℕ)) (waited p q one first second third : List ℕ) → one ≡ first → Passes a waited one b p → Passes b p second c q
    → GrowsByFront c d (q ++ third) → GrowsByFront a d (waited ++ (first ++ (second ++ third)))
front-last a b c d waited p q one first second third is h k l =
    front-second a b d waited p one (second ++ third) first (second ++ third) is refl h
    (front-second b c d p q second third second third refl refl k l)

-- The text of an epoch: how many operations there are, their lines, and what stands behind them.
pub text-parts : {D : Type 0} (functions : D → DigestFunctions) (telling : Telling D) (epoch : ℕ) (operations : List Operation)
    → head_by telling epoch (length operations) ++ (lines_of functions telling operations ++ tail_by functions telling epoch) ≡ text_by functions telling epoch operations
text-parts functions Plain epoch operations =
    ap (λ (text : List ℕ). epoch_line epoch (length operations) ++ text) (append-nil (lines_of functions Plain operations))
text-parts functions (Receipts digests first) epoch operations =
    sym (append_assoc (epoch_line epoch (length operations)) (lines_of functions (Receipts digests first) operations) (certificate_line (functions digests.now) first epoch))
text-parts functions Nothing epoch operations = append-nil (lines_of functions Nothing operations) ∙ lines-none functions operations
