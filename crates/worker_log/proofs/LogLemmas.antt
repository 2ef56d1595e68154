-- One command more among those that are written.
use Rattle.std.proofs.Common.{◌≡◌, ℕ, zero, suc, ◌<◌, List, [], ◌∷◌, ◌++◌, length, drop, get_or, map, refl, sym, ◌∙◌, ap, append-nil, arith}
use Rattle.log_codec.specs.declared.command.Command.{Command}
use Rattle.slot_rewriting.specs.declared.writer.CommandWriter.{CommandWriter}
use Rattle.slot_rewriting.specs.Writing.{text_by, text_from, writer_after, writer_behind}
use Rattle.slot_rewriting.proofs.WritingLaws.{text_from-append, writer_behind-append}
use Rattle.worker_log.specs.Logged.{AreWritten}

-- its text stands behind the others
pub written-next : (first writer after : CommandWriter) (written : List Command) (command : Command) (bytes text more next : List ℕ)
    → AreWritten first writer written bytes text → more ≡ bytes ++ text → next ≡ text_by writer command → after ≡ writer_after writer command
    → AreWritten first after (written ++ command ∷ []) more next
written-next first writer after written command bytes text more next are more_is next_is after_is = record {
  spelled =
      ap (λ (front : List ℕ). front ++ next) (more_is ∙ are.spelled)
      ∙ ap (λ (back : List ℕ). text_from first written ++ back)
      (next_is ∙ ap (λ (w : CommandWriter). text_by w command) are.behind ∙ sym (append-nil (text_by (writer_behind first written) command)))
      ∙ sym (text_from-append first written (command ∷ []));
  behind = after_is ∙ ap (λ (w : CommandWriter). writer_after w command) are.behind ∙ sym (writer_behind-append first written (command ∷ []));
}

-- the first of those that wait
drop-next : {A : Type 0} (xs : List A) (n m : ℕ) (x : A) → m ≡ suc n → n < length xs → x ≡ get_or xs n x → drop n xs ≡ x ∷ drop m xs
drop-next [] n m x next there is = absurd (omega (arith, there))
drop-next (y ∷ xs) zero m x next there is = ap (λ (z : _). z ∷ xs) (sym is) ∙ ap (λ (k : ℕ). x ∷ drop k (y ∷ xs)) (sym next)
drop-next (y ∷ xs) (suc n) m x next there is =
    drop-next xs n (suc n) x refl (omega (arith, there)) is ∙ ap (λ (k : ℕ). x ∷ drop k (y ∷ xs)) (sym next)

-- it is one of those that are written then
pub waits-less : {S A : Type 0} (value : S → A) (old new : List S) (s : S) (waiting : List A) (n m : ℕ) (x : A) → new ≡ old ++ s ∷ [] → value s ≡ x
    → m ≡ suc n → n < length waiting → x ≡ get_or waiting n x → map value new ++ drop m waiting ≡ map value old ++ drop n waiting
waits-less value old new s waiting n m x new_is s_is next there is =
    ap (λ all. map value all ++ drop m waiting) new_is
    ∙ go old
    ∙ ap (λ rest. map value old ++ rest) (ap (λ y. y ∷ drop m waiting) s_is ∙ sym (drop-next waiting n m x next there is))
  where
    go : (front : List _) → map value (front ++ s ∷ []) ++ drop m waiting ≡ map value front ++ value s ∷ drop m waiting
    go [] = refl
    go (t ∷ front) = ap (λ rest. value t ∷ rest) (go front)

-- what is joined at the end, as it shows
pub shown-joined : {S A : Type 0} (value : S → A) (old new : List S) (s : S) (x : A) → new ≡ old ++ s ∷ [] → value s ≡ x → map value new ≡ map value old ++ x ∷ []
shown-joined value old new s x new_is s_is = ap (map value) new_is ∙ go old ∙ ap (λ y. map value old ++ y ∷ []) s_is
  where
    go : (front : List _) → map value (front ++ s ∷ []) ≡ map value front ++ value s ∷ []
    go [] = refl
    go (t ∷ front) = ap (λ rest. value t ∷ rest) (go front)
