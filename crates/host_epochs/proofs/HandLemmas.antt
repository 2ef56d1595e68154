-- Hands that are dealt and gathered, one after another.
use Rattle.std.proofs.Common.{◌≡◌, ℕ, suc, ◌+◌, ◌-◌, ◌<◌, List, [], ◌∷◌, ◌++◌, length, get_or, replicate, length-append, sym, ap, ◌∙◌, subst, arith, All}
use Rattle.std.proofs.lemmas.List.{get_or_append_left}
use Rattle.std.proofs.Math.Seq.{get_or-append_seam}
use Rattle.atomic_table.specs.Table.{Splits}
use Rattle.host_epochs.specs.declared.hand.Hand.{Hand}
use Rattle.host_epochs.specs.Hands.{worker_of}
use Rattle.host_epochs.specs.Plays.{new_row, rack, kept_row, dealt_row}
use Rattle.host_epochs.specs.Rule.{IsKept}
use Rattle.host_epochs.specs.Terms.{Terms}
use Rattle.host_epochs.proofs.SeatLemmas.{deals}

-- ---- one hand of those that are left

module _ (number workers : ℕ) (left : number < workers) where
  rest_is : replicate (workers - number) new_row ≡ new_row ∷ replicate (workers - (number + 1)) new_row
  rest_is = ap (λ n. replicate n new_row) (let e : workers - number ≡ suc (workers - (number + 1)) = omega arith in e)

  pub kept_is : kept_row (rack number (replicate (workers - number) new_row)) ≡ rack (number + 1) (replicate (workers - (number + 1)) new_row)
  kept_is = ap (λ rows. kept_row (rack number rows)) rest_is ∙ ap (λ n. rack n (replicate (workers - (number + 1)) new_row)) (let e : suc number ≡ number + 1 = omega arith in e)

  pub deals_one : (terms : Terms) (id : ℕ) → Splits (IsKept terms) id (rack number (replicate (workers - number) new_row))
      (kept_row (rack number (replicate (workers - number) new_row))) (dealt_row (rack number (replicate (workers - number) new_row)))
  deals_one terms id = subst (λ rows. Splits (IsKept terms) id (rack number rows) (kept_row (rack number rows)) (dealt_row (rack number rows))) (sym rest_is)
      (deals terms id number new_row (replicate (workers - (number + 1)) new_row))

-- ---- hands by their numbers

abbrev pub AreNumbered : List Hand → Type 0
AreNumbered hands = (i : ℕ) (d : Hand) → i < length hands → worker_of (get_or hands i d) ≡ i

pub numbered_front : (hands : List Hand) (hand : Hand) → AreNumbered (hands ++ hand ∷ []) → AreNumbered hands
numbered_front hands hand each i d below =
    ap worker_of (sym (get_or_append_left hands (hand ∷ []) d i below)) ∙ each i d (omega (arith, below, length-append hands (hand ∷ [])))

pub numbered_last : (hands : List Hand) (hand : Hand) → AreNumbered (hands ++ hand ∷ []) → worker_of hand ≡ length hands
numbered_last hands hand each =
    ap worker_of (sym (get_or-append_seam hands hand [] hand)) ∙ each (length hands) hand (omega (arith, length-append hands (hand ∷ [])))

pub all_front : (P : Hand → Type 0) (hands : List Hand) (hand : Hand) → All P (hands ++ hand ∷ []) → All P hands
all_front P hands hand each k d below = subst P (get_or_append_left hands (hand ∷ []) d k below) (each k d (omega (arith, below, length-append hands (hand ∷ []))))
