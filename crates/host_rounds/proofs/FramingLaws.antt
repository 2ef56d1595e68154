-- The frames of a round, written one log after another.
use Rattle.std.proofs.Common.{◌≡◌, ℕ, zero, suc, ◌<◌, ◌≤◌, Option, List, [], ◌∷◌, ◌++◌, length, drop, get_or, append_assoc, append-nil, refl, ap, sym, subst, ◌∙◌, arith}
use Rattle.fv_outside.specs.Written.{Grows, GrowsByFront}
use Rattle.fv_outside.proofs.WrittenLaws.{Grows-nil, Grows-then, GrowsByFront-more, GrowsByFront-then}
use Rattle.host_log.specs.Frames.{frames_text, pieces_text}
use Rattle.host_rounds.specs.Round.{pieces_of}

-- the text of the logs from this number on
abbrev pub text_from : ℕ → List (List ℕ) → List ℕ
text_from number round = pieces_text (pieces_of number (drop number round))

-- one log, and those behind it
pub text-step : (number next : ℕ) (round : List (List ℕ)) (d : List ℕ) → next ≡ suc number → number < length round
    → text_from number round ≡ frames_text number (get_or round number d) ++ text_from next round
text-step number next round d more within =
    go number number round within
    ∙ ap (λ (n : ℕ). frames_text number (get_or round number d) ++ text_from n round) (sym more)
  where
    go : (first at : ℕ) (rest : List (List ℕ)) → at < length rest
        → pieces_text (pieces_of first (drop at rest)) ≡ frames_text first (get_or rest at d) ++ pieces_text (pieces_of (suc first) (drop (suc at) rest))
    go first at [] below = absurd (omega (arith, below))
    go first zero (bytes ∷ rest) below = refl
    go first (suc at) (bytes ∷ rest) below = go first at rest (omega (arith, below))

-- none is left
pub text-none : (number : ℕ) (round : List (List ℕ)) → length round ≤ number → text_from number round ≡ []
text-none number round past = go number number round past
  where
    go : (first at : ℕ) (rest : List (List ℕ)) → length rest ≤ at → pieces_text (pieces_of first (drop at rest)) ≡ []
    go first zero [] past = refl
    go first (suc at) [] past = refl
    go first zero (bytes ∷ rest) past = absurd (omega (arith, past))
    go first (suc at) (bytes ∷ rest) past = go first at rest (omega (arith, past))

-- a front of a text was written, and this rest of it was not
pub record Wrote (old new : Option (List ℕ)) (text rest : List ℕ) : Type 0 where
  pub front : List ℕ
  pub parts : text ≡ front ++ rest
  pub grown : Grows old new front

-- nothing of it
pub wrote-nothing : (held : Option (List ℕ)) (text : List ℕ) → Wrote held held text text
wrote-nothing held text = record { front = []; parts = refl; grown = Grows-nil held }

-- one part more
pub wrote-part : (old now new : Option (List ℕ)) (text rest part more : List ℕ) → Wrote old now text rest → rest ≡ part ++ more → Grows now new part → Wrote old new text more
wrote-part old now new text rest part more before is grown = record {
  front = before.front ++ part;
  parts = before.parts ∙ ap (λ (r : List ℕ). before.front ++ r) is ∙ sym (append_assoc before.front part more);
  grown = Grows-then old now new before.front part before.grown grown;
}

-- a front of one part more
pub wrote-front : (old now new : Option (List ℕ)) (text rest part more : List ℕ) → Wrote old now text rest → rest ≡ part ++ more → GrowsByFront now new part → GrowsByFront old new text
wrote-front old now new text rest part more before is grown =
    subst (GrowsByFront old new) (sym (before.parts ∙ ap (λ (r : List ℕ). before.front ++ r) is))
    (GrowsByFront-then old now new before.front (part ++ more) before.grown (GrowsByFront-more now new part more grown))

-- all of it
pub wrote-all : (old new : Option (List ℕ)) (text rest : List ℕ) → rest ≡ [] → Wrote old new text rest → Grows old new text
wrote-all old new text rest none before =
    subst (Grows old new) (sym (before.parts ∙ ap (λ (r : List ℕ). before.front ++ r) none ∙ append-nil before.front)) before.grown
