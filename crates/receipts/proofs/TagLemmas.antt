-- Tags are compared by what differs, place by place.
use Rattle.std.proofs.Common.{◌≡◌, ℕ, ◌+◌, ◌<◌, List, [], ◌∷◌, ◌++◌, length, take, get_or, bit_or, refl, sym, ap, ◌∙◌, arith, length-take}
use Rattle.std.specs.Int.Bits.{bit_xor, xor_self, xor_zero_l, xor_zero_r, xor_assoc, or_zero_l}
use Rattle.std.proofs.lemmas.Nat.{le_or_l, le_or_r}
use Rattle.std.proofs.lemmas.List.{take_more, take_more_same}

-- what was found to differ among the first places is 0 exactly where they are the same
pub record Agrees (tag other : List ℕ) (places differing : ℕ) : Type 0 where
  pub same : differing ≡ 0 → take places tag ≡ take places other
  pub zero : take places tag ≡ take places other → differing ≡ 0

same_from_xor : (a b : ℕ) → bit_xor a b ≡ 0 → a ≡ b
same_from_xor a b none =
    sym (xor_zero_r a) ∙ ap (λ (k : ℕ). bit_xor a k) (sym (xor_self b)) ∙ sym (xor_assoc a b b) ∙ ap (λ (k : ℕ). bit_xor k b) none ∙ xor_zero_l b

snoc-same : (xs ys : List ℕ) (x y : ℕ) → length xs ≡ length ys → xs ++ x ∷ [] ≡ ys ++ y ∷ [] → (xs ≡ ys) × (x ≡ y)
snoc-same [] [] x y len same = (refl, cc)
snoc-same [] (b ∷ ys) x y len same = absurd (omega arith)
snoc-same (a ∷ xs) [] x y len same = absurd (omega arith)
snoc-same (a ∷ xs) (b ∷ ys) x y len same =
    let first : a ≡ b = cc in
    let rest : xs ++ x ∷ [] ≡ ys ++ y ∷ [] = cc in
    let both = snoc-same xs ys x y (omega arith) rest in
    (let all : a ∷ xs ≡ b ∷ ys = cc in all, both.1)

pub agrees_further : (tag other : List ℕ) (place differing : ℕ) → place < length tag → length tag ≡ length other → Agrees tag other place differing → Agrees tag other (place + 1) (bit_or differing (bit_xor (get_or tag place 0) (get_or other place 0)))
agrees_further tag other place differing within len agrees =
    let apart = bit_xor (get_or tag place 0) (get_or other place 0) in record {
      same = λ none.
          let before : differing ≡ 0 = omega (arith, le_or_l differing apart) in
          let here : apart ≡ 0 = omega (arith, le_or_r differing apart) in
          take_more_same tag other place 0 within (omega arith) (agrees.same before) (same_from_xor (get_or tag place 0) (get_or other place 0) here);
      zero = λ same.
          let snoc = sym (take_more tag place 0 within) ∙ same ∙ take_more other place 0 (omega arith) in
          let both = snoc-same (take place tag) (take place other) (get_or tag place 0) (get_or other place 0) (omega (arith, length-take place tag, length-take place other)) snoc in
          ap (λ (k : ℕ). bit_or k apart) (agrees.zero both.0) ∙ or_zero_l apart ∙ ap (λ (k : ℕ). bit_xor (get_or tag place 0) k) (sym both.1) ∙ xor_self (get_or tag place 0);
    }
