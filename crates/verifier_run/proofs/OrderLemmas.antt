-- Lists in the order of their epochs: one behind another, and their fronts.
use Rattle.std.proofs.Common.{◌≡◌, ℕ, zero, suc, ◌+◌, ◌<◌, ◌≤◌, nat_le, nat_lt, Bool, true, false, cond, List, [], ◌∷◌, ◌++◌, length, take, drop, refl, sym, ap, subst, ◌∙◌, arith}
use Rattle.std.specs.Prelude.{filter, take_while}
use Rattle.std.specs.List.{prefix_len}
use Rattle.std.proofs.lemmas.List.Folds.{length-prefix_len}
use Rattle.std.proofs.lemmas.Bool.{cond-true, cond-false}
use Rattle.std.proofs.lemmas.Bool.Decides.{nat_tests}
use Rattle.multiset_sum.specs.declared.part.Part.{Part}
use Rattle.verifier_run.specs.Order.{part_epoch, NeverFalls, OneOfEach}

-- what a test of two numbers is
below_is : (m n : ℕ) → m < n → nat_lt m n ≡ true
below_is m n h = grind (arith, nat_tests)

not_below : (m n : ℕ) → n ≤ m → nat_lt m n ≡ false
not_below m n h = grind (arith, nat_tests)

at_most_is : (m n : ℕ) → m ≤ n → nat_le m n ≡ true
at_most_is m n h = grind (arith, nat_tests)

not_at_most : (m n : ℕ) → n < m → nat_le m n ≡ false
not_at_most m n h = grind (arith, nat_tests)

at_most_tells : (m n : ℕ) → nat_le m n ≡ true → m ≤ n
at_most_tells m n h = grind (arith, nat_tests)

not_at_most_tells : (m n : ℕ) → nat_le m n ≡ false → n < m
not_at_most_tells m n h = grind (arith, nat_tests)

module _ {X : Type 0} (epoch : X → ℕ) where
  -- the bounds of a list in order
  pub never_falls-bounds : (low high : ℕ) (xs : List X) → NeverFalls epoch low high xs → low ≤ high
  never_falls-bounds low high [] is = is
  never_falls-bounds low high (x ∷ xs) is = omega (arith, is.0, never_falls-bounds (epoch x) high xs is.1)

  pub never_falls-from : (lower low high : ℕ) (xs : List X) → lower ≤ low → NeverFalls epoch low high xs → NeverFalls epoch lower high xs
  never_falls-from lower low high [] below is = omega arith
  never_falls-from lower low high (x ∷ xs) below is = (omega (arith, is.0), is.1)

  -- one list behind another
  pub never_falls-append : (low mid high : ℕ) (xs ys : List X)
      → NeverFalls epoch low mid xs → NeverFalls epoch mid high ys → NeverFalls epoch low high (xs ++ ys)
  never_falls-append low mid high [] ys is more = never_falls-from low mid high ys is more
  never_falls-append low mid high (x ∷ xs) ys is more = (is.0, never_falls-append (epoch x) mid high xs ys is.1 more)

  -- what stands behind the first so many
  pub never_falls-drop : (n low high : ℕ) (xs : List X) → NeverFalls epoch low high xs → NeverFalls epoch low high (drop n xs)
  never_falls-drop zero low high xs is = is
  never_falls-drop (suc n) low high [] is = is
  never_falls-drop (suc n) low high (x ∷ xs) is =
      never_falls-drop n low high xs (never_falls-from low (epoch x) high xs is.0 is.1)

  -- those of epochs up to one, and those behind it
  abbrev pub through_of : ℕ → List X → List X
  through_of through xs = filter (λ x. nat_le (epoch x) through) xs

  abbrev pub after_of : ℕ → List X → List X
  after_of through xs = filter (λ x. nat_lt through (epoch x)) xs

  -- how many at the front are of epochs up to one
  abbrev pub front_of : ℕ → List X → ℕ
  front_of through xs = prefix_len (λ x. nat_le (epoch x) through) xs

  -- the number of those that a test took from the front
  pub counted : (through n : ℕ) (seen xs : List X) → n ≡ length (take_while (λ x. nat_le (epoch x) through) seen) → seen ≡ xs → n ≡ front_of through xs
  counted through n seen xs is same =
      is
      ∙ (ap (λ (ys : List X). length (take_while (λ x. nat_le (epoch x) through) ys)) same
      ∙ length-prefix_len (λ x. nat_le (epoch x) through) xs)

  -- all are behind an epoch
  pub all_after : (through low high : ℕ) (xs : List X) → through < low → NeverFalls epoch low high xs → after_of through xs ≡ xs
  all_after through low high [] past is = refl
  all_after through low high (x ∷ xs) past is =
      cond-true (nat_lt through (epoch x)) _ _ (below_is through (epoch x) (omega (arith, is.0)))
      ∙ ap (λ (ys : List X). x ∷ ys) (all_after through (epoch x) high xs (omega (arith, is.0)) is.1)

  none_through : (through low high : ℕ) (xs : List X) → through < low → NeverFalls epoch low high xs → through_of through xs ≡ []
  none_through through low high [] past is = refl
  none_through through low high (x ∷ xs) past is =
      cond-false (nat_le (epoch x) through) _ _ (not_at_most (epoch x) through (omega (arith, is.0)))
      ∙ none_through through (epoch x) high xs (omega (arith, is.0)) is.1

  -- In a list in order those of epochs up to one stand at the front.
  pub through_is : (through low high : ℕ) (xs : List X) → NeverFalls epoch low high xs
      → take (front_of through xs) xs ≡ through_of through xs
  through_is through low high [] is = refl
  through_is through low high (x ∷ xs) is = go (nat_le (epoch x) through) refl (through_is through (epoch x) high xs is.1)
    where
      go : (b : Bool) → nat_le (epoch x) through ≡ b → take (front_of through xs) xs ≡ through_of through xs
          → take (cond b (1 + front_of through xs) 0) (x ∷ xs) ≡ cond b (x ∷ through_of through xs) (through_of through xs)
      go true within rest =
          let one : 1 + front_of through xs ≡ suc (front_of through xs) = omega arith in
          ap (λ (n : ℕ). take n (x ∷ xs)) one ∙ ap (λ (ys : List X). x ∷ ys) rest
      go false past rest = sym (none_through through (epoch x) high xs (not_at_most_tells (epoch x) through past) is.1)

  -- And the others behind them.
  pub after_is : (through low high : ℕ) (xs : List X) → NeverFalls epoch low high xs
      → drop (front_of through xs) xs ≡ after_of through xs
  after_is through low high [] is = refl
  after_is through low high (x ∷ xs) is = go (nat_le (epoch x) through) refl (after_is through (epoch x) high xs is.1)
    where
      go : (b : Bool) → nat_le (epoch x) through ≡ b → drop (front_of through xs) xs ≡ after_of through xs
          → drop (cond b (1 + front_of through xs) 0) (x ∷ xs) ≡ after_of through (x ∷ xs)
      go true within rest =
          let one : 1 + front_of through xs ≡ suc (front_of through xs) = omega arith in
          ap (λ (n : ℕ). drop n (x ∷ xs)) one
          ∙ (rest
          ∙ sym (cond-false (nat_lt through (epoch x)) _ _ (not_below through (epoch x) (at_most_tells (epoch x) through within))))
      go false past rest =
          let later = not_at_most_tells (epoch x) through past in
          sym (all_after through (epoch x) high (x ∷ xs) (omega (arith, later)) (omega arith, is.1))

-- ---- one part of each epoch

pub one_of_each-append : (from mid next : ℕ) (parts more : List Part)
    → OneOfEach from mid parts → OneOfEach mid next more → OneOfEach from next (parts ++ more)
one_of_each-append from mid next [] more is later = subst (λ (n : ℕ). OneOfEach n next more) (sym is) later
one_of_each-append from mid next (part ∷ parts) more is later = (is.0, one_of_each-append (suc from) mid next parts more is.1 later)

-- so they never fall
pub one_of_each-never_falls : (from next : ℕ) (parts : List Part) → OneOfEach from next parts → NeverFalls part_epoch from next parts
one_of_each-never_falls from next [] is = omega arith
one_of_each-never_falls from next (part ∷ parts) is = (
  omega (arith, is.0),
  never_falls-from part_epoch part.epoch (suc from) next parts (omega (arith, is.0)) (one_of_each-never_falls (suc from) next parts is.1),
)

-- there are as many as epochs
pub one_of_each-count : (from next : ℕ) (parts : List Part) → OneOfEach from next parts → next ≡ from + length parts
one_of_each-count from next [] is = omega arith
one_of_each-count from next (part ∷ parts) is = omega (arith, one_of_each-count (suc from) next parts is.1)
