-- More on how paths lie to each other: the longest path that two begin with, and paths that begin a key.
use Rattle.std.proofs.Common.{◌≡◌, ◌≢◌, ◌⊎◌, Bool, true, false, not, List, [], ◌∷◌, ◌++◌, Some, refl, sym, ◌∙◌, ap, subst, inl, inr}
use Rattle.std.proofs.lemmas.Bool.{false≢true}
use Rattle.std.proofs.lemmas.Option.{same_Some}
use Rattle.tree_keys.specs.Path.{side, is_prefix, common, IsPath, IsData}
use Rattle.tree_keys.proofs.SideLaws.{is_prefix-self, side_of_prefix, prefix_cases, side-prefix, above_no_prefix}
use Rattle.merkle_records.proofs.KindLaws.{is_prefix-side}
use Rattle.host_laws.proofs.DepthLaws.{data_whole}

-- the longest common prefix is a prefix of both
pub common-first : (p k : List Bool) → is_prefix (common p k) p ≡ true
common-first [] k = refl
common-first (a ∷ p) [] = refl
common-first (true ∷ p) (true ∷ k) = common-first p k
common-first (true ∷ p) (false ∷ k) = refl
common-first (false ∷ p) (true ∷ k) = refl
common-first (false ∷ p) (false ∷ k) = common-first p k

pub common-second : (p k : List Bool) → is_prefix (common p k) k ≡ true
common-second [] k = refl
common-second (a ∷ p) [] = refl
common-second (true ∷ p) (true ∷ k) = common-second p k
common-second (true ∷ p) (false ∷ k) = refl
common-second (false ∷ p) (true ∷ k) = refl
common-second (false ∷ p) (false ∷ k) = common-second p k

-- and what is a prefix of both is one of it
pub common-longest : (q p k : List Bool) → is_prefix q p ≡ true → is_prefix q k ≡ true → is_prefix q (common p k) ≡ true
common-longest [] p k first second = refl
common-longest (c ∷ q) [] k first second = absurd (false≢true first)
common-longest (c ∷ q) (a ∷ p) [] first second = absurd (false≢true second)
common-longest (true ∷ q) (true ∷ p) (true ∷ k) first second = common-longest q p k first second
common-longest (true ∷ q) (true ∷ p) (false ∷ k) first second = absurd (false≢true second)
common-longest (true ∷ q) (false ∷ p) (b ∷ k) first second = absurd (false≢true first)
common-longest (false ∷ q) (true ∷ p) (b ∷ k) first second = absurd (false≢true first)
common-longest (false ∷ q) (false ∷ p) (true ∷ k) first second = absurd (false≢true second)
common-longest (false ∷ q) (false ∷ p) (false ∷ k) first second = common-longest q p k first second

-- what begins a path above the other doesn't: sides tell paths apart
pub sides_apart : (at p k : List Bool) (on which : Bool) → side at p ≡ Some on → side at k ≡ Some which → on ≢ which → is_prefix p k ≡ false
sides_apart at p k on which here there apart = go (is_prefix p k) refl
  where
    go : (b : Bool) → is_prefix p k ≡ b → is_prefix p k ≡ false
    go true begins = absurd (apart (same_Some on which (sym (side-prefix at p k on here begins) ∙ there)))
    go false not_so = not_so

-- where a key parts from a path that doesn't begin it: the path lies on one side of there, and the key on the other
pub record Parts (at path key : List Bool) (on : Bool) : Type 0 where
  pub which : Bool
  pub below : side at (common path key) ≡ Some on
  pub path_side : side (common path key) path ≡ Some which
  pub key_side : side (common path key) key ≡ Some (not which)

pub parts : (at path key : List Bool) (on : Bool) → side at path ≡ Some on → side at key ≡ Some on
    → is_prefix path key ≡ false → IsPath path → IsData key → Parts at path key on
parts at path key on here there apart fits whole = go (prefix_cases fork path (common-first path key)) (prefix_cases fork key (common-second path key))
  where
    fork : List Bool
    fork = common path key

    below : side at fork ≡ Some on
    below = side_of_prefix at fork on (common-longest (at ++ on ∷ []) path key (is_prefix-side at path on here) (is_prefix-side at key on there))

    deeper : (a : Bool) → side fork path ≡ Some a → side fork key ≡ Some a → ⊥
    deeper a first second =
        above_no_prefix fork (fork ++ a ∷ []) a (side_of_prefix fork (fork ++ a ∷ []) a (is_prefix-self (fork ++ a ∷ [])))
        (common-longest (fork ++ a ∷ []) path key (is_prefix-side fork path a first) (is_prefix-side fork key a second))

    -- the two don't lie on one side of it
    two_sides : (a b : Bool) → side fork path ≡ Some a → side fork key ≡ Some b → b ≡ not a
    two_sides true true first second = absurd (deeper true first second)
    two_sides true false first second = refl
    two_sides false true first second = refl
    two_sides false false first second = absurd (deeper false first second)

    go : (fork ≡ path) ⊎ ((a : Bool) × (side fork path ≡ Some a)) → (fork ≡ key) ⊎ ((b : Bool) × (side fork key ≡ Some b)) → Parts at path key on
    go (inl same) second = absurd (false≢true (sym apart ∙ subst (λ (p : List Bool). is_prefix p key ≡ true) same (common-second path key)))
    go (inr first) (inl same) =
        let all : key ≡ path = data_whole key path (subst (λ (p : List Bool). is_prefix p path ≡ true) same (common-first path key)) whole fits in
        absurd (false≢true (sym apart ∙ subst (λ (p : List Bool). is_prefix p key ≡ true) all (is_prefix-self key)))
    go (inr first) (inr second) = record {
      which = first.0;
      below = below;
      path_side = first.1;
      key_side = second.1 ∙ ap (λ (b : Bool). Some b) (two_sides first.0 second.0 first.1 second.1);
    }
