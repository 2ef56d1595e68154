-- The keys that are promotable are one list, and it is this one.
use Rattle.std.proofs.Common.{◌≡◌, ◌⊎◌, ℕ, zero, suc, ◌+◌, ◌<◌, ◌≤◌, ◌^◌, Bool, true, false, not, ◌||◌, List, [], ◌∷◌, length, cond, get_or, Option, Some, None, is_some, refl, sym, ◌∙◌, ap, subst, inl, inr, arith}
use Rattle.std.specs.Prelude.{filter}
use Rattle.std.specs.List.{list_any, AllByRecursion, All, AllPairs}
use Rattle.std.proofs.lemmas.Bool.{false≢true, and_parts, and_from, leb-true, le-leb, cases_eq}
use Rattle.std.proofs.lemmas.List.Elements.{All-head, All-tail}
use Rattle.tree_keys.specs.Path.{side, same_path, key_bits}
use Rattle.tree_keys.proofs.PathLaws.{same_path-self, same_path-true}
use Rattle.tree_keys.proofs.TreeLaws.{key_path-data}
use Rattle.host_shard.specs.Shard.{key_path_in, wide_in}
use Rattle.protection_moves.specs.Stage.{Stage, hot_paths}
use Rattle.protection_moves.specs.Transfer.{IsTouchedOften, ArePromotable}
use Rattle.protection_moves.proofs.TransferLaws.{none_promotable}
use Rattle.move_laws.proofs.VacantLaws.{IsMember, among-member, member-among}
use Rattle.shipped_host.specs.Promotable.{numbers_from, is_promotable, promotable_keys, promotable_in}

-- ---- rising lists

-- each number is below those behind it
abbrev AreRising : List ℕ → Type 0
AreRising [] = Unit {0}
AreRising (x ∷ xs) = AllByRecursion (λ y. x < y) xs × AreRising xs

all_by_recursion : (P : ℕ → Type 0) (xs : List ℕ) → All P xs → AllByRecursion P xs
all_by_recursion P [] all = tt
all_by_recursion P (x ∷ xs) all = (All-head P x xs all, all_by_recursion P xs (All-tail P x xs all))

rising-pairs : (xs : List ℕ) → AllPairs (λ a b. a < b) xs → AreRising xs
rising-pairs [] pairs = tt
rising-pairs (x ∷ xs) pairs = (
  all_by_recursion (λ y. x < y) xs (λ i d within. pairs zero (suc i) d (omega arith) (omega (arith, within))),
  rising-pairs xs (λ i j d before within. pairs (suc i) (suc j) d (omega (arith, before)) (omega (arith, within))),
)

pairs-rising : (xs : List ℕ) → AreRising xs → AllPairs (λ a b. a < b) xs
pairs-rising [] rising i j d before within = absurd (omega (arith, within))
pairs-rising (x ∷ xs) rising i zero d before within = absurd (omega (arith, before))
pairs-rising (x ∷ xs) rising zero (suc j) d before within = go xs j rising.0 (omega (arith, within))
  where
    go : (ys : List ℕ) (k : ℕ) → AllByRecursion (λ y. x < y) ys → k < length ys → x < get_or ys k d
    go [] k all inside = absurd (omega (arith, inside))
    go (y ∷ ys) zero all inside = all.0
    go (y ∷ ys) (suc k) all inside = go ys k all.1 (omega (arith, inside))
pairs-rising (x ∷ xs) rising (suc i) (suc j) d before within = pairs-rising xs rising.1 i j d (omega (arith, before)) (omega (arith, within))

one_of : (P : ℕ → Type 0) (xs : List ℕ) (x : ℕ) → AllByRecursion P xs → IsMember xs x → P x
one_of P [] x all is = absurd is
one_of P (y ∷ xs) x all (inl same) = subst P (sym same) all.0
one_of P (y ∷ xs) x all (inr is) = one_of P xs x all.1 is

-- Rising lists with the same members are one.
same_rising : (xs ys : List ℕ) → AreRising xs → AreRising ys → ((k : ℕ) → IsMember xs k → IsMember ys k) → ((k : ℕ) → IsMember ys k → IsMember xs k) → xs ≡ ys
same_rising [] [] one other there back = refl
same_rising [] (y ∷ ys) one other there back = absurd (back y (inl refl))
same_rising (x ∷ xs) [] one other there back = absurd (there x (inl refl))
same_rising (x ∷ xs) (y ∷ ys) one other there back =
    ap (λ (k : ℕ). k ∷ xs) first
    ∙ ap (λ (ks : List ℕ). y ∷ ks) (same_rising xs ys one.1 other.1 (λ k is. go k is (there k (inr is))) (λ k is. come k is (back k (inr is))))
  where
    first : x ≡ y
    first = both (there x (inl refl)) (back y (inl refl))
      where
        both : (x ≡ y) ⊎ IsMember ys x → (y ≡ x) ⊎ IsMember xs y → x ≡ y
        both (inl same) also = same
        both (inr above) (inl same) = sym same
        both (inr above) (inr also) =
            let less : y < x = one_of (λ k. y < k) ys x other.0 above in
            let more : x < y = one_of (λ k. x < k) xs y one.0 also in
            absurd (omega (arith, less, more))

    go : (k : ℕ) → IsMember xs k → (k ≡ y) ⊎ IsMember ys k → IsMember ys k
    go k is (inl same) = let above : x < k = one_of (λ j. x < j) xs k one.0 is in absurd (omega (arith, above, first, same))
    go k is (inr rest) = rest

    come : (k : ℕ) → IsMember ys k → (k ≡ x) ⊎ IsMember xs k → IsMember xs k
    come k is (inl same) = let above : y < k = one_of (λ j. y < j) ys k other.0 is in absurd (omega (arith, above, first, same))
    come k is (inr rest) = rest

-- ---- numbers that pass a test

numbers_above : (low first count : ℕ) → low < first → AllByRecursion (λ k. low < k) (numbers_from first count)
numbers_above low first zero less = tt
numbers_above low first (suc count) less = (less, numbers_above low (suc first) count (omega (arith, less)))

numbers_rise : (first count : ℕ) → AreRising (numbers_from first count)
numbers_rise first zero = tt
numbers_rise first (suc count) = (numbers_above first (suc first) count (omega arith), numbers_rise (suc first) count)

all-pass : (P : ℕ → Type 0) (test : ℕ → Bool) (xs : List ℕ) → AllByRecursion P xs → AllByRecursion P (filter test xs)
all-pass P test [] all = tt
all-pass P test (x ∷ xs) all = go (test x) (all-pass P test xs all.1)
  where
    go : (b : Bool) → AllByRecursion P (filter test xs) → AllByRecursion P (cond b (x ∷ filter test xs) (filter test xs))
    go true rest = (all.0, rest)
    go false rest = rest

passing_rise : (test : ℕ → Bool) (xs : List ℕ) → AreRising xs → AreRising (filter test xs)
passing_rise test [] rising = tt
passing_rise test (x ∷ xs) rising = go (test x) (passing_rise test xs rising.1) (all-pass (λ y. x < y) test xs rising.0)
  where
    go : (b : Bool) → AreRising (filter test xs) → AllByRecursion (λ y. x < y) (filter test xs) → AreRising (cond b (x ∷ filter test xs) (filter test xs))
    go true rest above = (above, rest)
    go false rest above = rest

number_there : (first count k : ℕ) → first ≤ k → k < first + count → IsMember (numbers_from first count) k
number_there first zero k low high = absurd (omega (arith, low, high))
number_there first (suc count) k low high = go (cases_eq k first) (λ above. number_there (suc first) count k above (omega (arith, high)))
  where
    go : (k ≡ first) ⊎ (k ≡ first → ⊥) → (suc first ≤ k → IsMember (numbers_from (suc first) count) k) → (k ≡ first) ⊎ IsMember (numbers_from (suc first) count) k
    go (inl same) rest = inl same
    go (inr other) rest = inr (rest (omega (arith, low, other)))

number_below : (first count k : ℕ) → IsMember (numbers_from first count) k → k < first + count
number_below first zero k is = absurd is
number_below first (suc count) k (inl same) = omega (arith, same)
number_below first (suc count) k (inr is) = omega (arith, number_below (suc first) count k is)

-- what is among those that pass is there, and passes
passing : (test : ℕ → Bool) (xs : List ℕ) (k : ℕ) → IsMember (filter test xs) k → IsMember xs k × (test k ≡ true)
passing test [] k is = absurd is
passing test (x ∷ xs) k is = go (test x) refl (passing test xs k) is
  where
    go : (b : Bool) → test x ≡ b → (IsMember (filter test xs) k → IsMember xs k × (test k ≡ true)) → IsMember (cond b (x ∷ filter test xs) (filter test xs)) k
        → IsMember (x ∷ xs) k × (test k ≡ true)
    go true passes rest (inl same) = (inl same, ap test same ∙ passes)
    go true passes rest (inr is') = let more = rest is' in (inr more.0, more.1)
    go false fails rest is' = let more = rest is' in (inr more.0, more.1)

pass_there : (test : ℕ → Bool) (xs : List ℕ) (k : ℕ) → IsMember xs k → test k ≡ true → IsMember (filter test xs) k
pass_there test [] k is passes = absurd is
pass_there test (x ∷ xs) k is passes = go (test x) refl is (λ more. pass_there test xs k more passes)
  where
    go : (b : Bool) → test x ≡ b → (k ≡ x) ⊎ IsMember xs k → (IsMember xs k → IsMember (filter test xs) k) → IsMember (cond b (x ∷ filter test xs) (filter test xs)) k
    go true it (inl same) rest = inl same
    go true it (inr is') rest = inr (rest is')
    go false it (inl same) rest = absurd (false≢true (sym it ∙ (ap test (sym same) ∙ passes)))
    go false it (inr is') rest = rest is'

-- ---- what the test says

none_found : (path : List Bool) (paths : List (List Bool)) → list_any (λ p. same_path p path) paths ≡ false → IsMember paths path → ⊥
none_found path [] none is = is
none_found path (p ∷ paths) none (inl same) =
    false≢true (sym none ∙ (ap (λ (b : Bool). b || list_any (λ q. same_path q path) paths) (ap (λ (q : List Bool). same_path q path) (sym same) ∙ same_path-self path)))
none_found path (p ∷ paths) none (inr is) = none_found path paths (rest (same_path p path) none) is
  where
    rest : (b : Bool) → (b || list_any (λ q. same_path q path) paths) ≡ false → list_any (λ q. same_path q path) paths ≡ false
    rest true not_so = absurd (false≢true (sym not_so))
    rest false so = so

no_member : (path : List Bool) (paths : List (List Bool)) → (IsMember paths path → ⊥) → list_any (λ p. same_path p path) paths ≡ false
no_member path [] none = refl
no_member path (p ∷ paths) none = go (same_path p path) refl (no_member path paths (λ is. none (inr is)))
  where
    go : (b : Bool) → same_path p path ≡ b → list_any (λ q. same_path q path) paths ≡ false → (b || list_any (λ q. same_path q path) paths) ≡ false
    go true same rest = absurd (none (inl (sym (same_path-true p path same))))
    go false apart rest = rest

not_true : (b : Bool) → not b ≡ true → b ≡ false
not_true true is = absurd (false≢true is)
not_true false is = refl

module _ (stage : Stage) (least : ℕ) where
  test_says : (key : ℕ) → key < 2 ^ key_bits (wide_in stage.shard) → is_promotable stage least key ≡ true → IsTouchedOften stage least key
  test_says key small is =
      let parts = and_parts (is_some (side stage.shard.frontier (key_path_in stage.shard key))) _ is in
      let more = and_parts (not (list_any (λ path. same_path path (key_path_in stage.shard key)) (hot_paths stage.places))) _ parts.1 in
      record {
        in_range = small;
        own = record { whole = key_path-data (wide_in stage.shard) key; below = parts.0 };
        cold = λ among. none_found (key_path_in stage.shard key) (hot_paths stage.places) (not_true _ more.0) (among-member _ (key_path_in stage.shard key) among);
        often = leb-true least (stage.shard.touches (key_path_in stage.shard key)) more.1;
      }

  says_test : (key : ℕ) → IsTouchedOften stage least key → is_promotable stage least key ≡ true
  says_test key is =
      and_from (is_some (side stage.shard.frontier (key_path_in stage.shard key))) _ is.own.below
      (and_from (not (list_any (λ path. same_path path (key_path_in stage.shard key)) (hot_paths stage.places))) _
      (ap (λ (b : Bool). not b) (no_member (key_path_in stage.shard key) (hot_paths stage.places) (λ member. is.cold (member-among _ (key_path_in stage.shard key) member))))
      (le-leb least (stage.shard.touches (key_path_in stage.shard key)) is.often))

  -- Of so many numbers, those that pass are the keys that are promotable, where so many are the keys. The count is a variable,
  -- since a list of all keys can't be computed.
  passing_are_promotable : (many : ℕ) → many ≡ 2 ^ key_bits (wide_in stage.shard) → ArePromotable stage (Some least) (filter (is_promotable stage least) (numbers_from 0 many))
  passing_are_promotable many all = record {
    rising = pairs-rising _ (passing_rise (is_promotable stage least) (numbers_from 0 many) (numbers_rise 0 many));
    promotable = λ key. (
      (λ among. let is = passing (is_promotable stage least) (numbers_from 0 many) key (among-member _ key among) in
          test_says key (subst (λ (count : ℕ). key < count) all (omega (arith, number_below 0 many key is.0))) is.1),
      (λ is. member-among _ key (pass_there (is_promotable stage least) (numbers_from 0 many) key
          (number_there 0 many key (omega arith) (omega (arith, subst (λ (count : ℕ). key < count) (sym all) is.in_range))) (says_test key is))),
    );
  }

  -- the keys that are promotable to become hot
  keys_are_promotable : ArePromotable stage (Some least) (promotable_keys stage least)
  unfolding promotable_keys
  keys_are_promotable = passing_are_promotable (2 ^ key_bits (wide_in stage.shard)) refl

-- The keys that are promotable, and no other, in their order.
pub are_promotable : (stage : Stage) (threshold : Option ℕ) → ArePromotable stage threshold (promotable_in stage threshold)
are_promotable stage None = none_promotable stage
are_promotable stage (Some least) = keys_are_promotable stage least

-- There is one such list.
pub promotable_is : (stage : Stage) (threshold : Option ℕ) (promotable : List ℕ) → ArePromotable stage threshold promotable → promotable ≡ promotable_in stage threshold
promotable_is stage threshold promotable are =
    let those = are_promotable stage threshold in
    same_rising promotable (promotable_in stage threshold) (rising-pairs promotable are.rising) (rising-pairs (promotable_in stage threshold) those.rising)
    (λ key is. among-member _ key ((those.promotable key).1 ((are.promotable key).0 (member-among _ key is))))
    (λ key is. among-member _ key ((are.promotable key).1 ((those.promotable key).0 (member-among _ key is))))
