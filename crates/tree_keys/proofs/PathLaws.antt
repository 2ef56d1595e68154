-- How paths lie to each other, by their first bits.
use Rattle.std.proofs.Common.{◌≡◌, ◌≢◌, ◌↔◌, IsTrue, ℕ, zero, suc, ◌+◌, ◌-◌, ◌/◌, ◌^◌, ◌<◌, ◌≤◌, Bool, true, false, List, [], ◌∷◌, length, take, drop, slice_get, Some, None, nat_eq, refl, sym, ◌∙◌, ap, subst, arith}
use Rattle.std.proofs.lemmas.Bool.{false≢true, eqb-true, eq-eqb}
use Rattle.tree_keys.specs.Bits.{bits_of}
use Rattle.tree_keys.specs.BitsLaws.{length-bits_of, number_back}
use Rattle.tree_keys.proofs.BitsLaws.{take-bits_of, bits_of-injective, first_below}
use Rattle.tree_keys.specs.Path.{side, common, is_prefix, same_path}

-- nothing that isn't longer lies below
pub side-short : (p k : List Bool) → length k ≤ length p → side p k ≡ None
side-short [] [] short = refl
side-short [] (b ∷ k) short = absurd (omega arith)
side-short (a ∷ p) [] short = refl
side-short (true ∷ p) (true ∷ k) short = side-short p k (omega arith)
side-short (true ∷ p) (false ∷ k) short = refl
side-short (false ∷ p) (true ∷ k) short = refl
side-short (false ∷ p) (false ∷ k) short = side-short p k (omega arith)

-- lists that are one have one tail
tail : {A : Type 0} {x y : A} {xs ys : List A} → x ∷ xs ≡ y ∷ ys → xs ≡ ys
tail same = cc

-- behind its first bits the next bit is the side
pub side-found : (p k : List Bool) (b : Bool) → take (length p) k ≡ p → slice_get k (length p) ≡ Some b → side p k ≡ Some b
side-found [] [] b same next = cc
side-found [] (c ∷ k) b same next = next
side-found (a ∷ p) [] b same next = cc
side-found (true ∷ p) (true ∷ k) b same next = side-found p k b (tail same) next
side-found (true ∷ p) (false ∷ k) b same next = cc
side-found (false ∷ p) (true ∷ k) b same next = cc
side-found (false ∷ p) (false ∷ k) b same next = side-found p k b (tail same) next

-- other first bits, and it lies elsewhere
pub side-apart : (p k : List Bool) → length p ≤ length k → take (length p) k ≢ p → side p k ≡ None
side-apart [] k within apart = absurd (apart refl)
side-apart (a ∷ p) [] within apart = refl
side-apart (true ∷ p) (true ∷ k) within apart = side-apart p k (omega arith) (λ same. apart (ap (λ (bits : List Bool). true ∷ bits) same))
side-apart (true ∷ p) (false ∷ k) within apart = refl
side-apart (false ∷ p) (true ∷ k) within apart = refl
side-apart (false ∷ p) (false ∷ k) within apart = side-apart p k (omega arith) (λ same. apart (ap (λ (bits : List Bool). false ∷ bits) same))

-- ---- the same of paths that are given by numbers

-- the first bits of the longer path, as many as the shorter has
front_of : (m a n b : ℕ) → m ≤ n → take (length (bits_of m a)) (bits_of n b) ≡ bits_of m (b / 2 ^ (n - m))
front_of m a n b within =
    ap (λ (k : ℕ). take k (bits_of n b)) (length-bits_of m a) ∙ take-bits_of n m b within

pub side_of_apart : (m a n b : ℕ) → m ≤ n → a < 2 ^ m → b < 2 ^ n → b / 2 ^ (n - m) ≢ a → side (bits_of m a) (bits_of n b) ≡ None
side_of_apart m a n b within small_a small_b apart =
    let count = length-bits_of m a in
    let other = length-bits_of n b in
    side-apart (bits_of m a) (bits_of n b) (omega arith)
    (λ same. apart (bits_of-injective m _ a (first_below b n m within small_b) small_a (sym (front_of m a n b within) ∙ same)))

pub side_of_found : (m a n b : ℕ) (s : Bool) → m ≤ n → b / 2 ^ (n - m) ≡ a → slice_get (bits_of n b) m ≡ Some s → side (bits_of m a) (bits_of n b) ≡ Some s
side_of_found m a n b s within front next =
    side-found (bits_of m a) (bits_of n b) s (front_of m a n b within ∙ ap (bits_of m) front)
    (ap (slice_get (bits_of n b)) (length-bits_of m a) ∙ next)

-- the same of paths of two trees and of one

tree_side : (w : Bool) (p k : List Bool) → side (w ∷ p) (w ∷ k) ≡ side p k
tree_side true p k = refl
tree_side false p k = refl

pub side_of_trees : (v w : Bool) (p k : List Bool) → v ≢ w → side (w ∷ p) (v ∷ k) ≡ None
side_of_trees true true p k apart = absurd (apart refl)
side_of_trees true false p k apart = refl
side_of_trees false true p k apart = refl
side_of_trees false false p k apart = absurd (apart refl)

pub side_shorter : (v w : Bool) (m a n b : ℕ) → n ≤ m → side (w ∷ bits_of m a) (v ∷ bits_of n b) ≡ None
side_shorter v w m a n b short =
    let count = length-bits_of m a in
    let other = length-bits_of n b in
    side-short (w ∷ bits_of m a) (v ∷ bits_of n b) (omega arith)

pub side_elsewhere : (v w : Bool) (m a n b : ℕ) → v ≡ w → m ≤ n → a < 2 ^ m → b < 2 ^ n → b / 2 ^ (n - m) ≢ a → side (w ∷ bits_of m a) (v ∷ bits_of n b) ≡ None
side_elsewhere v w m a n b trees within small_a small_b apart =
    subst (λ (x : Bool). side (w ∷ bits_of m a) (x ∷ bits_of n b) ≡ None) (sym trees)
    (tree_side w (bits_of m a) (bits_of n b) ∙ side_of_apart m a n b within small_a small_b apart)

pub side_there : (v w : Bool) (m a n b : ℕ) (s : Bool) → v ≡ w → m ≤ n → b / 2 ^ (n - m) ≡ a → slice_get (v ∷ bits_of n b) (1 + m) ≡ Some s
    → side (w ∷ bits_of m a) (v ∷ bits_of n b) ≡ Some s
side_there v w m a n b s trees within front next =
    let more : 1 + m ≡ suc m = omega arith in
    let behind : slice_get (bits_of n b) m ≡ Some s = subst (λ (k : ℕ). slice_get (v ∷ bits_of n b) k ≡ Some s) more next in
    subst (λ (x : Bool). side (w ∷ bits_of m a) (x ∷ bits_of n b) ≡ Some s) (sym trees)
    (tree_side w (bits_of m a) (bits_of n b) ∙ side_of_found m a n b s within front behind)

pub ruleset side_view = (length-bits_of, number_back, side_of_trees, side_shorter, side_elsewhere, side_there)

-- ---- one path and another, whole

pub same_path-self : (p : List Bool) → same_path p p ≡ true
same_path-self [] = refl
same_path-self (true ∷ p) = same_path-self p
same_path-self (false ∷ p) = same_path-self p

pub same_path-true : (p k : List Bool) → same_path p k ≡ true → p ≡ k
same_path-true [] [] same = refl
same_path-true [] (b ∷ k) same = cc
same_path-true (a ∷ p) [] same = cc
same_path-true (true ∷ p) (true ∷ k) same = ap (λ (bits : List Bool). true ∷ bits) (same_path-true p k same)
same_path-true (true ∷ p) (false ∷ k) same = cc
same_path-true (false ∷ p) (true ∷ k) same = cc
same_path-true (false ∷ p) (false ∷ k) same = ap (λ (bits : List Bool). false ∷ bits) (same_path-true p k same)

pub same_path-apart : (p k : List Bool) → p ≢ k → same_path p k ≡ false
same_path-apart p k apart = go (same_path p k) refl
  where
    go : (b : Bool) → same_path p k ≡ b → same_path p k ≡ false
    go true is = absurd (apart (same_path-true p k is))
    go false is = is

-- ---- prefixes

pub is_prefix-take : (p k : List Bool) → take (length p) k ≡ p → is_prefix p k ≡ true
is_prefix-take [] k same = refl
is_prefix-take (a ∷ p) [] same = cc
is_prefix-take (true ∷ p) (true ∷ k) same = is_prefix-take p k (tail same)
is_prefix-take (true ∷ p) (false ∷ k) same = cc
is_prefix-take (false ∷ p) (true ∷ k) same = cc
is_prefix-take (false ∷ p) (false ∷ k) same = is_prefix-take p k (tail same)

pub is_prefix-true : (p k : List Bool) → is_prefix p k ≡ true → take (length p) k ≡ p
is_prefix-true [] k is = refl
is_prefix-true (a ∷ p) [] is = cc
is_prefix-true (true ∷ p) (true ∷ k) is = ap (λ (bits : List Bool). true ∷ bits) (is_prefix-true p k is)
is_prefix-true (true ∷ p) (false ∷ k) is = cc
is_prefix-true (false ∷ p) (true ∷ k) is = cc
is_prefix-true (false ∷ p) (false ∷ k) is = ap (λ (bits : List Bool). false ∷ bits) (is_prefix-true p k is)

pub is_prefix-length : (p k : List Bool) → is_prefix p k ≡ true → length p ≤ length k
is_prefix-length [] k is = omega arith
is_prefix-length (a ∷ p) [] is = cc
is_prefix-length (true ∷ p) (true ∷ k) is = omega (arith, is_prefix-length p k is)
is_prefix-length (true ∷ p) (false ∷ k) is = cc
is_prefix-length (false ∷ p) (true ∷ k) is = cc
is_prefix-length (false ∷ p) (false ∷ k) is = omega (arith, is_prefix-length p k is)

-- ---- the longest common prefix

pub common-take : (n : ℕ) (p k : List Bool) → n ≤ length p → n ≤ length k → take n p ≡ take n k → common (drop n p) (drop n k) ≡ [] → common p k ≡ take n p
common-take zero p k in_p in_k same rest = rest
common-take (suc n) [] k in_p in_k same rest = absurd (omega arith)
common-take (suc n) (a ∷ p) [] in_p in_k same rest = absurd (omega arith)
common-take (suc n) (true ∷ p) (true ∷ k) in_p in_k same rest =
    ap (λ (bits : List Bool). true ∷ bits) (common-take n p k (omega arith) (omega arith) (tail same) rest)
common-take (suc n) (true ∷ p) (false ∷ k) in_p in_k same rest = cc
common-take (suc n) (false ∷ p) (true ∷ k) in_p in_k same rest = cc
common-take (suc n) (false ∷ p) (false ∷ k) in_p in_k same rest =
    ap (λ (bits : List Bool). false ∷ bits) (common-take n p k (omega arith) (omega arith) (tail same) rest)

-- ---- the same of paths that are given by numbers

pub prefix_of_longer : (m a n b : ℕ) → n < m → is_prefix (bits_of m a) (bits_of n b) ≡ false
prefix_of_longer m a n b longer = go (is_prefix (bits_of m a) (bits_of n b)) refl
  where
    go : (v : Bool) → is_prefix (bits_of m a) (bits_of n b) ≡ v → is_prefix (bits_of m a) (bits_of n b) ≡ false
    go true is =
        let count = length-bits_of m a in
        let other = length-bits_of n b in
        absurd (omega (arith, is_prefix-length (bits_of m a) (bits_of n b) is))
    go false is = is

pub prefix_of_front : (m a n b : ℕ) → m ≤ n → a < 2 ^ m → b < 2 ^ n → nat_eq (b / 2 ^ (n - m)) a ≡ is_prefix (bits_of m a) (bits_of n b)
prefix_of_front m a n b within small_a small_b = go (nat_eq (b / 2 ^ (n - m)) a) refl (is_prefix (bits_of m a) (bits_of n b)) refl
  where
    front : take (length (bits_of m a)) (bits_of n b) ≡ bits_of m (b / 2 ^ (n - m))
    front = front_of m a n b within

    go : (u : Bool) → nat_eq (b / 2 ^ (n - m)) a ≡ u → (v : Bool) → is_prefix (bits_of m a) (bits_of n b) ≡ v → nat_eq (b / 2 ^ (n - m)) a ≡ is_prefix (bits_of m a) (bits_of n b)
    go true same v is = same ∙ sym (is_prefix-take (bits_of m a) (bits_of n b) (front ∙ ap (bits_of m) (eqb-true _ _ same)))
    go false apart false is = apart ∙ sym is
    go false apart true is =
        let same = bits_of-injective m _ a (first_below b n m within small_b) small_a (sym front ∙ is_prefix-true (bits_of m a) (bits_of n b) is) in
        absurd (false≢true (sym apart ∙ eq-eqb _ _ same))

-- the same of paths of two trees and of one

tree_prefix : (w : Bool) (p k : List Bool) → is_prefix (w ∷ p) (w ∷ k) ≡ is_prefix p k
tree_prefix true p k = refl
tree_prefix false p k = refl

pub prefix_of_trees : (v w : Bool) (p k : List Bool) → v ≢ w → is_prefix (v ∷ p) (w ∷ k) ≡ false
prefix_of_trees true true p k apart = absurd (apart refl)
prefix_of_trees true false p k apart = refl
prefix_of_trees false true p k apart = refl
prefix_of_trees false false p k apart = absurd (apart refl)

pub prefix_longer : (v w : Bool) (m a n b : ℕ) → n < m → is_prefix (v ∷ bits_of m a) (w ∷ bits_of n b) ≡ false
prefix_longer true true m a n b longer = prefix_of_longer m a n b longer
prefix_longer true false m a n b longer = refl
prefix_longer false true m a n b longer = refl
prefix_longer false false m a n b longer = prefix_of_longer m a n b longer

pub prefix_front : (v w : Bool) (m a n b : ℕ) → v ≡ w → m ≤ n → a < 2 ^ m → b < 2 ^ n → nat_eq (b / 2 ^ (n - m)) a ≡ is_prefix (v ∷ bits_of m a) (w ∷ bits_of n b)
prefix_front v w m a n b trees within small_a small_b =
    subst (λ (x : Bool). nat_eq (b / 2 ^ (n - m)) a ≡ is_prefix (v ∷ bits_of m a) (x ∷ bits_of n b)) trees
    (prefix_of_front m a n b within small_a small_b ∙ sym (tree_prefix v (bits_of m a) (bits_of n b)))

pub ruleset prefix_view = (length-bits_of, number_back, prefix_of_trees, prefix_longer, prefix_front)

-- numbers that are one path are of one count, and one number
same_numbers : (m a n b : ℕ) → a < 2 ^ m → b < 2 ^ n → bits_of m a ≡ bits_of n b → (m ≡ n) × (a ≡ b)
same_numbers m a n b small_a small_b same =
    let count : m ≡ n = sym (length-bits_of m a) ∙ (ap (λ (bits : List Bool). length bits) same ∙ length-bits_of n b) in
    let small : b < 2 ^ m = subst (λ (k : ℕ). b < 2 ^ k) (sym count) small_b in
    let alike : bits_of m a ≡ bits_of m b = same ∙ ap (λ (k : ℕ). bits_of k b) (sym count) in
    (count, bits_of-injective m a b small_a small alike)

pub same_of_count : (m a n b : ℕ) → m ≡ n → a < 2 ^ m → b < 2 ^ n → nat_eq a b ≡ same_path (bits_of m a) (bits_of n b)
same_of_count m a n b count small_a small_b = go (nat_eq a b) refl (same_path (bits_of m a) (bits_of n b)) refl
  where
    go : (u : Bool) → nat_eq a b ≡ u → (v : Bool) → same_path (bits_of m a) (bits_of n b) ≡ v → nat_eq a b ≡ same_path (bits_of m a) (bits_of n b)
    go true same v is =
        let alike : bits_of m a ≡ bits_of n b = ap (bits_of m) (eqb-true _ _ same) ∙ ap (λ (k : ℕ). bits_of k b) count in
        same ∙ sym (subst (λ (k : List Bool). same_path (bits_of m a) k ≡ true) alike (same_path-self (bits_of m a)))
    go false apart false is = apart ∙ sym is
    go false apart true is =
        let same = same_numbers m a n b small_a small_b (same_path-true _ _ is) in
        absurd (false≢true (sym apart ∙ eq-eqb _ _ same.1))

-- the same of paths of two trees and of one

same_tree : (w : Bool) (p k : List Bool) → same_path (w ∷ p) (w ∷ k) ≡ same_path p k
same_tree true p k = refl
same_tree false p k = refl

heads : {x y : Bool} {xs ys : List Bool} → x ∷ xs ≡ y ∷ ys → x ≡ y
heads same = cc

pub same_of_trees : (v w : Bool) (p k : List Bool) → v ≢ w → same_path (v ∷ p) (w ∷ k) ≡ false
same_of_trees v w p k apart = same_path-apart (v ∷ p) (w ∷ k) (λ same. apart (heads same))

pub none_of_trees : (v w : Bool) (p k : List Bool) → v ≢ w → IsTrue false ↔ (v ∷ p ≡ w ∷ k)
none_of_trees v w p k apart = (λ is. absurd (false≢true is), λ same. absurd (apart (heads same)))

pub same_of_depths : (v w : Bool) (m a n b : ℕ) → m ≢ n → a < 2 ^ m → b < 2 ^ n → same_path (v ∷ bits_of m a) (w ∷ bits_of n b) ≡ false
same_of_depths v w m a n b apart small_a small_b =
    same_path-apart (v ∷ bits_of m a) (w ∷ bits_of n b) (λ same. apart (same_numbers m a n b small_a small_b (tail same)).0)

pub none_of_depths : (v w : Bool) (m a n b : ℕ) → m ≢ n → a < 2 ^ m → b < 2 ^ n → IsTrue false ↔ (v ∷ bits_of m a ≡ w ∷ bits_of n b)
none_of_depths v w m a n b apart small_a small_b =
    (λ is. absurd (false≢true is), λ same. absurd (apart (same_numbers m a n b small_a small_b (tail same)).0))

pub same_of_depth : (v w : Bool) (m a n b : ℕ) → v ≡ w → m ≡ n → a < 2 ^ m → b < 2 ^ n → nat_eq a b ≡ same_path (v ∷ bits_of m a) (w ∷ bits_of n b)
same_of_depth v w m a n b trees depth small_a small_b =
    subst (λ (x : Bool). nat_eq a b ≡ same_path (v ∷ bits_of m a) (x ∷ bits_of n b)) trees
    (same_of_count m a n b depth small_a small_b ∙ sym (same_tree v (bits_of m a) (bits_of n b)))

pub one_of_depth : (v w : Bool) (m a n b : ℕ) → v ≡ w → m ≡ n → a < 2 ^ m → b < 2 ^ n → IsTrue (nat_eq a b) ↔ (v ∷ bits_of m a ≡ w ∷ bits_of n b)
one_of_depth v w m a n b trees depth small_a small_b =
    let value = same_of_depth v w m a n b trees depth small_a small_b in (
      λ is. same_path-true _ _ (sym value ∙ is),
      λ same. value ∙ subst (λ (k : List Bool). same_path (v ∷ bits_of m a) k ≡ true) same (same_path-self (v ∷ bits_of m a)),
    )

pub ruleset same_view = (length-bits_of, number_back, same_of_trees, none_of_trees, same_of_depths, none_of_depths, same_of_depth, one_of_depth)
