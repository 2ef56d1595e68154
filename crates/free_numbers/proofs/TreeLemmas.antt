-- What the root of a tree of least numbers says, and what a write keeps.
use Rattle.std.proofs.Common.{◌≡◌, ◌⊎◌, ℕ, zero, suc, ◌+◌, ◌-◌, ◌*◌, ◌/◌, ◌<◌, ◌≤◌, ◌==◌, min, Bool, true, false, List, length, get_or, set, drop, replicate, Some, None, slice_index, inl, inr, refl, sym, ◌∙◌, ap, subst, arith, get_or-set_same, get_or-set_other, length-drop}
use Rattle.std.proofs.lemmas.Bool.{eq-eqb, ne_eqb, cases_lt, cases_eq}
use Rattle.std.proofs.lemmas.List.{get_or-drop}
use Rattle.free_numbers.specs.Free.{lowest_free}
use Rattle.free_numbers.specs.Tree.{IsLesser, IsLeaf, IsTree, free_from}
use Rattle.free_numbers.proofs.FreeLemmas.{length-free_from, free_from-at, free_from-set, all_free, lowest-is, lowest-none}

-- ---- the root

-- a node has no more than its parent's child
lesser_left : (p a b : ℕ) → p ≡ min a b → p ≤ a
lesser_left p a b is = omega arith

lesser_right : (p a b : ℕ) → p ≡ min a b → p ≤ b
lesser_right p a b is = omega arith

lesser_one : (p a b : ℕ) → p ≡ min a b → (p ≡ a) ⊎ (p ≡ b)
lesser_one p a b is = elim (cases_lt a b) [
  | inl less ↦ inl (omega (arith, is, less))
  | inr more ↦ inr (omega (arith, is, more))
]

-- the root has at most what any node has
pub root_least : (bound : ℕ) (least : List ℕ) → IsTree bound least → (fuel i : ℕ) → i ≤ fuel → 1 ≤ i → i < 2 * bound → slice_index least 1 ≤ slice_index least i
root_least bound least tree zero i enough some within = absurd (omega (arith, enough, some))
root_least bound least tree (suc fuel) i enough some within = elim (cases_eq i 1) [
  | inl one ↦ subst (λ (j : ℕ). slice_index least 1 ≤ slice_index least j) (sym one) (omega arith)
  | inr other ↦
      let parent : ℕ = i / 2 in
      let high : 1 ≤ parent = omega (arith, other, some) in
      let inside : parent < bound = omega (arith, within) in
      let above : slice_index least 1 ≤ slice_index least parent = root_least bound least tree fuel parent (omega (arith, enough, some)) high (omega (arith, inside)) in
      let lesser = tree.inner parent high inside in
      elim (cases_eq i (2 * parent)) [
        | inl left ↦ subst (λ (j : ℕ). slice_index least 1 ≤ slice_index least j) (sym left) (omega (arith, above, lesser_left _ _ _ lesser))
        | inr apart ↦
            let right : i ≡ 2 * parent + 1 = omega (arith, apart) in
            subst (λ (j : ℕ). slice_index least 1 ≤ slice_index least j) (sym right) (omega (arith, above, lesser_right _ _ _ lesser))
      ]
]

-- a node has what some leaf has
pub some_leaf : (bound : ℕ) (least : List ℕ) → IsTree bound least → (fuel i : ℕ) → 2 * bound ≤ i + fuel → 1 ≤ i → i < 2 * bound
    → (n : ℕ) × (n < bound) × (slice_index least i ≡ slice_index least (bound + n))
some_leaf bound least tree zero i enough some within = absurd (omega (arith, enough, within))
some_leaf bound least tree (suc fuel) i enough some within = elim (cases_lt i bound) [
  | inr leaf ↦ (i - bound, omega (arith, leaf, within), ap (slice_index least) (omega (arith, leaf)))
  | inl inside ↦ elim (lesser_one _ _ _ (tree.inner i some inside)) [
    | inl left ↦
        let further = some_leaf bound least tree fuel (2 * i) (omega (arith, enough, some)) (omega (arith, some)) (omega (arith, inside)) in
        (further.0, further.1, left ∙ further.2)
    | inr right ↦
        let further = some_leaf bound least tree fuel (2 * i + 1) (omega (arith, enough, some)) (omega (arith, some)) (omega (arith, inside)) in
        (further.0, further.1, right ∙ further.2)
  ]
]

-- ---- by the leaves

len_leaves : (bound : ℕ) (least : List ℕ) → length least ≡ 2 * bound → length (drop bound least) ≡ bound
len_leaves bound least len = length-drop bound least ∙ omega (arith, len)

-- so many numbers
pub length-free : (bound : ℕ) (least : List ℕ) → IsTree bound least → length (free_from 0 (drop bound least)) ≡ bound
length-free bound least tree = length-free_from 0 (drop bound least) ∙ len_leaves bound least tree.len

-- whether a number is free, by its leaf
free_at : (bound : ℕ) (least : List ℕ) → IsTree bound least → (n : ℕ) → n < bound → get_or (free_from 0 (drop bound least)) n false ≡ (slice_index least (bound + n) == n)
free_at bound least tree n within =
    free_from-at 0 (drop bound least) n (omega (arith, len_leaves bound least tree.len, within))
    ∙ (ap (λ (m : ℕ). slice_index (drop bound least) n == m) (omega arith) ∙ ap (λ (m : ℕ). m == n) (get_or-drop bound least n 0))

-- a number below what the root has is taken
taken_below : (bound : ℕ) (least : List ℕ) → IsTree bound least → (n : ℕ) → n < bound → n < slice_index least 1 → get_or (free_from 0 (drop bound least)) n false ≡ false
taken_below bound least tree n within low =
    let above : slice_index least 1 ≤ slice_index least (bound + n) = root_least bound least tree (bound + n) (bound + n) (omega arith) (omega (arith, within)) (omega (arith, within)) in
    free_at bound least tree n within ∙ ne_eqb (slice_index least (bound + n)) n (λ same. omega (arith, same, above, low))

-- the root has the lowest free number
pub root_is_lowest : (bound : ℕ) (least : List ℕ) → IsTree bound least → 1 ≤ bound → slice_index least 1 < bound → lowest_free (free_from 0 (drop bound least)) ≡ Some (slice_index least 1)
root_is_lowest bound least tree some below =
    let found = some_leaf bound least tree (2 * bound) 1 (omega arith) (omega arith) (omega (arith, some)) in
    let own : slice_index least 1 ≡ found.0 = elim (tree.leaf found.0 found.1) [
      | inl free ↦ found.2 ∙ free
      | inr taken ↦ absurd (omega (arith, taken, found.2, below))
    ] in
    let leaf : slice_index least (bound + slice_index least 1) ≡ slice_index least 1 = ap (λ (m : ℕ). slice_index least (bound + m)) own ∙ sym found.2 in
    lowest-is _ (slice_index least 1) (omega (arith, length-free bound least tree, below))
    (free_at bound least tree (slice_index least 1) below ∙ eq-eqb _ _ leaf)
    (λ m less. taken_below bound least tree m (omega (arith, less, below)) less)

-- or no number is free
pub none_is_free : (bound : ℕ) (least : List ℕ) → IsTree bound least → (bound ≡ 0) ⊎ (bound ≤ slice_index least 1) → lowest_free (free_from 0 (drop bound least)) ≡ None
none_is_free bound least tree none = lowest-none _ (λ m within. go m (omega (arith, length-free bound least tree, within)) none)
  where
    go : (m : ℕ) → m < bound → (bound ≡ 0) ⊎ (bound ≤ slice_index least 1) → get_or (free_from 0 (drop bound least)) m false ≡ false
    go m inside (inl empty) = absurd (omega (arith, empty, inside))
    go m inside (inr high) = taken_below bound least tree m inside (omega (arith, inside, high))

-- ---- writes

-- a node is written with the lesser of its children's: only its own parent can be wrong then
pub climbed : (bound : ℕ) (least : List ℕ) (node value : ℕ) → length least ≡ 2 * bound → 1 ≤ node → node < bound
    → value ≡ min (slice_index least (2 * node)) (slice_index least (2 * node + 1))
    → ((i : ℕ) → 1 ≤ i → i < bound → (i ≡ node → ⊥) → IsLesser least i)
    → (i : ℕ) → 1 ≤ i → i < bound → (i ≡ node / 2 → ⊥) → IsLesser (set least node value) i
climbed bound least node value len some inside is inner i low high apart =
    let left : (2 * i ≡ node → ⊥) = λ same. apart (omega (arith, same)) in
    let right : (2 * i + 1 ≡ node → ⊥) = λ same. apart (omega (arith, same)) in
    let children : min (slice_index least (2 * i)) (slice_index least (2 * i + 1)) ≡ min (slice_index (set least node value) (2 * i)) (slice_index (set least node value) (2 * i + 1)) =
    ap (λ (a : ℕ). min a (slice_index least (2 * i + 1))) (sym (get_or-set_other least node (2 * i) value 0 left))
    ∙ ap (λ (b : ℕ). min (slice_index (set least node value) (2 * i)) b) (sym (get_or-set_other least node (2 * i + 1) value 0 right)) in
    elim (cases_eq i node) [
      | inl one ↦
          let here : slice_index (set least node value) i ≡ value = ap (slice_index (set least node value)) one ∙ get_or-set_same least node value 0 (omega (arith, inside, len)) in
          here ∙ (is ∙ (ap (λ (j : ℕ). min (slice_index least (2 * j)) (slice_index least (2 * j + 1))) (sym one) ∙ children))
      | inr other ↦ get_or-set_other least node i value 0 other ∙ (inner i low high other ∙ children)
    ]

-- the leaves of a tree whose leaves were written
pub leaves_hold : (bound : ℕ) (old new : List ℕ) (number value : ℕ) → IsTree bound old → number < bound → IsLeaf bound number value
    → drop bound new ≡ set (drop bound old) number value → (n : ℕ) → n < bound → IsLeaf bound n (slice_index new (bound + n))
leaves_hold bound old new number value tree within leaf is n inside =
    let len : length (drop bound old) ≡ bound = len_leaves bound old tree.len in
    let read : slice_index new (bound + n) ≡ slice_index (set (drop bound old) number value) n = sym (get_or-drop bound new n 0) ∙ ap (λ (xs : List ℕ). slice_index xs n) is in
    elim (cases_eq n number) [
      | inl one ↦
          let here : slice_index new (bound + n) ≡ value = read ∙ (ap (slice_index (set (drop bound old) number value)) one ∙ get_or-set_same (drop bound old) number value 0 (omega (arith, len, within))) in
          subst (λ (v : ℕ). IsLeaf bound n v) (sym here) (subst (λ (m : ℕ). IsLeaf bound m value) (sym one) leaf)
      | inr other ↦
          let there : slice_index new (bound + n) ≡ slice_index old (bound + n) = read ∙ (get_or-set_other (drop bound old) number n value 0 other ∙ get_or-drop bound old n 0) in
          subst (λ (v : ℕ). IsLeaf bound n v) (sym there) (tree.leaf n inside)
    ]

-- the number of a leaf that was written with it, or with the bound, is free, or taken
pub view_written : (bound : ℕ) (old new : List ℕ) (number value : ℕ) (flag : Bool) → drop bound new ≡ set (drop bound old) number value → (value == number) ≡ flag
    → free_from 0 (drop bound new) ≡ set (free_from 0 (drop bound old)) number flag
view_written bound old new number value flag is now =
    ap (free_from 0) is
    ∙ (free_from-set 0 (drop bound old) number value
    ∙ (ap (λ (m : ℕ). set (free_from 0 (drop bound old)) number (value == m)) (omega arith) ∙ ap (λ (b : Bool). set (free_from 0 (drop bound old)) number b) now))

pub view_taken : (bound : ℕ) (old new : List ℕ) (number : ℕ) → number < bound → drop bound new ≡ set (drop bound old) number bound
    → free_from 0 (drop bound new) ≡ set (free_from 0 (drop bound old)) number false
view_taken bound old new number within is = view_written bound old new number bound false is (ne_eqb bound number (λ same. omega (arith, same, within)))

pub view_given_back : (bound : ℕ) (old new : List ℕ) (number : ℕ) → drop bound new ≡ set (drop bound old) number number
    → free_from 0 (drop bound new) ≡ set (free_from 0 (drop bound old)) number true
view_given_back bound old new number is = view_written bound old new number number true is (eq-eqb number number refl)

-- a new tree
pub all_leaves_free : (bound : ℕ) (least : List ℕ) → length least ≡ 2 * bound → ((n : ℕ) → n < bound → slice_index least (bound + n) ≡ n) → free_from 0 (drop bound least) ≡ replicate bound true
all_leaves_free bound least len leaf =
    let count : length (drop bound least) ≡ bound = len_leaves bound least len in
    all_free 0 (drop bound least) (λ i less. get_or-drop bound least i 0 ∙ (leaf i (omega (arith, count, less)) ∙ omega arith))
    ∙ ap (λ (n : ℕ). replicate n true) count
