-- The tests of equality tell what they are named for.
use Rattle.std.proofs.Common.{◌≡◌, ◌↔◌, ℕ, Bool, true, false, ◌&&◌, ◌==◌, List, [], ◌∷◌, Option, Some, None, refl, sym, ◌∙◌, ap, subst}
use Rattle.std.proofs.lemmas.Bool.{eqb-true, eq-eqb, false≢true}
use Rattle.tree_keys.specs.Path.{same_bit, same_path}
use Rattle.tree_keys.proofs.PathLaws.{same_path-self, same_path-true}
use Rattle.record_text.specs.declared.value.Pointer.{Pointer}
use Rattle.record_text.specs.declared.value.Node.{Node}
use Rattle.record_text.specs.declared.value.Value.{Value}
use Rattle.record_text.specs.declared.value.Value.TheVariants as values
use Rattle.record_text.proofs.SameLemmas.{parts_same}
use Rattle.record_text.specs.Same.{same_bytes, same_blob, same_pointer, same_value}

-- both tests are met
and-true : (a b : Bool) → (a && b) ≡ true → (a ≡ true) × (b ≡ true)
and-true true b both = (refl, both)
and-true false b both = absurd (false≢true both)

true-and : (a b : Bool) → a ≡ true → b ≡ true → (a && b) ≡ true
true-and a b first second = ap (λ (x : Bool). x && b) first ∙ second

pub same_bit-true : (a b : Bool) → same_bit a b ≡ true → a ≡ b
same_bit-true true true same = refl
same_bit-true true false same = absurd (false≢true same)
same_bit-true false true same = absurd (false≢true same)
same_bit-true false false same = refl

pub same_bit-self : (a : Bool) → same_bit a a ≡ true
same_bit-self true = refl
same_bit-self false = refl

pub same_bytes-true : (xs ys : List ℕ) → same_bytes xs ys ≡ true → xs ≡ ys
same_bytes-true [] [] same = refl
same_bytes-true [] (y ∷ ys) same = absurd (false≢true same)
same_bytes-true (x ∷ xs) [] same = absurd (false≢true same)
same_bytes-true (x ∷ xs) (y ∷ ys) same =
    let both = and-true (x == y) (same_bytes xs ys) same in
    ap (λ (z : ℕ). z ∷ xs) (eqb-true x y both.0) ∙ ap (λ (zs : List ℕ). y ∷ zs) (same_bytes-true xs ys both.1)

pub same_bytes-self : (xs : List ℕ) → same_bytes xs xs ≡ true
same_bytes-self [] = refl
same_bytes-self (x ∷ xs) = true-and (x == x) (same_bytes xs xs) (eq-eqb x x refl) (same_bytes-self xs)

pub same_blob-true : (a b : Option (List ℕ)) → same_blob a b ≡ true → a ≡ b
same_blob-true None None same = refl
same_blob-true None (Some ys) same = absurd (false≢true same)
same_blob-true (Some xs) None same = absurd (false≢true same)
same_blob-true (Some xs) (Some ys) same = ap (λ (zs : List ℕ). Some zs) (same_bytes-true xs ys same)

pub same_blob-self : (a : Option (List ℕ)) → same_blob a a ≡ true
same_blob-self None = refl
same_blob-self (Some xs) = same_bytes-self xs

pub same_pointer-true : (p q : Option Pointer) → same_pointer p q ≡ true → p ≡ q
same_pointer-true None None same = refl
same_pointer-true None (Some q) same = absurd (false≢true same)
same_pointer-true (Some p) None same = absurd (false≢true same)
same_pointer-true (Some p) (Some q) same =
    let both = and-true (same_path p.path q.path && same_bit p.deferred q.deferred) (same_bytes p.digest q.digest) same in
    let front = and-true (same_path p.path q.path) (same_bit p.deferred q.deferred) both.0 in
    ap (λ (x : Pointer). Some x) (parts_same p q (same_path-true p.path q.path front.0) (same_bytes-true p.digest q.digest both.1) (same_bit-true p.deferred q.deferred front.1))

pub same_pointer-self : (p : Option Pointer) → same_pointer p p ≡ true
same_pointer-self None = refl
same_pointer-self (Some p) =
    true-and _ _ (true-and _ _ (same_path-self p.path) (same_bit-self p.deferred)) (same_bytes-self p.digest)

-- nodes of the same sides are one
same_sides : (m n : Node) → m.side0 ≡ n.side0 → m.side1 ≡ n.side1 → m ≡ n
same_sides m n left right =
    ap (λ (x : Option Pointer). record { side0 = x; side1 = m.side1 }) left ∙ ap (λ (x : Option Pointer). record { side0 = n.side0; side1 = x }) right

pub same_value-true : (v w : Value) → same_value v w ≡ true → v ≡ w
same_value-true (values.Blob a) (values.Blob b) same = ap (λ (x : Option (List ℕ)). values.Blob x) (same_blob-true a b same)
same_value-true (values.Blob a) (values.Node n) same = absurd (false≢true same)
same_value-true (values.Node m) (values.Blob b) same = absurd (false≢true same)
same_value-true (values.Node m) (values.Node n) same =
    let both = and-true (same_pointer m.side0 n.side0) (same_pointer m.side1 n.side1) same in
    ap (λ (x : Node). values.Node x) (same_sides m n (same_pointer-true m.side0 n.side0 both.0) (same_pointer-true m.side1 n.side1 both.1))

pub same_value-self : (v : Value) → same_value v v ≡ true
same_value-self (values.Blob a) = same_blob-self a
same_value-self (values.Node n) = true-and _ _ (same_pointer-self n.side0) (same_pointer-self n.side1)

-- an answer that tells whether two values are one is the test
pub tells_same_value : (answer : Bool) (v w : Value) → (answer ≡ true) ↔ (v ≡ w) → answer ≡ same_value v w
tells_same_value true v w told = sym (subst (λ (x : Value). same_value v x ≡ true) (told.0 refl) (same_value-self v))
tells_same_value false v w told = go (same_value v w) refl
  where
    go : (b : Bool) → same_value v w ≡ b → false ≡ same_value v w
    go true is = absurd (false≢true (told.1 (same_value-true v w is)))
    go false is = sym is
