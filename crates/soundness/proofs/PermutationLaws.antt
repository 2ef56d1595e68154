-- Permutations have the same elements, each as often.
use Rattle.std.proofs.Common.{◌≡◌, ℕ, suc, ◌==◌, ◌&&◌, Bool, true, false, List, [], ◌∷◌, Option, Some, None, refl, sym, ◌∙◌, ap, if◌then◌else◌, arith}
use Rattle.std.specs.Option.{option_map}
use Rattle.std.proofs.lemmas.Bool.{false≢true, eqb-true, eq-eqb, and_parts, and_from}
use Rattle.std.proofs.lemmas.Option.{none-some, same_Some}
use Rattle.tree_keys.specs.Path.{same_path}
use Rattle.tree_keys.proofs.PathLaws.{same_path-self, same_path-true}
use Rattle.lamport_clocks.specs.declared.stamp.Stamp.{Stamp}
use Rattle.record_text.specs.declared.value.Value.{Value}
use Rattle.record_text.specs.declared.element.Element.{Element}
use Rattle.record_text.specs.Same.{same_value}
use Rattle.record_text.proofs.SameTestLaws.{same_value-true, same_value-self}
use Rattle.soundness.specs.Permutation.{same_stamp, same_element, count_of, without_one, permuted_behind, is_permutation}

same_stamp-true : (s t : Stamp) → same_stamp s t ≡ true → s ≡ t
same_stamp-true s t same =
    let parts = and_parts (s.epoch == t.epoch) (s.counter == t.counter) same in
    ap (λ (e : ℕ). record { epoch = e; counter = s.counter }) (eqb-true s.epoch t.epoch parts.0)
    ∙ ap (λ (c : ℕ). record { epoch = t.epoch; counter = c }) (eqb-true s.counter t.counter parts.1)

pub same_element-true : (a b : Element) → same_element a b ≡ true → a ≡ b
same_element-true a b same =
    let parts = and_parts (same_path a.path b.path && same_value a.value b.value) (same_stamp a.stamp b.stamp && a.verifier == b.verifier) same in
    let front = and_parts (same_path a.path b.path) (same_value a.value b.value) parts.0 in
    let back = and_parts (same_stamp a.stamp b.stamp) (a.verifier == b.verifier) parts.1 in
    ap (λ (p : List Bool). record { path = p; value = a.value; stamp = a.stamp; verifier = a.verifier }) (same_path-true a.path b.path front.0)
    ∙ ap (λ (v : Value). record { path = b.path; value = v; stamp = a.stamp; verifier = a.verifier }) (same_value-true a.value b.value front.1)
    ∙ ap (λ (s : Stamp). record { path = b.path; value = b.value; stamp = s; verifier = a.verifier }) (same_stamp-true a.stamp b.stamp back.0)
    ∙ ap (λ (v : ℕ). record { path = b.path; value = b.value; stamp = b.stamp; verifier = v }) (eqb-true a.verifier b.verifier back.1)

pub same_element-self : (a : Element) → same_element a a ≡ true
same_element-self a =
    and_from (same_path a.path a.path && same_value a.value a.value) (same_stamp a.stamp a.stamp && a.verifier == a.verifier)
    (and_from (same_path a.path a.path) (same_value a.value a.value) (same_path-self a.path) (same_value-self a.value))
    (and_from (same_stamp a.stamp a.stamp) (a.verifier == a.verifier)
    (and_from (a.stamp.epoch == a.stamp.epoch) (a.stamp.counter == a.stamp.counter) (eq-eqb a.stamp.epoch a.stamp.epoch refl) (eq-eqb a.stamp.counter a.stamp.counter refl))
    (eq-eqb a.verifier a.verifier refl))

-- a list with one element more in front
abbrev pub one_more : Bool → ℕ → ℕ
one_more b n = if b then suc n else n

one_more-swap : (a b : Bool) (n : ℕ) → one_more a (one_more b n) ≡ one_more b (one_more a n)
one_more-swap true true n = refl
one_more-swap true false n = refl
one_more-swap false true n = refl
one_more-swap false false n = refl

-- what is taken out once is counted once less
pub count_without : (z x : Element) (ys rest : List Element) → without_one x ys ≡ Some rest → count_of z ys ≡ one_more (same_element z x) (count_of z rest)
count_without z x [] rest is = absurd (none-some rest is)
count_without z x (y ∷ ys) rest is = go (λ more out. count_without z x ys more out) (same_element x y) refl is
  where
    Further : Type 0
    Further = (more : List Element) → without_one x ys ≡ Some more → count_of z ys ≡ one_more (same_element z x) (count_of z more)

    deeper : Further → (o : Option (List Element)) → without_one x ys ≡ o → option_map (λ (more : List Element). y ∷ more) o ≡ Some rest
        → count_of z (y ∷ ys) ≡ one_more (same_element z x) (count_of z rest)
    deeper further None out is = absurd (none-some rest is)
    deeper further (Some more) out is =
        ap (one_more (same_element z y)) (further more out)
        ∙ one_more-swap (same_element z y) (same_element z x) (count_of z more)
        ∙ ap (λ (r : List Element). one_more (same_element z x) (count_of z r)) (same_Some (y ∷ more) rest is)

    go : Further → (b : Bool) → same_element x y ≡ b → (if b then Some ys else option_map (λ (more : List Element). y ∷ more) (without_one x ys)) ≡ Some rest
        → count_of z (y ∷ ys) ≡ one_more (same_element z x) (count_of z rest)
    go further true same is =
        ap (λ (e : Element). one_more (same_element z e) (count_of z ys)) (sym (same_element-true x y same))
        ∙ ap (λ (r : List Element). one_more (same_element z x) (count_of z r)) (same_Some ys rest is)
    go further false apart is = deeper further (without_one x ys) refl is

-- permutations have each element as often
pub count_permuted : (xs ys : List Element) → is_permutation xs ys ≡ true → (z : Element) → count_of z xs ≡ count_of z ys
count_permuted [] [] is z = refl
count_permuted [] (y ∷ ys) is z = absurd (false≢true is)
count_permuted (x ∷ xs) ys is z = go (λ rest same. count_permuted xs rest same z) (without_one x ys) refl is
  where
    go : ((rest : List Element) → is_permutation xs rest ≡ true → count_of z xs ≡ count_of z rest) → (o : Option (List Element)) → without_one x ys ≡ o → permuted_behind o (λ rest. is_permutation xs rest) ≡ true → count_of z (x ∷ xs) ≡ count_of z ys
    go further None out is = absurd (false≢true is)
    go further (Some rest) out is =
        ap (one_more (same_element z x)) (further rest is)
        ∙ sym (count_without z x ys rest out)

-- what stands in a list can be taken out
pub without_there : (x : Element) (ys : List Element) (n : ℕ) → count_of x ys ≡ suc n → (rest : List Element) × (without_one x ys ≡ Some rest)
without_there x [] n is = absurd (omega arith)
without_there x (y ∷ ys) n is = go (λ there. without_there x ys n there) (same_element x y) refl is
  where
    go : (count_of x ys ≡ suc n → (rest : List Element) × (without_one x ys ≡ Some rest)) → (b : Bool) → same_element x y ≡ b → one_more b (count_of x ys) ≡ suc n → (rest : List Element) × (without_one x (y ∷ ys) ≡ Some rest)
    go deeper true same is = (ys, ap (λ (b : Bool). if b then Some ys else option_map (λ (more : List Element). y ∷ more) (without_one x ys)) same)
    go deeper false apart is =
        let further = deeper is in (
          y ∷ further.0,
          ap (λ (b : Bool). if b then Some ys else option_map (λ (more : List Element). y ∷ more) (without_one x ys)) apart
              ∙ ap (option_map (λ (more : List Element). y ∷ more)) further.1,
        )
