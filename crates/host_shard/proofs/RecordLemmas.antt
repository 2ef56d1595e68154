-- Records by their paths, as std's ordered map has them.
use Rattle.std.proofs.Common.{◌≡◌, ℕ, ◌/◌, ◌%◌, ◌<◌, ◌^◌, Bool, true, false, List, [], ◌∷◌, length, Option, Some, None, IsSome, is_some, unwrap_or, cond, if◌then◌else◌, refl, sym, ◌∙◌, ap, subst, arith}
use Rattle.std.specs.Option.{option_map}
use Rattle.std.proofs.Math.Path.{fun_ext}
use Rattle.std.proofs.lemmas.Bool.{false≢true, true≢false}
use Rattle.std.proofs.lemmas.Bool.Decides.{nat_tests}
use Rattle.std.specs.Ordering.{is_eq, nat_cmp, bool_cmp, ordering_then}
use Rattle.std.specs.declared.cmp.Ordering.{Ordering}
use Rattle.std.specs.declared.cmp.Ordering.TheVariants.{Less, Equal, Greater}
use Rattle.std.specs.Map.{lookup}
use Rattle.std.specs.BTreeMap.{is_at}
use Rattle.tree_keys.specs.Bits.{bits_of, number_of}
use Rattle.tree_keys.specs.Path.{same_path}
use Rattle.tree_keys.proofs.BitsLaws.{number_of-lt, bits_of-number_of}
use Rattle.tree_keys.proofs.PathLaws.{same_path-self, same_path-true}
use Rattle.host_shard.specs.declared.record.Record.{Record}
use Rattle.host_shard.specs.Records.{Listed, Kept, record_at, with_kept}
use Rattle.tree_keys.specs.contracts.path.PathOrd.TheImpl as block

-- the order of the fields of two paths
abbrev cmp_fields : ℕ → ℕ → Bool → Bool → ℕ → ℕ → ℕ → ℕ → Ordering
cmp_fields m n s t a b c d = ordering_then (nat_cmp m n) (ordering_then (bool_cmp s t) (ordering_then (nat_cmp a b) (nat_cmp c d)))

same_number : (n : ℕ) → nat_cmp n n ≡ Equal
same_number n = grind (arith, nat_tests)

same_tree : (s : Bool) (rest : Ordering) → ordering_then (bool_cmp s s) rest ≡ rest
same_tree true rest = refl
same_tree false rest = refl

-- each field is in one place of the order with itself
same_fields : (m : ℕ) (s : Bool) (a c : ℕ) → is_eq (cmp_fields m m s s a a c c) ≡ true
same_fields m s a c =
    ap (λ (o : Ordering). is_eq (ordering_then o (ordering_then (bool_cmp s s) (ordering_then (nat_cmp a a) (nat_cmp c c))))) (same_number m)
    ∙ ap is_eq (same_tree s (ordering_then (nat_cmp a a) (nat_cmp c c)))
    ∙ ap (λ (o : Ordering). is_eq (ordering_then o (nat_cmp c c))) (same_number a)
    ∙ ap is_eq (same_number c)

both_equal : (first rest : Ordering) → is_eq (ordering_then first rest) ≡ true → (is_eq first ≡ true) × (is_eq rest ≡ true)
both_equal Less rest is = absurd (false≢true is)
both_equal Equal rest is = (refl, is)
both_equal Greater rest is = absurd (false≢true is)

equal_numbers : (a b : ℕ) → is_eq (nat_cmp a b) ≡ true → a ≡ b
equal_numbers a b is = grind (arith, nat_tests)

equal_trees : (s t : Bool) → is_eq (bool_cmp s t) ≡ true → s ≡ t
equal_trees true true is = refl
equal_trees true false is = absurd (false≢true is)
equal_trees false true is = absurd (false≢true is)
equal_trees false false is = refl

-- and with no other
equal_fields : (m n : ℕ) (s t : Bool) (a b c d : ℕ) → is_eq (cmp_fields m n s t a b c d) ≡ true → (m ≡ n) × (s ≡ t) × (a ≡ b) × (c ≡ d)
equal_fields m n s t a b c d is =
    let one = both_equal (nat_cmp m n) _ is in
    let two = both_equal (bool_cmp s t) _ one.1 in
    let three = both_equal (nat_cmp a b) (nat_cmp c d) two.1 in
    (equal_numbers m n one.0, equal_trees s t two.0, equal_numbers a b three.0, equal_numbers c d three.1)

-- no bits spell a number that isn't 0
none_spelled : (k : List Bool) → 0 ≡ length k → 1 ≡ number_of k % 2 ^ 64 → ⊥
none_spelled k short is =
    let small : number_of k < 1 = subst (λ (n : ℕ). number_of k < 2 ^ n) (sym short) (number_of-lt k) in
    omega (arith, small, is)

-- lists of one length with one number are the same
one_list : (p k : List Bool) → length p ≡ length k → number_of p ≡ number_of k → p ≡ k
one_list p k h g = sym (bits_of-number_of p) ∙ ap (λ (n : ℕ). bits_of n (number_of p)) h ∙ ap (λ (n : ℕ). bits_of (length k) n) g ∙ bits_of-number_of k

-- paths that the order has equal are the same
told : (p k : List Bool) → is_eq (block.ghosts.cmp p k) ≡ true → p ≡ k
told [] [] is = refl
told [] (b ∷ k) is =
    let same = equal_fields 0 (length k) false b 0 (number_of k / 2 ^ 64) 1 (number_of k % 2 ^ 64) is in absurd (none_spelled k same.0 same.3)
told (a ∷ p) [] is =
    let same = equal_fields (length p) 0 a false (number_of p / 2 ^ 64) 0 (number_of p % 2 ^ 64) 1 is in absurd (none_spelled p (sym same.0) (sym same.3))
told (a ∷ p) (b ∷ k) is =
    let same = equal_fields (length p) (length k) a b (number_of p / 2 ^ 64) (number_of k / 2 ^ 64) (number_of p % 2 ^ 64) (number_of k % 2 ^ 64) is in
    let numbers : number_of p ≡ number_of k = omega (arith, same.2, same.3) in
    let bits : p ≡ k = one_list p k same.0 numbers in
    let tree : a ≡ b = same.1 in
    cc

itself : (p : List Bool) → is_eq (block.ghosts.cmp p p) ≡ true
itself [] = same_fields 0 false 0 1
itself (a ∷ p) = same_fields (length p) a (number_of p / 2 ^ 64) (number_of p % 2 ^ 64)

-- the order of paths has them equal where they are the same
pub cmp-same : (p k : List Bool) → is_eq (block.ghosts.cmp p k) ≡ same_path p k
cmp-same p k = go (same_path p k) refl (is_eq (block.ghosts.cmp p k)) refl
  where
    apart : same_path p k ≡ false → p ≡ k → ⊥
    apart is same = true≢false (sym (same_path-self k) ∙ subst (λ (q : List Bool). same_path q k ≡ false) same is)

    go : (s : Bool) → same_path p k ≡ s → (o : Bool) → is_eq (block.ghosts.cmp p k) ≡ o → is_eq (block.ghosts.cmp p k) ≡ s
    go true is o found = subst (λ (q : List Bool). is_eq (block.ghosts.cmp p q) ≡ true) (same_path-true p k is) (itself p)
    go false is true found = absurd (apart is (told p k found))
    go false is false found = found

-- ---- what is kept of a path

pub at-same : (p : List Bool) → is_at (block.ghosts.cmp p) ≡ same_path p
at-same p = fun_ext (cmp-same p)

-- the order of two paths in the test doesn't matter
pub same_path-sym : (p k : List Bool) → same_path p k ≡ same_path k p
same_path-sym [] [] = refl
same_path-sym [] (b ∷ k) = refl
same_path-sym (a ∷ p) [] = refl
same_path-sym (true ∷ p) (true ∷ k) = same_path-sym p k
same_path-sym (true ∷ p) (false ∷ k) = refl
same_path-sym (false ∷ p) (true ∷ k) = refl
same_path-sym (false ∷ p) (false ∷ k) = same_path-sym p k

-- the map at a path
pub get_by-record : (listed : Listed) (p : List Bool) → lookup (is_at (block.ghosts.cmp p)) listed ≡ record_at listed p
get_by-record listed p = ap (λ (t : List Bool → Bool). lookup t listed) (at-same p)

-- a map of which the paths but one are as they were
pub updated : (old new : Listed) (p : List Bool) (now : Option Record)
    → ((q : List Bool) → lookup (is_at (block.ghosts.cmp q)) new ≡ cond (is_at (block.ghosts.cmp p) q) now (lookup (is_at (block.ghosts.cmp q)) old))
    → record_at new ≡ with_kept (record_at old) p now
updated old new p now all = fun_ext each
  where
    each : (q : List Bool) → record_at new q ≡ with_kept (record_at old) p now q
    each q =
        sym (get_by-record new q) ∙ all q
        ∙ ap (λ (b : Bool). cond b now (lookup (is_at (block.ghosts.cmp q)) old)) (cmp-same p q ∙ same_path-sym p q)
        ∙ ap (λ (o : Option Record). cond (same_path q p) now o) (get_by-record old q)

-- a path that is kept as it was
pub kept_same : (kept : Kept) (p : List Bool) (now : Option Record) → kept p ≡ now → kept ≡ with_kept kept p now
kept_same kept p now is = fun_ext each
  where
    at : (q : List Bool) (b : Bool) → same_path q p ≡ b → kept q ≡ (if b then now else kept q)
    at q true same = ap kept (same_path-true q p same) ∙ is
    at q false apart = refl

    each : (q : List Bool) → kept q ≡ with_kept kept p now q
    each q = at q (same_path q p) refl

-- what is there, without its default
pub there : {X : Type 0} (o : Option X) (x : X) → is_some o ≡ true → o ≡ Some (unwrap_or o x)
there None x is = absurd (false≢true is)
there (Some y) x is = refl

pub absent : {X : Type 0} (o : Option X) (x : X) → is_some o ≡ false → unwrap_or o x ≡ x
absent None x is = refl
absent (Some y) x is = absurd (true≢false is)

-- the test whether a path has a record
pub tested : (inside listed : Listed) (p : List Bool) (found b : Bool) → inside ≡ listed → found ≡ is_some (lookup (is_at (block.ghosts.cmp p)) inside) → found ≡ b
    → is_some (record_at listed p) ≡ b
tested inside listed p found b same is was =
    sym (ap (λ (l : Listed). is_some (record_at l p)) same) ∙ sym (ap (λ (o : Option Record). is_some o) (get_by-record inside p)) ∙ sym is ∙ was

-- a record that is written over
pub set_there : (inside listed new : Listed) (p : List Bool) (kept now : Record) (change : Record → Record) → inside ≡ listed → Some kept ≡ lookup (is_at (block.ghosts.cmp p)) inside
    → now ≡ change kept
    → (IsSome (lookup (is_at (block.ghosts.cmp p)) inside) → (q : List Bool) → lookup (is_at (block.ghosts.cmp q)) new ≡ cond (is_at (block.ghosts.cmp p) q) (Some now) (lookup (is_at (block.ghosts.cmp q)) inside))
    → record_at new ≡ with_kept (record_at listed) p (option_map change (record_at listed p))
set_there inside listed new p kept now change same is changed all =
    let found : record_at listed p ≡ Some kept = sym (ap (λ (l : Listed). record_at l p) same) ∙ sym (get_by-record inside p) ∙ sym is in
    updated inside new p (Some now) (all (subst IsSome is refl))
    ∙ ap (λ (l : Listed). with_kept (record_at l) p (Some now)) same
    ∙ ap (λ (r : Record). with_kept (record_at listed) p (Some r)) changed
    ∙ ap (λ (o : Option Record). with_kept (record_at listed) p (option_map change o)) (sym found)

pub set_none : (inside listed : Listed) (p : List Bool) (change : Record → Record) → inside ≡ listed → None ≡ lookup (is_at (block.ghosts.cmp p)) inside
    → record_at inside ≡ with_kept (record_at listed) p (option_map change (record_at listed p))
set_none inside listed p change same is =
    let none : record_at listed p ≡ None = sym (ap (λ (l : Listed). record_at l p) same) ∙ sym (get_by-record inside p) ∙ sym is in
    ap record_at same ∙ kept_same (record_at listed) p _ (none ∙ sym (ap (option_map change) none))
