-- A path is found in a map by the order of paths where it is the same path, so a map's entries are a function from paths.
use Rattle.std.proofs.Common.{◌≡◌, ℕ, ◌/◌, ◌%◌, ◌^◌, Bool, true, false, cond, List, [], ◌∷◌, length, map, Option, Some, if◌then◌else◌, refl, sym, ◌∙◌, ap, arith}
use Rattle.std.specs.Option.{option_map}
use Rattle.std.specs.Map.{lookup}
use Rattle.std.specs.BTreeMap.{is_at}
use Rattle.std.specs.declared.cmp.Ordering.{Ordering}
use Rattle.std.specs.declared.cmp.Ordering.TheVariants.{Less, Equal, Greater}
use Rattle.std.specs.Ordering.{is_eq, nat_cmp, bool_cmp, ordering_then}
use Rattle.std.proofs.Math.Path.{fun_ext}
use Rattle.std.proofs.lemmas.Bool.{true≢false}
use Rattle.std.proofs.lemmas.Bool.Decides.{nat_tests}
use Rattle.std.proofs.lemmas.Map.Made.{lookup-map_values}
use Rattle.tree_keys.specs.Bits.{bits_of, number_of}
use Rattle.tree_keys.specs.Path.{same_path}
use Rattle.tree_keys.proofs.BitsLaws.{bits_of-number_of}
use Rattle.tree_keys.proofs.PathLaws.{same_path-self, same_path-true}
use Rattle.record_text.specs.declared.value.Value.{Value}
use Rattle.soundness.specs.Clash.{with_last_evicted}
use Rattle.collision_exhibit.specs.LastEvicted.{path_order, Entries, last_evicted_at}

-- ---- the order of paths

-- what is equal in two steps is equal in each
both : (a b : Ordering) → ordering_then a b ≡ Equal → (a ≡ Equal) × (b ≡ Equal)
both Less b is = absurd (cc)
both Equal b is = (refl, is)
both Greater b is = absurd (cc)

last_step : (a b c d : Ordering) → ordering_then a (ordering_then b (ordering_then c d)) ≡ Equal → d ≡ Equal
last_step a b c d is = (both c d (both b (ordering_then c d) (both a (ordering_then b (ordering_then c d)) is).1).1).1

equal_numbers : (a b : ℕ) → nat_cmp a b ≡ Equal → a ≡ b
equal_numbers a b is = grind (arith, nat_tests)

itself : (n : ℕ) → nat_cmp n n ≡ Equal
itself n = grind (arith, nat_tests)

equal_trees : (a b : Bool) → bool_cmp a b ≡ Equal → a ≡ b
equal_trees false false is = refl
equal_trees false true is = absurd (cc)
equal_trees true false is = absurd (cc)
equal_trees true true is = refl

tree_itself : (wide : Bool) → bool_cmp wide wide ≡ Equal
tree_itself false = refl
tree_itself true = refl

equal_itself : (path : List Bool) → path_order path path ≡ Equal
equal_itself [] = refl
equal_itself (wide ∷ bits) =
    rw (itself (length bits), tree_itself wide, itself (number_of bits / 2 ^ 64), itself (number_of bits % 2 ^ 64)) refl

-- the empty list is equal to no path
not_empty : (wide : Bool) (bits : List Bool) → path_order (wide ∷ bits) [] ≡ Equal → ⊥
unfolding number_of
not_empty wide [] is =
    let low : nat_cmp 0 1 ≡ Equal = last_step (nat_cmp 0 0) (bool_cmp wide false) (nat_cmp 0 0) (nat_cmp 0 1) is in
    absurd (omega (arith, equal_numbers 0 1 low))
not_empty wide (bit ∷ bits) is =
    let len : length (bit ∷ bits) ≡ 0 = equal_numbers (length (bit ∷ bits)) 0 (both (nat_cmp (length (bit ∷ bits)) 0) _ is).0 in
    absurd (omega (arith, len))

empty_not : (wide : Bool) (bits : List Bool) → path_order [] (wide ∷ bits) ≡ Equal → ⊥
unfolding number_of
empty_not wide [] is =
    let low : nat_cmp 1 0 ≡ Equal = last_step (nat_cmp 0 0) (bool_cmp false wide) (nat_cmp 0 0) (nat_cmp 1 0) is in
    absurd (omega (arith, equal_numbers 1 0 low))
empty_not wide (bit ∷ bits) is =
    let len : 0 ≡ length (bit ∷ bits) = equal_numbers 0 (length (bit ∷ bits)) (both (nat_cmp 0 (length (bit ∷ bits))) _ is).0 in
    absurd (omega (arith, len))

equal_paths : (path other : List Bool) → path_order path other ≡ Equal → path ≡ other
equal_paths [] [] is = refl
equal_paths [] (wide ∷ bits) is = absurd (empty_not wide bits is)
equal_paths (wide ∷ bits) [] is = absurd (not_empty wide bits is)
equal_paths (wide ∷ bits) (others ∷ rest) is =
    let by_len = both (nat_cmp (length bits) (length rest)) _ is in
    let by_tree = both (bool_cmp wide others) _ by_len.1 in
    let by_half = both (nat_cmp (number_of bits / 2 ^ 64) (number_of rest / 2 ^ 64)) (nat_cmp (number_of bits % 2 ^ 64) (number_of rest % 2 ^ 64)) by_tree.1 in
    let len : length bits ≡ length rest = equal_numbers _ _ by_len.0 in
    let high : number_of bits / 2 ^ 64 ≡ number_of rest / 2 ^ 64 = equal_numbers _ _ by_half.0 in
    let low : number_of bits % 2 ^ 64 ≡ number_of rest % 2 ^ 64 = equal_numbers _ _ by_half.1 in
    let number : number_of bits ≡ number_of rest = omega (arith, high, low) in
    ap (λ (tree : Bool). tree ∷ bits) (equal_trees wide others by_tree.0)
    ∙ ap (λ (own : List Bool). others ∷ own)
    (sym (bits_of-number_of bits) ∙ (ap (λ (n : ℕ). bits_of n (number_of bits)) len ∙ (ap (bits_of (length rest)) number ∙ bits_of-number_of rest)))

-- a path is found where it is the same
at_same : (path other : List Bool) → is_at (path_order path) other ≡ same_path path other
at_same path other = go (path_order path other) refl (same_path path other) refl
  where
    never : {X : Type 0} (order : Ordering) → path_order path other ≡ order → is_eq order ≡ false → same_path path other ≡ true → X
    never order is apart same =
        let equal : order ≡ Equal = sym is ∙ (ap (path_order path) (sym (same_path-true path other same)) ∙ equal_itself path) in
        absurd (true≢false (ap is_eq (sym equal) ∙ apart))

    go : (order : Ordering) → path_order path other ≡ order → (same : Bool) → same_path path other ≡ same → is_eq order ≡ same
    go Equal is true same = refl
    go Equal is false apart =
        absurd (true≢false (sym (same_path-self path) ∙ (ap (same_path path) (equal_paths path other is) ∙ apart)))
    go Less is true same = never Less is refl same
    go Less is false apart = refl
    go Greater is true same = never Greater is refl same
    go Greater is false apart = refl

-- ---- the entries of a map

module _ {R : Type 0} (seen : R → Value) where
  -- the entries that are seen
  abbrev pub seen_in : List (List Bool × R) → Entries
  seen_in entries = map (λ entry. (entry.0, seen entry.1)) entries

  -- what is found at a path is what was last evicted of it
  pub taken_found : (entries : List (List Bool × R)) (path : List Bool) (found : Option R)
      → found ≡ lookup (is_at (path_order path)) entries → option_map seen found ≡ last_evicted_at (seen_in entries) path
  taken_found entries path found at =
      ap (option_map seen) at ∙ sym (lookup-map_values seen (is_at (path_order path)) entries)

  -- where the path is the one that was put, its value
  chosen : (value : R) (here : Bool) (kept : Option R) → option_map seen (cond here (Some value) kept) ≡ (if here then Some (seen value) else option_map seen kept)
  chosen value true kept = refl
  chosen value false kept = refl

  -- entries that have a value more, at a path, are what was last evicted and that value of the path
  pub taken_put : (old new : List (List Bool × R)) (path : List Bool) (value : R)
      → ((other : List Bool) → lookup (is_at (path_order other)) new ≡ cond (is_at (path_order path) other) (Some value) (lookup (is_at (path_order other)) old))
      → last_evicted_at (seen_in new) ≡ with_last_evicted (last_evicted_at (seen_in old)) path (seen value)
  taken_put old new path value updates = fun_ext λ other.
      let kept = lookup (is_at (path_order other)) old in
      lookup-map_values seen (is_at (path_order other)) new
      ∙ ap (option_map seen) (updates other ∙ ap (λ (b : Bool). cond b (Some value) kept) (at_same path other))
      ∙ chosen value (same_path path other) kept
      ∙ ap (λ (o : Option Value). if same_path path other then Some (seen value) else o) (sym (lookup-map_values seen (is_at (path_order other)) old))
