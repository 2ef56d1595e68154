-- The lines of entries that rise are those of all keys.
use Rattle.std.proofs.Common.{◌≡◌, ◌≢◌, ◌⊎◌, ℕ, zero, suc, ◌+◌, ◌<◌, ◌≤◌, ◌^◌, Bool, true, false, cond, List, [], ◌∷◌, ◌++◌, Option, Some, None, inl, inr, refl, sym, ◌∙◌, ap, subst, arith}
use Rattle.std.specs.List.{AllByRecursion, flat_map}
use Rattle.std.specs.Option.{unwrap_or}
use Rattle.std.specs.Ordering.{nat_cmp, is_eq}
use Rattle.std.specs.declared.cmp.Ordering.{Ordering}
use Rattle.std.specs.declared.cmp.Ordering.TheVariants.{Less, Equal, Greater}
use Rattle.std.specs.Map.{lookup}
use Rattle.std.specs.BTreeMap.{is_at}
use Rattle.std.proofs.lemmas.Bool.{cases_eq}
use Rattle.std.proofs.lemmas.Bool.Decides.{nat_tests}
use Rattle.stamp_order.specs.PlainMap.{value_at, AreRising, IsEntry}
use Rattle.report_text.specs.KeyLines.{key_line, key_lines, map_text}

-- the line of an entry
abbrev pub entry_line : ℕ × Option (List ℕ) → List ℕ
entry_line entry = key_line entry.0 entry.1

-- ---- the value of a key

same_key : (key : ℕ) → is_eq (nat_cmp key key) ≡ true
same_key key = grind (arith, nat_tests)

equal_keys : (a b : ℕ) → nat_cmp a b ≡ Equal → a ≡ b
equal_keys a b is = grind (arith, nat_tests)

other_key : (a b : ℕ) → a ≢ b → is_eq (nat_cmp a b) ≡ false
other_key a b other = go (nat_cmp a b) refl
  where
    go : (order : Ordering) → nat_cmp a b ≡ order → is_eq order ≡ false
    go Less is = refl
    go Equal is = absurd (other (equal_keys a b is))
    go Greater is = refl

value_first : (entry : ℕ × Option (List ℕ)) (entries : List (ℕ × Option (List ℕ))) → value_at (entry ∷ entries) entry.0 ≡ entry.1
value_first entry entries =
    ap (λ (b : Bool). unwrap_or (cond b (Some entry.1) (lookup (is_at (nat_cmp entry.0)) entries)) None) (same_key entry.0)

value_behind : (entry : ℕ × Option (List ℕ)) (entries : List (ℕ × Option (List ℕ))) (key : ℕ) → key ≢ entry.0 → value_at (entry ∷ entries) key ≡ value_at entries key
value_behind entry entries key other =
    ap (λ (b : Bool). unwrap_or (cond b (Some entry.1) (lookup (is_at (nat_cmp key)) entries)) None) (other_key key entry.0 other)

-- a key below all has none
value_below : (key : ℕ) (entries : List (ℕ × Option (List ℕ))) → AllByRecursion (λ entry. key < entry.0) entries → value_at entries key ≡ None
value_below key [] all = refl
value_below key (entry ∷ entries) all =
    value_behind entry entries key (λ is. absurd (omega (arith, is, all.0))) ∙ value_below key entries all.1

-- ---- the lines

-- by what the map is from this key on
lines_same : (from count : ℕ) (one other : ℕ → Option (List ℕ)) → ((key : ℕ) → from ≤ key → one key ≡ other key) → key_lines from count one ≡ key_lines from count other
unfolding key_lines
lines_same from zero one other same = refl
lines_same from (suc count) one other same =
    ap (λ (value : Option (List ℕ)). key_line from value ++ key_lines (from + 1) count one) (same from (omega arith))
    ∙ ap (λ (rest : List ℕ). key_line from (other from) ++ rest) (lines_same (from + 1) count one other (λ key above. same key (omega (arith, above))))

-- an entry among so many keys from this one on
abbrev IsAmong : ℕ → ℕ → ℕ × Option (List ℕ) → Type 0
IsAmong from count entry = (from ≤ entry.0) × (entry.0 < from + count)

-- those behind the first key
among_behind : (from count : ℕ) (entries : List (ℕ × Option (List ℕ))) → AllByRecursion (λ entry. from < entry.0) entries → AllByRecursion (IsAmong from (suc count)) entries
    → AllByRecursion (IsAmong (from + 1) count) entries
among_behind from count [] above all = tt
among_behind from count (entry ∷ entries) above all = ((omega (arith, above.0), omega (arith, all.0.1)), among_behind from count entries above.1 all.1)

-- all are above what is below the first
above_first : (from : ℕ) (entry : ℕ × Option (List ℕ)) (entries : List (ℕ × Option (List ℕ))) → from < entry.0 → AllByRecursion (λ later. entry.0 < later.0) entries
    → AllByRecursion (λ later. from < later.0) entries
above_first from entry [] below all = tt
above_first from entry (next ∷ entries) below all = (omega (arith, below, all.0), above_first from entry entries below all.1)

lines_of : (count from : ℕ) (entries : List (ℕ × Option (List ℕ))) → AreRising entries → AllByRecursion (IsAmong from count) entries
    → key_lines from count (value_at entries) ≡ flat_map entry_line entries
unfolding key_lines
lines_of zero from [] rising among = refl
lines_of zero from (entry ∷ entries) rising among = absurd (omega (arith, among.0.0, among.0.1))
lines_of (suc count) from [] rising among = lines_of count (from + 1) [] tt tt
lines_of (suc count) from (entry ∷ entries) rising among =
    go (cases_eq entry.0 from)
    (λ above. lines_of count (from + 1) entries rising.1 (among_behind from count entries above among.1))
    (λ below. lines_of count (from + 1) (entry ∷ entries) rising (among_behind from count (entry ∷ entries) below among))
  where
    go : (entry.0 ≡ from) ⊎ (entry.0 ≡ from → ⊥)
        → (AllByRecursion (λ later. from < later.0) entries → key_lines (from + 1) count (value_at entries) ≡ flat_map entry_line entries)
        → (AllByRecursion (λ later. from < later.0) (entry ∷ entries) → key_lines (from + 1) count (value_at (entry ∷ entries)) ≡ flat_map entry_line (entry ∷ entries))
        → key_line from (value_at (entry ∷ entries) from) ++ key_lines (from + 1) count (value_at (entry ∷ entries)) ≡ flat_map entry_line (entry ∷ entries)
    go (inl is) rest all =
        ap (λ (value : Option (List ℕ)). key_line from value ++ key_lines (from + 1) count (value_at (entry ∷ entries)))
        (ap (value_at (entry ∷ entries)) (sym is) ∙ value_first entry entries)
        ∙ ap (λ (key : ℕ). key_line key entry.1 ++ key_lines (from + 1) count (value_at (entry ∷ entries))) (sym is)
        ∙ ap (λ (lines : List ℕ). entry_line entry ++ lines)
        (lines_same (from + 1) count (value_at (entry ∷ entries)) (value_at entries) (λ key above. value_behind entry entries key (λ same. absurd (omega (arith, above, same, is))))
        ∙ rest (subst (λ (key : ℕ). AllByRecursion (λ later. key < later.0) entries) is rising.0))
    go (inr other) rest all =
        let first : from < entry.0 = omega (arith, among.0.0, other) in
        let above = above_first from entry entries first rising.0 in
        ap (λ (value : Option (List ℕ)). key_line from value ++ key_lines (from + 1) count (value_at (entry ∷ entries)))
        (value_below from (entry ∷ entries) (first, above))
        ∙ all (first, above)

-- all keys are below the bound of their type
all_among : (entries : List (ℕ × Option (List ℕ))) (bound : ℕ) → AllByRecursion (λ entry. entry.0 < bound) entries → AllByRecursion (IsAmong 0 bound) entries
all_among [] bound all = tt
all_among (entry ∷ entries) bound all = ((omega arith, omega (arith, all.0)), all_among entries bound all.1)

keys_within : (entries : List (ℕ × Option (List ℕ))) → AllByRecursion IsEntry entries → AllByRecursion (λ entry. entry.0 < 2 ^ 128) entries
keys_within [] all = tt
keys_within (entry ∷ entries) all = (all.0.0, keys_within entries all.1)

pub map_text-entries : (entries : List (ℕ × Option (List ℕ))) → AreRising entries → AllByRecursion IsEntry entries
    → map_text (value_at entries) ≡ flat_map entry_line entries
map_text-entries entries rising all = lines_of (2 ^ 128) 0 entries rising (all_among entries (2 ^ 128) (keys_within entries all))
