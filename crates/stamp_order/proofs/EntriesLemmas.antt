-- Entries stay entries where one comes or goes, and rise.
use Rattle.std.proofs.Common.{◌≡◌, ℕ, ◌<◌, ◌^◌, Bool, true, false, cond, List, [], ◌∷◌, Option, Some, None, Bor, is_some, true≢false, sym, ◌∙◌, nat_lt, ◌==◌, refl, ap, arith}
use Rattle.std.proofs.lemmas.Bool.Decides.{nat_tests}
use Rattle.std.specs.List.{AllByRecursion}
use Rattle.std.specs.List.Sorted.{IsStrictlySortedBy}
use Rattle.std.specs.Option.{option_map}
use Rattle.std.specs.Ordering.{nat_cmp, match_ordering}
use Rattle.std.specs.declared.cmp.Ordering.{Ordering}
use Rattle.std.specs.declared.cmp.Ordering.TheVariants.{Less, Equal, Greater}
use Rattle.std.specs.BTreeMap.{insert_entry}
use Rattle.std.specs.Map.{keys_of, remove_entry}
use Rattle.stamp_order.specs.PlainMap.{AreRising, IsEntry}

-- a value that is there
pub some-mapped : (found : Option (Bor (List ℕ))) (value : Option (List ℕ)) (answer : Bool) → option_map (λ bytes. bytes.now) found ≡ value
    → answer ≡ is_some found → answer ≡ true → is_some value ≡ true
some-mapped None value answer same is there = absurd (true≢false (sym there ∙ is))
some-mapped (Some bytes) value answer same is there = ap is_some (sym same)

-- one more
pub entries-inserted : (entries : List (ℕ × Option (List ℕ))) (key : ℕ) (value : Option (List ℕ)) → key < 2 ^ 128 → is_some value ≡ true
    → AllByRecursion IsEntry entries → AllByRecursion IsEntry (insert_entry nat_cmp entries key value)
entries-inserted [] key value within some all = ((within, some), tt)
entries-inserted (entry ∷ entries) key value within some all =
    go (nat_cmp key entry.0) (entries-inserted entries key value within some all.1)
  where
    go : (order : Ordering) → AllByRecursion IsEntry (insert_entry nat_cmp entries key value)
        → AllByRecursion IsEntry (match_ordering order ((key, value) ∷ entry ∷ entries) ((entry.0, value) ∷ entries) (entry ∷ insert_entry nat_cmp entries key value))
    go Less more = ((within, some), all)
    go Equal more = ((all.0.0, some), all.1)
    go Greater more = (all.0, more)

-- one less
pub entries-removed : (test : ℕ → Bool) (entries : List (ℕ × Option (List ℕ))) → AllByRecursion IsEntry entries
    → AllByRecursion IsEntry (remove_entry test entries)
entries-removed test [] all = tt
entries-removed test (entry ∷ entries) all = go (test entry.0) (entries-removed test entries all.1)
  where
    go : (b : Bool) → AllByRecursion IsEntry (remove_entry test entries) → AllByRecursion IsEntry (cond b entries (entry ∷ remove_entry test entries))
    go true less = all.1
    go false less = (all.0, less)

-- ---- in the order of their keys

nat_less : (a b : ℕ) → nat_cmp a b ≡ Less → a < b
nat_less a b is = go (nat_lt a b) refl is
  where
    go : (below : Bool) → nat_lt a b ≡ below → cond below Less (cond (a == b) Equal Greater) ≡ Less → a < b
    go true below is = grind (arith, nat_tests, below)
    go false below is = other (a == b) is
      where
        other : (same : Bool) → cond same Equal Greater ≡ Less → a < b
        other true is = absurd (cc)
        other false is = absurd (cc)

all-above : (key : ℕ) (entries : List (ℕ × Option (List ℕ))) → AllByRecursion (λ later. nat_cmp key later ≡ Less) (keys_of entries)
    → AllByRecursion (λ later. key < later.0) entries
all-above key [] all = tt
all-above key (entry ∷ entries) all = (nat_less key entry.0 all.0, all-above key entries all.1)

pub rising-ordered : (entries : List (ℕ × Option (List ℕ))) → IsStrictlySortedBy nat_cmp (keys_of entries) → AreRising entries
unfolding IsStrictlySortedBy
rising-ordered [] ordered = tt
rising-ordered (entry ∷ entries) ordered = (all-above entry.0 entries ordered.0, rising-ordered entries ordered.1)
