-- The entries of a plain map as a function of its keys, and which entries a map has.
use Rattle.std.specs.Prelude.{◌≡◌, ℕ, ◌<◌, ◌^◌, List, [], ◌∷◌, Option, None, is_some, true, ⊤}
use Rattle.std.specs.List.{AllByRecursion}
use Rattle.std.specs.Option.{unwrap_or}
use Rattle.std.specs.Ordering.{nat_cmp}
use Rattle.std.specs.Map.{lookup}
use Rattle.std.specs.BTreeMap.{is_at}

-- the entries as a function: the value of a key, none where it has no entry
abbrev pub value_at : List (ℕ × Option (List ℕ)) → ℕ → Option (List ℕ)
value_at entries key = unwrap_or (lookup (is_at (nat_cmp key)) entries) None

-- an entry of a key, which has a value
abbrev pub IsEntry : ℕ × Option (List ℕ) → Type 0
IsEntry entry = (entry.0 < 2 ^ 128) × (is_some entry.1 ≡ true)

-- each key is below all behind it
abbrev pub AreRising : List (ℕ × Option (List ℕ)) → Type 0
AreRising [] = ⊤
AreRising (entry ∷ entries) = AllByRecursion (λ later. entry.0 < later.0) entries × AreRising entries
