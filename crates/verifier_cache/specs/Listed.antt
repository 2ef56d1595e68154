-- The entries of a cache of either kind, as it lists them: each with its slot.
use Rattle.std.specs.Prelude.{ℕ, suc, ◌<◌, ◌≤◌, List, [], ◌∷◌, map, Some, None}
use Rattle.verifier_cache.specs.declared.entry.Entry.{Entry}
use Rattle.verifier_cache.specs.declared.listed.ListedEntry.{ListedEntry}
use Rattle.verifier_cache.specs.Slots.{Slots, with_slot}

-- the entries without their slots
abbrev pub entries_in : List ListedEntry → List Entry
entries_in listed = map (λ one. one.entry) listed

-- the entries in slots, by rising slot, where the first of these slots has a number
abbrev pub listed_from : ℕ → Slots → List ListedEntry
listed_from slot [] = []
listed_from slot (None ∷ slots) = listed_from (suc slot) slots
listed_from slot (Some entry ∷ slots) = record { slot = slot; entry = entry } ∷ listed_from (suc slot) slots

-- slots with these entries put into theirs, one after another
abbrev pub with_listed : Slots → List ListedEntry → Slots
with_listed slots [] = slots
with_listed slots (one ∷ more) = with_listed (with_slot slots one.slot (Some one.entry)) more

-- the slots rise, from one on, and lie below a count
abbrev pub SlotsRise : ℕ → ℕ → List ListedEntry → Type 0
SlotsRise slot count [] = Unit {0}
SlotsRise slot count (one ∷ more) = (slot ≤ one.slot) × (one.slot < count) × SlotsRise (suc one.slot) count more
