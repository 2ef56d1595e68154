-- A cache as slots, each empty or with one entry. A path may stand in two of them.
use Rattle.std.specs.Prelude.{ℕ, nat_lt, Bool, List, length, get_or, set, replicate, Option, None}
use Rattle.verifier_cache.specs.declared.entry.Entry.{Entry}

-- what each slot holds
abbrev pub Slots : Type 0
Slots = List (Option Entry)

-- there is a slot of this number
abbrev pub is_slot : Slots → ℕ → Bool
is_slot slots slot = nat_lt slot (length slots)

-- the entry in a slot, if there is such a slot and it isn't empty
abbrev pub entry_at : Slots → ℕ → Option Entry
entry_at slots slot = get_or slots slot None

-- the slots with an entry in one of them, or with that one empty
abbrev pub with_slot : Slots → ℕ → Option Entry → Slots
with_slot slots slot entry = set slots slot entry

-- so many empty slots
abbrev pub empty_slots : ℕ → Slots
empty_slots count = replicate count None
