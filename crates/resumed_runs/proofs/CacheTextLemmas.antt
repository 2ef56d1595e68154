-- Caches whose entries have texts stay such, where entries come in, go out and are changed.
use Rattle.std.proofs.Common.{◌≡◌, ℕ, zero, suc, ◌<◌, ◌≤◌, Bool, true, false, nat_le, List, [], ◌∷◌, ◌++◌, length, length-append, Option, Some, None, if◌then◌else◌, subst, ◌∙◌, arith}
use Rattle.std.specs.List.{AllByRecursion}
use Rattle.std.proofs.lemmas.Bool.Decides.{nat_tests}
use Rattle.std.proofs.lemmas.List.{length-set}
use Rattle.std.proofs.lemmas.Option.{none-some, same_Some}
use Rattle.tree_keys.specs.Path.{same_path}
use Rattle.verifier_cache.specs.declared.entry.Entry.{Entry}
use Rattle.verifier_cache.specs.Cache.{Held, entry_of, without, replaced}
use Rattle.verifier_cache.specs.Slots.{Slots, entry_at, with_slot}
use Rattle.verifier_cache.proofs.EntriesLaws.{length-changed}
use Rattle.verifier_commands.specs.VerifierState.{AnyCache, by_path, by_slot}
use Rattle.resumed_runs.proofs.EntryTextLemmas.{HasText}

-- the entries have texts
abbrev pub HaveTexts : Bool → ℕ → List Entry → Type 0
HaveTexts wide longest entries = AllByRecursion (HasText wide longest) entries

-- what a slot holds has a text, if it holds something
abbrev pub HasTextThere : Bool → ℕ → Option Entry → Type 0
HasTextThere wide longest None = Unit {0}
HasTextThere wide longest (Some entry) = HasText wide longest entry

-- A cache by path has this room, and no more entries, which have texts.
pub record IsHeldWell (wide : Bool) (longest room : ℕ) (held : Held) : Type 0 where
  pub room_is : held.room ≡ room
  pub within : length held.entries ≤ room
  pub texts : HaveTexts wide longest held.entries

-- There are so many slots, and what they hold has texts.
pub record AreSlotsWell (wide : Bool) (longest count : ℕ) (slots : Slots) : Type 0 where
  pub count_is : length slots ≡ count
  pub texts : AllByRecursion (HasTextThere wide longest) slots

-- a cache of the kind of a bundle's commands is so
abbrev pub IsCacheWell : Bool → Bool → ℕ → ℕ → AnyCache → Type 0
IsCacheWell true wide longest size (by_path held) = IsHeldWell wide longest size held
IsCacheWell true wide longest size (by_slot slots) = ⊥
IsCacheWell false wide longest size (by_path held) = ⊥
IsCacheWell false wide longest size (by_slot slots) = AreSlotsWell wide longest size slots

module _ (wide : Bool) (longest : ℕ) where
  -- ---- entries by path

  -- What is found has a text.
  pub found_text : (path : List Bool) (entries : List Entry) (entry : Entry) → HaveTexts wide longest entries → entry_of path entries ≡ Some entry → HasText wide longest entry
  found_text path [] entry texts is = absurd (none-some entry is)
  found_text path (first ∷ entries) entry texts is = go (same_path path first.path) (λ further. found_text path entries entry texts.1 further) is
    where
      go : (b : Bool) → (entry_of path entries ≡ Some entry → HasText wide longest entry) → (if b then Some first else entry_of path entries) ≡ Some entry → HasText wide longest entry
      go true further is = subst (HasText wide longest) (same_Some first entry is) texts.0
      go false further is = further is

  -- An entry in the place of that of its path.
  pub texts-replaced : (new : Entry) (entries : List Entry) → HasText wide longest new → HaveTexts wide longest entries → HaveTexts wide longest (replaced new entries)
  texts-replaced new [] own texts = tt
  texts-replaced new (first ∷ entries) own texts = go (same_path new.path first.path) (texts-replaced new entries own texts.1)
    where
      go : (b : Bool) → HaveTexts wide longest (replaced new entries) → HaveTexts wide longest (if b then new ∷ entries else first ∷ replaced new entries)
      go true further = (own, texts.1)
      go false further = (texts.0, further)

  -- One entry fewer.
  pub texts-without : (path : List Bool) (entries : List Entry) → HaveTexts wide longest entries → HaveTexts wide longest (without path entries)
  texts-without path [] texts = tt
  texts-without path (first ∷ entries) texts = go (same_path path first.path) (texts-without path entries texts.1)
    where
      go : (b : Bool) → HaveTexts wide longest (without path entries) → HaveTexts wide longest (if b then entries else first ∷ without path entries)
      go true further = texts.1
      go false further = (texts.0, further)

  -- One entry more.
  pub texts-append : (entries : List Entry) (new : Entry) → HaveTexts wide longest entries → HasText wide longest new → HaveTexts wide longest (entries ++ new ∷ [])
  texts-append [] new texts own = (own, tt)
  texts-append (first ∷ entries) new texts own = (texts.0, texts-append entries new texts.1 own)

  -- ---- slots

  -- What a slot holds has a text.
  pub slot_text : (slots : Slots) (slot : ℕ) (entry : Entry) → AllByRecursion (HasTextThere wide longest) slots → entry_at slots slot ≡ Some entry → HasText wide longest entry
  slot_text [] slot entry texts is = absurd (none-some entry is)
  slot_text (first ∷ slots) zero entry texts is = subst (HasTextThere wide longest) is texts.0
  slot_text (first ∷ slots) (suc slot) entry texts is = slot_text slots slot entry texts.1 is

  -- Another thing in a slot.
  pub texts-with_slot : (slots : Slots) (slot : ℕ) (new : Option Entry) → AllByRecursion (HasTextThere wide longest) slots → HasTextThere wide longest new
      → AllByRecursion (HasTextThere wide longest) (with_slot slots slot new)
  texts-with_slot [] slot new texts own = tt
  texts-with_slot (first ∷ slots) zero new texts own = (own, texts.1)
  texts-with_slot (first ∷ slots) (suc slot) new texts own = (texts.0, texts-with_slot slots slot new texts.1 own)

-- the entries are no more where one is taken out
pub fewer-without : (path : List Bool) (entries : List Entry) → length (without path entries) ≤ length entries
fewer-without path [] = omega arith
fewer-without path (first ∷ entries) = go (same_path path first.path) (fewer-without path entries)
  where
    go : (b : Bool) → length (without path entries) ≤ length entries → length (if b then entries else first ∷ without path entries) ≤ suc (length entries)
    go true further = omega arith
    go false further = omega (arith, further)

-- and as many where one is replaced
pub same-replaced : (new : Entry) (entries : List Entry) → length (replaced new entries) ≡ length entries
same-replaced new entries = length-changed new.path (λ old. new) entries

module _ (wide : Bool) (longest size : ℕ) where
  -- ---- a cache by path

  -- it has room for one entry more
  pub room_left : (room count : ℕ) → room ≡ size → nat_le room count ≡ false → count < size
  room_left room count is full = grind (arith, nat_tests)

  -- With one entry more.
  pub held-append : (held : Held) (new : Entry) → IsHeldWell wide longest size held → HasText wide longest new → length held.entries < size
      → IsHeldWell wide longest size (record held { entries = held.entries ++ new ∷ [] })
  held-append held new well own room = record {
    room_is = well.room_is;
    within = omega (arith, room, length-append held.entries (new ∷ []));
    texts = texts-append wide longest held.entries new well.texts own;
  }

  -- With another entry in the place of one.
  pub held-replaced : (held : Held) (new : Entry) → IsHeldWell wide longest size held → HasText wide longest new → IsHeldWell wide longest size (record held { entries = replaced new held.entries })
  held-replaced held new well own = record {
    room_is = well.room_is;
    within = omega (arith, well.within, same-replaced new held.entries);
    texts = texts-replaced wide longest new held.entries own well.texts;
  }

  -- With one entry fewer.
  pub held-without : (held : Held) (path : List Bool) → IsHeldWell wide longest size held → IsHeldWell wide longest size (record held { entries = without path held.entries })
  held-without held path well = record {
    room_is = well.room_is;
    within = omega (arith, well.within, fewer-without path held.entries);
    texts = texts-without wide longest path held.entries well.texts;
  }

  -- ---- slots

  -- With another thing in a slot.
  pub slots-with : (slots : Slots) (slot : ℕ) (new : Option Entry) → AreSlotsWell wide longest size slots → HasTextThere wide longest new → AreSlotsWell wide longest size (with_slot slots slot new)
  slots-with slots slot new well own = record {
    count_is = length-set slots slot new ∙ well.count_is;
    texts = texts-with_slot wide longest slots slot new well.texts own;
  }
