-- Another slot stays as it was where an entry is put in the place of one that is there; and what tells that two data
-- values are one is the test.
use Rattle.std.proofs.Common.{◌≡◌, ◌≢◌, ◌↔◌, ℕ, zero, suc, ◌-◌, ◌≤◌, Bool, true, List, [], ◌∷◌, Option, Some, None, IsSome, IsNone, is_some, sym, ap, subst, ◌∙◌, arith}
use Rattle.std.proofs.lemmas.Bool.{false≢true}
use Rattle.std.proofs.lemmas.List.{get_or-set_other}
use Rattle.record_text.specs.declared.value.Value.TheVariants as values
use Rattle.record_text.specs.Same.{same_blob}
use Rattle.record_text.proofs.SameTestLaws.{tells_same_value}
use Rattle.verifier_cache.specs.declared.entry.Entry.{Entry}
use Rattle.verifier_cache.specs.Slots.{Slots, entry_at, with_slot, empty_slots}
use Rattle.verifier_commands.specs.Outcome.{blob_of}

-- ---- slots

-- slots that don't hold the same are not the same slot, so one stays where the other changes
other_stays : (slots : Slots) (slot other : ℕ) (entry : Option Entry) → entry_at slots slot ≢ entry_at slots other
    → entry_at (with_slot slots other entry) slot ≡ entry_at slots slot
other_stays slots slot other entry differ =
    get_or-set_other slots other slot entry None (λ same. differ (ap (entry_at slots) same))

none_or_some : (a b : Option Entry) → IsNone a → IsSome b → a ≢ b
none_or_some a b none some same =
    false≢true (sym none ∙ (ap (λ (found : Option Entry). is_some found) same ∙ some))

-- an empty slot stays so
pub empty_stays : (slots : Slots) (slot other : ℕ) (entry : Entry) → IsNone (entry_at slots slot) → IsSome (entry_at slots other)
    → IsNone (entry_at (with_slot slots other (Some entry)) slot)
empty_stays slots slot other entry none some =
    subst (λ (found : Option Entry). IsNone found)
    (sym (other_stays slots slot other (Some entry) (none_or_some (entry_at slots slot) (entry_at slots other) none some))) none

some_differ : (slots : Slots) (slot other : ℕ) (child holder : Entry) → entry_at slots slot ≡ Some child → entry_at slots other ≡ Some holder → child.path ≢ holder.path
    → entry_at slots slot ≢ entry_at slots other
some_differ slots slot other child holder own others apart same =
    let one : Some child ≡ Some holder = sym own ∙ (same ∙ others) in
    apart (ap (λ (found : Option Entry). path_in found) one)
  where
    path_in : Option Entry → List Bool
    path_in None = []
    path_in (Some entry) = entry.path

-- a slot with an entry of another path stays so
pub taken_stays : (slots : Slots) (slot other : ℕ) (child holder after : Entry) → entry_at slots slot ≡ Some child → entry_at slots other ≡ Some holder
    → after.path ≡ holder.path → child.path ≢ after.path
    → entry_at (with_slot slots other (Some after)) slot ≡ Some child
taken_stays slots slot other child holder after own others same apart =
    other_stays slots slot other (Some after) (some_differ slots slot other child holder own others (λ is. apart (is ∙ sym same)))
    ∙ own

-- the first of so many empty slots, with an entry in it
pub first_taken : (count : ℕ) (entry : Entry) → 1 ≤ count
    → with_slot (empty_slots count) 0 (Some entry) ≡ Some entry ∷ empty_slots (count - 1)
first_taken zero entry some = absurd (omega (arith, some))
first_taken (suc count) entry some =
    let less : count ≡ suc count - 1 = omega arith in
    ap (λ (n : ℕ). Some entry ∷ empty_slots n) less

pub ruleset opening_view = (first_taken)

pub ruleset slot_view = (empty_stays, taken_stays)

-- ---- data values

-- an answer that tells whether two data values are one is the test
pub tells_same_blob : (answer : Bool) (a b : Option (List ℕ)) → (answer ≡ true) ↔ (a ≡ b) → answer ≡ same_blob a b
tells_same_blob answer a b told =
    tells_same_value answer (values.Blob a) (values.Blob b)
    (λ is. ap (λ (x : Option (List ℕ)). values.Blob x) (told.0 is), λ same. told.1 (ap blob_of same))
