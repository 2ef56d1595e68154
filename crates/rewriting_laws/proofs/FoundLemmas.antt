-- What is looked up by path, by slot.
use Rattle.std.proofs.Common.{◌≡◌, ℕ, zero, suc, ◌<◌, ◌≤◌, Bool, true, false, not, List, [], ◌∷◌, length, set, Option, Some, None, IsSome, Result, Ok, option_map, if◌then◌else◌, refl, sym, ◌∙◌, ap, subst, arith}
use Rattle.std.proofs.lemmas.Bool.{lt-ltb}
use Rattle.std.proofs.lemmas.Option.{none-some}
use Rattle.std.proofs.lemmas.List.{map-set, length-map, set-get_or}
use Rattle.tree_keys.specs.Path.{same_path}
use Rattle.tree_keys.proofs.PathLaws.{same_path-true}
use Rattle.lamport_clocks.specs.declared.clock.ClockFault.{ClockFault}
use Rattle.base_words.specs.Steps.{test, need, and_then}
use Rattle.record_text.specs.declared.refusal.Refusal.{Refusal}
use Rattle.slot_rewriting.specs.Rewriting.{SlotPaths, slot_of, lowest_empty, HasSlot, HasNoSlot, HasEmpty}
use Rattle.slot_rewriting.specs.Indexed.{path_in, taken}
use Rattle.slot_rewriting.proofs.SlotPathLaws.{path_in-lowest}
use Rattle.verifier_cache.specs.declared.entry.Entry.{Entry}
use Rattle.verifier_cache.specs.Cache.{entry_of, replaced}
use Rattle.verifier_cache.specs.Slots.{Slots, is_slot, entry_at, with_slot}
use Rattle.verifier_cache.proofs.EntriesLaws.{entry_of-changed, entry_of-changed_other}
use Rattle.verifier_commands.specs.SlotTransition.{with_pair}
use Rattle.verifier_commands.specs.Transition.{timed}
use Rattle.soundness.specs.SlotHistory.{standing_in}
use Rattle.rewriting_laws.specs.Alike.{path_of_slot, paths_in}

-- ---- a step whose tests aren't met

pub test-on : {E X : Type 0} (b : Bool) (refusal : E) (next : Result X E) → b ≡ false → test b refusal next ≡ next
test-on b refusal next is = ap (λ (x : Bool). test x refusal next) is

pub need-on : {A E X : Type 0} (option : Option A) (refusal : E) (next : A → Result X E) (value : A) → option ≡ Some value → need option refusal next ≡ next value
need-on {A = A} option refusal next value is = ap (λ (x : Option A). need x refusal next) is

pub and_then-on : {A E X : Type 0} (result : Result A E) (next : A → Result X E) (value : A) → result ≡ Ok value → and_then result next ≡ next value
and_then-on {A = A} {E = E} result next value is = ap (λ (x : Result A E). and_then x next) is

pub timed-on : {A X : Type 0} (result : Result A ClockFault) (next : A → Result X Refusal) (value : A) → result ≡ Ok value → timed result next ≡ next value
timed-on {A = A} result next value is = ap (λ (x : Result A ClockFault). timed x next) is

-- ---- by path and by slot

-- the entry of a path stands in the path's slot
pub in_its_slot : (k : List Bool) (slots : Slots) (e : Entry) → entry_of k (standing_in slots) ≡ Some e → entry_at slots (slot_of k (paths_in slots)) ≡ Some e
in_its_slot k [] e is = absurd (none-some e is)
in_its_slot k (None ∷ slots) e is = in_its_slot k slots e is
in_its_slot k (Some x ∷ slots) e is = go (λ further. in_its_slot k slots e further) (same_path k x.path) is
  where
    go : (entry_of k (standing_in slots) ≡ Some e → entry_at slots (slot_of k (paths_in slots)) ≡ Some e) → (b : Bool)
        → (if b then Some x else entry_of k (standing_in slots)) ≡ Some e → entry_at (Some x ∷ slots) (if b then 0 else suc (slot_of k (paths_in slots))) ≡ Some e
    go further true is = is
    go further false is = further is

-- what isn't there stands in no slot
pub in_no_slot : (k : List Bool) (slots : Slots) → entry_of k (standing_in slots) ≡ None → HasNoSlot k (paths_in slots)
in_no_slot k [] is = omega arith
in_no_slot k (None ∷ slots) is = omega (arith, in_no_slot k slots is)
in_no_slot k (Some x ∷ slots) is = go (λ further. in_no_slot k slots further) (same_path k x.path) is
  where
    go : (entry_of k (standing_in slots) ≡ None → HasNoSlot k (paths_in slots)) → (b : Bool)
        → (if b then Some x else entry_of k (standing_in slots)) ≡ None → suc (length (paths_in slots)) ≤ (if b then 0 else suc (slot_of k (paths_in slots)))
    go further true is = absurd (none-some x (sym is))
    go further false is = omega (arith, further is)

-- a slot that isn't empty is one of those that there are
pub entry-within : (slots : Slots) (slot : ℕ) (e : Entry) → entry_at slots slot ≡ Some e → slot < length slots
entry-within [] slot e is = absurd (none-some e is)
entry-within (x ∷ slots) zero e is = omega arith
entry-within (x ∷ slots) (suc slot) e is = omega (arith, entry-within slots slot e is)

-- the path of what stands in a slot
pub path_in-entry : (slots : Slots) (slot : ℕ) → path_in (paths_in slots) slot ≡ path_of_slot (entry_at slots slot)
path_in-entry [] slot = refl
path_in-entry (x ∷ slots) zero = refl
path_in-entry (x ∷ slots) (suc slot) = path_in-entry slots slot

-- so many slots
pub length-paths_in : (slots : Slots) → length (paths_in slots) ≡ length slots
length-paths_in slots = length-map slots path_of_slot

-- a path that is there has a slot
pub has_slot : (k : List Bool) (slots : Slots) (e : Entry) → entry_of k (standing_in slots) ≡ Some e → HasSlot k (paths_in slots)
has_slot k slots e is = omega (arith, entry-within slots (slot_of k (paths_in slots)) e (in_its_slot k slots e is), length-paths_in slots)

-- ---- an empty slot

-- where not all are taken one is empty
pub one_empty : (paths : SlotPaths) → taken paths < length paths → HasEmpty paths
one_empty [] fewer = fewer
one_empty (None ∷ paths) fewer = omega arith
one_empty (Some path ∷ paths) fewer = omega (arith, one_empty paths (omega (arith, fewer)))

none_of : (slot : Option Entry) → path_of_slot slot ≡ None → slot ≡ None
none_of None is = refl
none_of (Some e) is = absurd (none-some e.path (sym is))

-- the lowest empty slot is empty
pub lowest_is_empty : (slots : Slots) → HasEmpty (paths_in slots) → entry_at slots (lowest_empty (paths_in slots)) ≡ None
lowest_is_empty slots has = none_of _ (sym (path_in-entry slots (lowest_empty (paths_in slots))) ∙ path_in-lowest (paths_in slots) has)

-- and is one of those that there are
pub lowest_is_slot : (slots : Slots) → HasEmpty (paths_in slots) → not (is_slot slots (lowest_empty (paths_in slots))) ≡ false
lowest_is_slot slots has =
    ap not (lt-ltb (lowest_empty (paths_in slots)) (length slots) (omega (arith, has, length-paths_in slots)))

-- ---- slots that are written

-- an entry of the same path in a slot leaves the paths
same_there : (paths : SlotPaths) (slot : ℕ) (path : List Bool) → path_in paths slot ≡ Some path → set paths slot (Some path) ≡ paths
same_there paths slot path is = ap (set paths slot) (sym is) ∙ set-get_or paths slot None

pub paths-replaced : (slots : Slots) (slot : ℕ) (old new : Entry) → entry_at slots slot ≡ Some old → new.path ≡ old.path
    → paths_in (with_slot slots slot (Some new)) ≡ paths_in slots
paths-replaced slots slot old new is same =
    map-set path_of_slot slots slot (Some new)
    ∙ (ap (λ (p : List Bool). set (paths_in slots) slot (Some p)) same
    ∙ same_there (paths_in slots) slot old.path (path_in-entry slots slot ∙ ap path_of_slot is))

pub paths-written : (slots : Slots) (slot : ℕ) (x : Option Entry) → paths_in (with_slot slots slot x) ≡ set (paths_in slots) slot (path_of_slot x)
paths-written slots slot x = map-set path_of_slot slots slot x

-- a parent in its slot, and a child in another
pub paths-pair : (slots : Slots) (holders slot : ℕ) (old parent : Entry) (x : Option Entry) → entry_at slots holders ≡ Some old → parent.path ≡ old.path
    → paths_in (with_pair slots holders parent slot x) ≡ set (paths_in slots) slot (path_of_slot x)
paths-pair slots holders slot old parent x is same =
    paths-written (with_slot slots holders (Some parent)) slot x
    ∙ ap (λ (paths : SlotPaths). set paths slot (path_of_slot x)) (paths-replaced slots holders old parent is same)

-- ---- entries by path

-- what is there is there still where another entry is replaced
pub there-replaced : (k : List Bool) (xs : List Entry) (new e : Entry) → entry_of k xs ≡ Some e → IsSome (entry_of k (replaced new xs))
there-replaced k xs new e is = go (same_path k new.path) refl
  where
    go : (b : Bool) → same_path k new.path ≡ b → IsSome (entry_of k (replaced new xs))
    go true same =
        let path : k ≡ new.path = same_path-true k new.path same in
        let found : entry_of new.path (replaced new xs) ≡ option_map (λ (old : Entry). new) (entry_of new.path xs) = entry_of-changed new.path (λ old. new) xs (λ old own. refl) in
        subst (λ (p : List Bool). IsSome (entry_of p (replaced new xs))) (sym path)
        (subst (λ (o : Option Entry). IsSome o) (sym (found ∙ ap (option_map (λ (old : Entry). new)) (ap (λ (p : List Bool). entry_of p xs) (sym path) ∙ is))) refl)
    go false apart = subst (λ (o : Option Entry). IsSome o) (sym (entry_of-changed_other k new.path (λ old. new) xs (λ old own. refl) apart ∙ is)) refl
