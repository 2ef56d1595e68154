-- The entries that stand in slots, once one is put in the place of another, comes in or goes out, where no path stands in
-- two slots.
use Rattle.std.proofs.Common.{◌≡◌, ◌≢◌, ℕ, zero, suc, ◌<◌, Bool, true, false, List, [], ◌∷◌, length, Option, Some, None, is_some, IsNone, if◌then◌else◌, refl, sym, ◌∙◌, ap, subst, arith}
use Rattle.std.proofs.lemmas.Bool.{false≢true}
use Rattle.std.proofs.lemmas.Option.{none-some, same_Some}
use Rattle.std.proofs.lemmas.List.{get_or-set_other, length-set}
use Rattle.tree_keys.specs.Path.{same_path}
use Rattle.tree_keys.proofs.PathLaws.{same_path-self, same_path-true, same_path-apart}
use Rattle.verifier_cache.specs.declared.entry.Entry.{Entry}
use Rattle.verifier_cache.specs.Cache.{entry_of, without, replaced, AreDistinct}
use Rattle.verifier_cache.specs.Slots.{Slots, entry_at, with_slot}
use Rattle.verifier_commands.specs.SlotTransition.{with_pair}
use Rattle.soundness.specs.SlotHistory.{standing_in}
use Rattle.soundness.proofs.ShownLemmas.{apart-sym, shown-replaced, distinct-replaced, absent-replaced}

-- ---- one entry and the others

-- a path is its own
own_path : (p q : List Bool) → p ≡ q → same_path p q ≡ true
own_path p q is = subst (λ (r : List Bool). same_path p r ≡ true) is (same_path-self p)

-- the path of an entry that stands further on isn't that of the first
apart_from : (k : List Bool) (x : Entry) (xs : List Entry) (e : Entry) → IsNone (entry_of x.path xs) → entry_of k xs ≡ Some e
    → same_path k x.path ≡ false
apart_from k x xs e none found =
    same_path-apart k x.path
    (λ same. false≢true (sym none ∙ ap (λ (o : Option Entry). is_some o) (ap (λ (p : List Bool). entry_of p xs) (sym same) ∙ found)))

-- a path that isn't among entries is neither the first's nor further on
absent_from : (k : List Bool) (x : Entry) (xs : List Entry) → IsNone (entry_of k (x ∷ xs)) → (same_path k x.path ≡ false) × IsNone (entry_of k xs)
absent_from k x xs = go (same_path k x.path)
  where
    go : (b : Bool) → IsNone (if b then Some x else entry_of k xs) → (b ≡ false) × IsNone (entry_of k xs)
    go true none = absurd (false≢true (sym none))
    go false none = (refl, none)

-- ---- what a slot holds

-- What a slot holds is found by its path.
pub found_standing : (slots : Slots) (slot : ℕ) (e : Entry) → AreDistinct (standing_in slots) → entry_at slots slot ≡ Some e
    → entry_of e.path (standing_in slots) ≡ Some e
found_standing [] slot e distinct is = absurd (none-some e is)
found_standing (None ∷ slots) zero e distinct is = absurd (none-some e is)
found_standing (None ∷ slots) (suc slot) e distinct is = found_standing slots slot e distinct is
found_standing (Some x ∷ slots) zero e distinct is =
    let here : x ≡ e = same_Some x e is in
    ap (λ (b : Bool). if b then Some x else entry_of e.path (standing_in slots))
    (own_path e.path x.path (sym (ap (λ (y : Entry). y.path) here))) ∙ is
found_standing (Some x ∷ slots) (suc slot) e distinct is =
    let further = found_standing slots slot e distinct.1 is in
    ap (λ (b : Bool). if b then Some x else entry_of e.path (standing_in slots))
    (apart_from e.path x (standing_in slots) e distinct.0 further) ∙ further

-- Another entry of its path is put in its place.
pub standing-replaced : (slots : Slots) (slot : ℕ) (old new : Entry) → AreDistinct (standing_in slots) → entry_at slots slot ≡ Some old
    → new.path ≡ old.path → standing_in (with_slot slots slot (Some new)) ≡ replaced new (standing_in slots)
standing-replaced [] slot old new distinct is same = absurd (none-some old is)
standing-replaced (None ∷ slots) zero old new distinct is same = absurd (none-some old is)
standing-replaced (None ∷ slots) (suc slot) old new distinct is same = standing-replaced slots slot old new distinct is same
standing-replaced (Some x ∷ slots) zero old new distinct is same =
    let here : x ≡ old = same_Some x old is in
    sym (ap (λ (b : Bool). if b then new ∷ standing_in slots else x ∷ replaced new (standing_in slots))
    (own_path new.path x.path (same ∙ sym (ap (λ (y : Entry). y.path) here))))
standing-replaced (Some x ∷ slots) (suc slot) old new distinct is same =
    let apart = apart_from old.path x (standing_in slots) old distinct.0 (found_standing slots slot old distinct.1 is) in
    ap (λ (more : List Entry). x ∷ more) (standing-replaced slots slot old new distinct.1 is same)
    ∙ sym (ap (λ (b : Bool). if b then new ∷ standing_in slots else x ∷ replaced new (standing_in slots))
    (ap (λ (p : List Bool). same_path p x.path) same ∙ apart))

-- It is taken out.
pub standing-without : (slots : Slots) (slot : ℕ) (e : Entry) → AreDistinct (standing_in slots) → entry_at slots slot ≡ Some e
    → standing_in (with_slot slots slot None) ≡ without e.path (standing_in slots)
standing-without [] slot e distinct is = absurd (none-some e is)
standing-without (None ∷ slots) zero e distinct is = absurd (none-some e is)
standing-without (None ∷ slots) (suc slot) e distinct is = standing-without slots slot e distinct is
standing-without (Some x ∷ slots) zero e distinct is =
    let here : x ≡ e = same_Some x e is in
    sym (ap (λ (b : Bool). if b then standing_in slots else x ∷ without e.path (standing_in slots))
    (own_path e.path x.path (sym (ap (λ (y : Entry). y.path) here))))
standing-without (Some x ∷ slots) (suc slot) e distinct is =
    let apart = apart_from e.path x (standing_in slots) e distinct.0 (found_standing slots slot e distinct.1 is) in
    ap (λ (more : List Entry). x ∷ more) (standing-without slots slot e distinct.1 is)
    ∙ sym (ap (λ (b : Bool). if b then standing_in slots else x ∷ without e.path (standing_in slots)) apart)

-- ---- an entry comes into an empty slot

-- What is then found of each path.
pub shown-put : (j : List Bool) (slots : Slots) (slot : ℕ) (e : Entry) → slot < length slots → IsNone (entry_at slots slot)
    → IsNone (entry_of e.path (standing_in slots))
    → entry_of j (standing_in (with_slot slots slot (Some e))) ≡ (if same_path e.path j then Some e else entry_of j (standing_in slots))
shown-put j [] slot e within empty none = absurd (omega (arith, within))
shown-put j (None ∷ slots) zero e within empty none = go (same_path e.path j) refl
  where
    go : (b : Bool) → same_path e.path j ≡ b
        → (if same_path j e.path then Some e else entry_of j (standing_in slots)) ≡ (if b then Some e else entry_of j (standing_in slots))
    go true same =
        ap (λ (b : Bool). if b then Some e else entry_of j (standing_in slots)) (own_path j e.path (sym (same_path-true e.path j same)))
    go false apart = ap (λ (b : Bool). if b then Some e else entry_of j (standing_in slots)) (apart-sym e.path j apart)
shown-put j (None ∷ slots) (suc slot) e within empty none = shown-put j slots slot e (omega (arith, within)) empty none
shown-put j (Some x ∷ slots) zero e within empty none = absurd (false≢true (sym empty))
shown-put j (Some x ∷ slots) (suc slot) e within empty none =
    let absent = absent_from e.path x (standing_in slots) none in
    ap (λ (o : Option Entry). if same_path j x.path then Some x else o) (shown-put j slots slot e (omega (arith, within)) empty absent.1)
    ∙ go absent.0 (same_path e.path j) refl
  where
    go : same_path e.path x.path ≡ false → (b : Bool) → same_path e.path j ≡ b
        → (if same_path j x.path then Some x else if b then Some e else entry_of j (standing_in slots))
        ≡ (if b then Some e else if same_path j x.path then Some x else entry_of j (standing_in slots))
    go other true same =
        ap (λ (b : Bool). if b then Some x else Some e) (subst (λ (p : List Bool). same_path p x.path ≡ false) (same_path-true e.path j same) other)
    go other false apart = refl

-- The entries are distinct then.
pub distinct-put : (slots : Slots) (slot : ℕ) (e : Entry) → slot < length slots → IsNone (entry_at slots slot)
    → IsNone (entry_of e.path (standing_in slots)) → AreDistinct (standing_in slots)
    → AreDistinct (standing_in (with_slot slots slot (Some e)))
distinct-put [] slot e within empty none distinct = absurd (omega (arith, within))
distinct-put (None ∷ slots) zero e within empty none distinct = (none, distinct)
distinct-put (None ∷ slots) (suc slot) e within empty none distinct = distinct-put slots slot e (omega (arith, within)) empty none distinct
distinct-put (Some x ∷ slots) zero e within empty none distinct = absurd (false≢true (sym empty))
distinct-put (Some x ∷ slots) (suc slot) e within empty none distinct =
    let absent = absent_from e.path x (standing_in slots) none in
    let shown = shown-put x.path slots slot e (omega (arith, within)) empty absent.1 in (
      subst (λ (o : Option Entry). IsNone o)
          (sym (shown ∙ ap (λ (b : Bool). if b then Some e else entry_of x.path (standing_in slots)) absent.0)) distinct.0,
      distinct-put slots slot e (omega (arith, within)) empty absent.1 distinct.1,
    )

-- ---- two slots

-- Slots that don't hold the same are two, so one stays where the other changes.
pub other_slot : (slots : Slots) (slot other : ℕ) (entry : Option Entry) → entry_at slots slot ≢ entry_at slots other
    → entry_at (with_slot slots other entry) slot ≡ entry_at slots slot
other_slot slots slot other entry differ =
    get_or-set_other slots other slot entry None (λ same. differ (ap (entry_at slots) same))

-- there are as many slots as before
pub same_length : (slots : Slots) (slot other : ℕ) (entry : Option Entry) → slot < length slots → slot < length (with_slot slots other entry)
same_length slots slot other entry within = subst (λ (n : ℕ). slot < n) (sym (length-set slots other entry)) within

-- ---- a parent with its child

-- a slot that is empty isn't one that holds an entry
none_or_some : (slots : Slots) (slot other : ℕ) (entry : Entry) → IsNone (entry_at slots slot) → entry_at slots other ≡ Some entry
    → entry_at slots slot ≢ entry_at slots other
none_or_some slots slot other entry none some same =
    false≢true (sym none ∙ ap (λ (o : Option Entry). is_some o) (same ∙ some))

-- What is shown where another parent is put in its slot, and a child into an empty one.
pub shown-pair : (j : List Bool) (slots : Slots) (slot holders : ℕ) (holder parent child : Entry) → AreDistinct (standing_in slots)
    → slot < length slots → IsNone (entry_at slots slot) → entry_at slots holders ≡ Some holder → parent.path ≡ holder.path
    → IsNone (entry_of child.path (standing_in slots))
    → entry_of j (standing_in (with_pair slots holders parent slot (Some child)))
    ≡ (if same_path child.path j then Some child else if same_path parent.path j then Some parent else entry_of j (standing_in slots))
shown-pair j slots slot holders holder parent child distinct within empty held same none =
    let first = with_slot slots holders (Some parent) in
    let xs = standing_in slots in
    let put = standing-replaced slots holders holder parent distinct held same in
    let stays = other_slot slots slot holders (Some parent) (none_or_some slots slot holders holder empty held) in
    let found : entry_of parent.path xs ≡ Some holder = ap (λ (p : List Bool). entry_of p xs) same ∙ found_standing slots holders holder distinct held in
    shown-put j first slot child (same_length slots slot holders (Some parent) within)
    (subst (λ (o : Option Entry). IsNone o) (sym stays) empty)
    (subst (λ (l : List Entry). IsNone (entry_of child.path l)) (sym put) (absent-replaced child.path xs parent none))
    ∙ ap (λ (o : Option Entry). if same_path child.path j then Some child else o)
    (ap (entry_of j) put ∙ shown-replaced j xs parent holder found)

-- The entries are distinct then.
pub distinct-pair : (slots : Slots) (slot holders : ℕ) (holder parent child : Entry) → AreDistinct (standing_in slots)
    → slot < length slots → IsNone (entry_at slots slot) → entry_at slots holders ≡ Some holder → parent.path ≡ holder.path
    → IsNone (entry_of child.path (standing_in slots))
    → AreDistinct (standing_in (with_pair slots holders parent slot (Some child)))
distinct-pair slots slot holders holder parent child distinct within empty held same none =
    let first = with_slot slots holders (Some parent) in
    let xs = standing_in slots in
    let put = standing-replaced slots holders holder parent distinct held same in
    let stays = other_slot slots slot holders (Some parent) (none_or_some slots slot holders holder empty held) in
    distinct-put first slot child (same_length slots slot holders (Some parent) within)
    (subst (λ (o : Option Entry). IsNone o) (sym stays) empty)
    (subst (λ (l : List Entry). IsNone (entry_of child.path l)) (sym put) (absent-replaced child.path xs parent none))
    (subst (λ (l : List Entry). AreDistinct l) (sym put) (distinct-replaced xs parent distinct))

-- Another parent is put in its slot, and a child of another path is taken out.
pub standing-pair : (slots : Slots) (slot holders : ℕ) (holder parent child : Entry) → AreDistinct (standing_in slots)
    → entry_at slots slot ≡ Some child → entry_at slots holders ≡ Some holder → parent.path ≡ holder.path → child.path ≢ holder.path
    → standing_in (with_pair slots holders parent slot None) ≡ without child.path (replaced parent (standing_in slots))
standing-pair slots slot holders holder parent child distinct is held same apart =
    let first = with_slot slots holders (Some parent) in
    let xs = standing_in slots in
    let put = standing-replaced slots holders holder parent distinct held same in
    let differ : entry_at slots slot ≢ entry_at slots holders =
    λ one. apart (ap (λ (y : Entry). y.path) (same_Some child holder (sym is ∙ (one ∙ held)))) in
    standing-without first slot child (subst (λ (l : List Entry). AreDistinct l) (sym put) (distinct-replaced xs parent distinct))
    (other_slot slots slot holders (Some parent) differ ∙ is)
    ∙ ap (without child.path) put
