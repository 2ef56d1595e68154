-- What a cache shows of each path, once an entry is put in the place of another, comes in or goes out.
use Rattle.std.proofs.Common.{◌≡◌, Bool, true, false, List, [], ◌∷◌, ◌++◌, Option, Some, None, is_some, IsNone, if◌then◌else◌, refl, sym, ◌∙◌, ap}
use Rattle.std.specs.Option.{option_or}
use Rattle.std.proofs.lemmas.Bool.{false≢true}
use Rattle.tree_keys.specs.Path.{same_path}
use Rattle.tree_keys.proofs.PathLaws.{same_path-self, same_path-true, same_path-apart}
use Rattle.verifier_cache.specs.declared.entry.Entry.{Entry}
use Rattle.verifier_cache.specs.Cache.{entry_of, without, replaced, AreDistinct}
use Rattle.verifier_cache.proofs.EntriesLaws.{entry_of-path, entry_of-append, entry_of-changed_other, entry_of-replaced, entry_of-without, entry_of-without_other, absent-changed, AreDistinct-changed, AreDistinct-without, AreDistinct-append}

-- paths that are apart are so the other way round
pub apart-sym : (p q : List Bool) → same_path p q ≡ false → same_path q p ≡ false
apart-sym p q apart =
    same_path-apart q p (λ same. false≢true (sym apart ∙ (ap (same_path p) same ∙ same_path-self p)))

-- what is found of a path is found of its own path
pub found_own : (k : List Bool) (xs : List Entry) (e : Entry) → entry_of k xs ≡ Some e → entry_of e.path xs ≡ Some e
found_own k xs e found = ap (λ (p : List Bool). entry_of p xs) (entry_of-path k xs e found) ∙ found

-- an entry in the place of another
pub shown-replaced : (j : List Bool) (xs : List Entry) (new old : Entry) → entry_of new.path xs ≡ Some old
    → entry_of j (replaced new xs) ≡ (if same_path new.path j then Some new else entry_of j xs)
shown-replaced j xs new old found = go (same_path new.path j) refl
  where
    go : (b : Bool) → same_path new.path j ≡ b → entry_of j (replaced new xs) ≡ (if b then Some new else entry_of j xs)
    go true same =
        ap (λ (p : List Bool). entry_of p (replaced new xs)) (sym (same_path-true new.path j same))
        ∙ entry_of-replaced xs new (ap (λ (o : Option Entry). is_some o) found)
    go false apart = entry_of-changed_other j new.path (λ old. new) xs (λ old is. refl) (apart-sym new.path j apart)

-- an entry that goes out, by its own path
pub shown-without : (j k own : List Bool) (xs : List Entry) → AreDistinct xs → k ≡ own
    → entry_of j (without k xs) ≡ (if same_path own j then None else entry_of j xs)
shown-without j k own xs distinct is =
    go (same_path k j) refl ∙ ap (λ (p : List Bool). if same_path p j then None else entry_of j xs) is
  where
    go : (b : Bool) → same_path k j ≡ b → entry_of j (without k xs) ≡ (if b then None else entry_of j xs)
    go true same =
        ap (λ (p : List Bool). entry_of p (without k xs)) (sym (same_path-true k j same))
        ∙ entry_of-without k xs distinct
    go false apart = entry_of-without_other j k xs (apart-sym k j apart)

-- nothing, and an entry, behind what is found
behind_none : (o : Option Entry) → option_or o None ≡ o
behind_none None = refl
behind_none (Some e) = refl

behind_absent : (o : Option Entry) (e : Entry) → IsNone o → option_or o (Some e) ≡ Some e
behind_absent None e none = refl
behind_absent (Some x) e none = absurd (false≢true (sym none))

-- an entry that comes in
pub shown-append : (j : List Bool) (xs : List Entry) (e : Entry) → IsNone (entry_of e.path xs)
    → entry_of j (xs ++ e ∷ []) ≡ (if same_path e.path j then Some e else entry_of j xs)
shown-append j xs e none = entry_of-append j xs (e ∷ []) ∙ go (same_path e.path j) refl
  where
    go : (b : Bool) → same_path e.path j ≡ b
        → option_or (entry_of j xs) (entry_of j (e ∷ [])) ≡ (if b then Some e else entry_of j xs)
    go true same =
        let path : e.path ≡ j = same_path-true e.path j same in
        ap (λ (p : List Bool). option_or (entry_of p xs) (if same_path p e.path then Some e else None)) (sym path)
        ∙ (ap (λ (b : Bool). option_or (entry_of e.path xs) (if b then Some e else None)) (same_path-self e.path)
        ∙ behind_absent (entry_of e.path xs) e none)
    go false apart =
        ap (λ (b : Bool). option_or (entry_of j xs) (if b then Some e else None)) (apart-sym e.path j apart)
        ∙ behind_none (entry_of j xs)

-- ---- a parent with its child

-- distinct entries stay so where one is put in the place of that of its path
pub distinct-replaced : (xs : List Entry) (new : Entry) → AreDistinct xs → AreDistinct (replaced new xs)
distinct-replaced xs new distinct = AreDistinct-changed new.path (λ old. new) xs (λ old is. refl) distinct

-- a path that isn't there isn't there then either
pub absent-replaced : (j : List Bool) (xs : List Entry) (new : Entry) → IsNone (entry_of j xs)
    → IsNone (entry_of j (replaced new xs))
absent-replaced j xs new none = absent-changed j new.path (λ old. new) xs (λ old is. refl) none

-- another parent, and a child that comes in
pub shown-joined : (j : List Bool) (xs : List Entry) (parent old child : Entry)
    → entry_of parent.path xs ≡ Some old → IsNone (entry_of child.path xs)
    → entry_of j (replaced parent xs ++ child ∷ [])
    ≡ (if same_path child.path j then Some child else if same_path parent.path j then Some parent else entry_of j xs)
shown-joined j xs parent old child found none =
    shown-append j (replaced parent xs) child (absent-replaced child.path xs parent none)
    ∙ ap (λ (o : Option Entry). if same_path child.path j then Some child else o) (shown-replaced j xs parent old found)

-- the entries are distinct then
pub distinct-joined : (xs : List Entry) (parent child : Entry) → AreDistinct xs → IsNone (entry_of child.path xs)
    → AreDistinct (replaced parent xs ++ child ∷ [])
distinct-joined xs parent child distinct none =
    AreDistinct-append (replaced parent xs) child (distinct-replaced xs parent distinct)
    (absent-replaced child.path xs parent none)

-- another parent, and a child that goes out, by its own path
pub shown-left : (j k own : List Bool) (xs : List Entry) (parent old : Entry)
    → AreDistinct xs → entry_of parent.path xs ≡ Some old → k ≡ own
    → entry_of j (without k (replaced parent xs))
    ≡ (if same_path own j then None else if same_path parent.path j then Some parent else entry_of j xs)
shown-left j k own xs parent old distinct found same =
    shown-without j k own (replaced parent xs) (distinct-replaced xs parent distinct) same
    ∙ ap (λ (o : Option Entry). if same_path own j then None else o) (shown-replaced j xs parent old found)

-- and so they are then
pub distinct-left : (k : List Bool) (xs : List Entry) (parent : Entry) → AreDistinct xs
    → AreDistinct (without k (replaced parent xs))
distinct-left k xs parent distinct = AreDistinct-without k (replaced parent xs) (distinct-replaced xs parent distinct)
