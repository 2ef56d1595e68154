-- Looking up, taking out and replacing entries, by path and by index.
use Rattle.std.proofs.Common.{◌≡◌, ℕ, zero, suc, ◌+◌, Bool, true, false, List, [], ◌∷◌, ◌++◌, length, get_or, set, Option, Some, None, IsSome, IsNone, if◌then◌else◌, refl, sym, ◌∙◌, ap, subst, arith}
use Rattle.std.specs.Option.{option_or, option_map, IfSome}
use Rattle.std.proofs.lemmas.Option.{none-some, same_Some}
use Rattle.std.specs.List.{remove}
use Rattle.std.proofs.lemmas.Bool.{false≢true}
use Rattle.tree_keys.specs.Path.{same_path}
use Rattle.tree_keys.proofs.PathLaws.{same_path-self, same_path-true, same_path-apart}
use Rattle.verifier_cache.specs.declared.entry.Entry.{Entry}
use Rattle.verifier_cache.specs.Cache.{entry_of, without, changed, replaced, KeepsPath, AreDistinct, IsIndexOf}

-- an entry that is found is one of the path
pub entry_of-path : (k : List Bool) (xs : List Entry) (e : Entry) → entry_of k xs ≡ Some e → e.path ≡ k
entry_of-path k [] e found = cc
entry_of-path k (x ∷ xs) e found = go (λ is. entry_of-path k xs e is) (same_path k x.path) refl found
  where
    go : (entry_of k xs ≡ Some e → e.path ≡ k) → (b : Bool) → same_path k x.path ≡ b → (if b then Some x else entry_of k xs) ≡ Some e → e.path ≡ k
    go further true same is = let alike = same_path-true k x.path same in cc
    go further false apart is = further is

-- of two lists, one behind the other
pub entry_of-append : (k : List Bool) (xs ys : List Entry) → entry_of k (xs ++ ys) ≡ option_or (entry_of k xs) (entry_of k ys)
entry_of-append k [] ys = refl
entry_of-append k (x ∷ xs) ys = go (entry_of-append k xs ys) (same_path k x.path)
  where
    go : entry_of k (xs ++ ys) ≡ option_or (entry_of k xs) (entry_of k ys) → (b : Bool) → (if b then Some x else entry_of k (xs ++ ys)) ≡ option_or (if b then Some x else entry_of k xs) (entry_of k ys)
    go further true = refl
    go further false = further

-- ---- the entry at an index

pub here_same : (k : List Bool) (x : Entry) → x.path ≡ k → same_path k x.path ≡ true
here_same k x is = subst (λ (p : List Bool). same_path k p ≡ true) (sym is) (same_path-self k)

later_place : (k : List Bool) (x : Entry) (xs : List Entry) (i : ℕ) → IsIndexOf k (x ∷ xs) (suc i) → IsIndexOf k xs i
later_place k x xs i place = record { within = omega (arith, place.within); path_there = place.path_there }

-- a path that is found further on isn't that of an entry before
apart_from : (k : List Bool) (x : Entry) (xs : List Entry) (e : Entry) → IsNone (entry_of x.path xs) → entry_of k xs ≡ Some e → same_path k x.path ≡ false
apart_from k x xs e none found =
    same_path-apart k x.path
    (λ same. false≢true (sym (subst (λ (o : Option Entry). IsNone o) (ap (λ (p : List Bool). entry_of p xs) (sym same) ∙ found) none)))

-- What is found at the place of a path, where no path stands in two entries.
pub entry_of-place : (k : List Bool) (xs : List Entry) (i : ℕ) (d : Entry) → AreDistinct xs → IsIndexOf k xs i → entry_of k xs ≡ Some (get_or xs i d)
entry_of-place k [] i d distinct place = absurd (omega (arith, place.within))
entry_of-place k (x ∷ xs) zero d distinct place = ap (λ (b : Bool). if b then Some x else entry_of k xs) (here_same k x (place.path_there d))
entry_of-place k (x ∷ xs) (suc i) d distinct place =
    let further = entry_of-place k xs i d distinct.1 (later_place k x xs i place) in
    ap (λ (b : Bool). if b then Some x else entry_of k xs) (apart_from k x xs (get_or xs i d) distinct.0 further) ∙ further

-- an entry before the place of a path isn't one of the path
before : (k : List Bool) (x : Entry) (xs : List Entry) (i : ℕ) → AreDistinct (x ∷ xs) → IsIndexOf k (x ∷ xs) (suc i) → same_path k x.path ≡ false
before k x xs i distinct place = apart_from k x xs (get_or xs i x) distinct.0 (entry_of-place k xs i x distinct.1 (later_place k x xs i place))

-- what is left where the entry at a path's place is taken out
pub without-place : (k : List Bool) (xs : List Entry) (i : ℕ) → AreDistinct xs → IsIndexOf k xs i → remove xs i ≡ without k xs
without-place k [] i distinct place = absurd (omega (arith, place.within))
without-place k (x ∷ xs) zero distinct place = sym (ap (λ (b : Bool). if b then xs else x ∷ without k xs) (here_same k x (place.path_there x)))
without-place k (x ∷ xs) (suc i) distinct place =
    ap (λ (more : List Entry). x ∷ more) (without-place k xs i distinct.1 (later_place k x xs i place))
    ∙ sym (ap (λ (b : Bool). if b then xs else x ∷ without k xs) (before k x xs i distinct place))

-- what it is where the entry at a path's place is changed
pub changed-place : (k : List Bool) (f : Entry → Entry) (xs : List Entry) (i : ℕ) (d : Entry) → AreDistinct xs → IsIndexOf k xs i → set xs i (f (get_or xs i d)) ≡ changed k f xs
changed-place k f [] i d distinct place = absurd (omega (arith, place.within))
changed-place k f (x ∷ xs) zero d distinct place = sym (ap (λ (b : Bool). if b then f x ∷ xs else x ∷ changed k f xs) (here_same k x (place.path_there x)))
changed-place k f (x ∷ xs) (suc i) d distinct place =
    ap (λ (more : List Entry). x ∷ more) (changed-place k f xs i d distinct.1 (later_place k x xs i place))
    ∙ sym (ap (λ (b : Bool). if b then f x ∷ xs else x ∷ changed k f xs) (before k x xs i distinct place))

-- ---- what is found afterwards

-- Of a path that was changed, what it was is found changed.
pub entry_of-changed : (k : List Bool) (f : Entry → Entry) (xs : List Entry) → KeepsPath k f → entry_of k (changed k f xs) ≡ option_map f (entry_of k xs)
entry_of-changed k f [] keeps = refl
entry_of-changed k f (x ∷ xs) keeps = go (entry_of-changed k f xs keeps) (same_path k x.path) refl
  where
    go : entry_of k (changed k f xs) ≡ option_map f (entry_of k xs) → (b : Bool) → same_path k x.path ≡ b
        → entry_of k (if b then f x ∷ xs else x ∷ changed k f xs) ≡ option_map f (if b then Some x else entry_of k xs)
    go further true same = ap (λ (b : Bool). if b then Some (f x) else entry_of k xs) (here_same k (f x) (keeps x (sym (same_path-true k x.path same))))
    go further false apart = ap (λ (b : Bool). if b then Some x else entry_of k (changed k f xs)) apart ∙ further

-- another path isn't the path of an entry of this one
other_path : (j k p : List Bool) → same_path j k ≡ false → p ≡ k → same_path j p ≡ false
other_path j k p apart is = ap (same_path j) is ∙ apart

-- Another path has what it had.
pub entry_of-changed_other : (j k : List Bool) (f : Entry → Entry) (xs : List Entry) → KeepsPath k f → same_path j k ≡ false → entry_of j (changed k f xs) ≡ entry_of j xs
entry_of-changed_other j k f [] keeps other = refl
entry_of-changed_other j k f (x ∷ xs) keeps other = go (entry_of-changed_other j k f xs keeps other) (same_path k x.path) refl
  where
    go : entry_of j (changed k f xs) ≡ entry_of j xs → (b : Bool) → same_path k x.path ≡ b
        → entry_of j (if b then f x ∷ xs else x ∷ changed k f xs) ≡ (if same_path j x.path then Some x else entry_of j xs)
    go further true same =
        let path : x.path ≡ k = sym (same_path-true k x.path same) in
        ap (λ (b : Bool). if b then Some (f x) else entry_of j xs) (other_path j k (f x).path other (keeps x path))
        ∙ sym (ap (λ (b : Bool). if b then Some x else entry_of j xs) (other_path j k x.path other path))
    go further false apart = ap (λ (o : Option Entry). if same_path j x.path then Some x else o) further

-- changes of a path that make the same of its entry are one
changed-same : (k : List Bool) (f g : Entry → Entry) (xs : List Entry) (e : Entry) → entry_of k xs ≡ Some e → f e ≡ g e → changed k f xs ≡ changed k g xs
changed-same k f g [] e found same = refl
changed-same k f g (x ∷ xs) e found same = go (λ is. changed-same k f g xs e is same) (same_path k x.path) found
  where
    go : (entry_of k xs ≡ Some e → changed k f xs ≡ changed k g xs) → (b : Bool) → (if b then Some x else entry_of k xs) ≡ Some e
        → (if b then f x ∷ xs else x ∷ changed k f xs) ≡ (if b then g x ∷ xs else x ∷ changed k g xs)
    go further true is =
        let here : x ≡ e = same_Some x e is in
        ap (λ (y : Entry). y ∷ xs) (ap f here ∙ (same ∙ sym (ap g here)))
    go further false is = ap (λ (more : List Entry). x ∷ more) (further is)

-- a change and a replacement are one where the entry is known
pub changed-replaced : (k : List Bool) (f : Entry → Entry) (xs : List Entry) (e : Entry) → entry_of k xs ≡ Some e → (f e).path ≡ k → changed k f xs ≡ replaced (f e) xs
changed-replaced k f xs e found keeps = changed-same k f (λ old. f e) xs e found refl ∙ sym (ap (λ (p : List Bool). changed p (λ old. f e) xs) keeps)

-- a change of a path's entry that keeps its path puts another in its place
pub changed-there : (k : List Bool) (f : Entry → Entry) (xs ys : List Entry) → KeepsPath k f → ys ≡ changed k f xs → IfSome (entry_of k xs) (λ e. ys ≡ replaced (f e) xs)
changed-there k f xs ys keeps is = go (entry_of k xs) refl
  where
    go : (o : Option Entry) → entry_of k xs ≡ o → IfSome o (λ e. ys ≡ replaced (f e) xs)
    go None found = tt
    go (Some e) found = is ∙ changed-replaced k f xs e found (keeps e (entry_of-path k xs e found))

-- As many entries as before.
pub length-changed : (k : List Bool) (f : Entry → Entry) (xs : List Entry) → length (changed k f xs) ≡ length xs
length-changed k f [] = refl
length-changed k f (x ∷ xs) = go (length-changed k f xs) (same_path k x.path)
  where
    go : length (changed k f xs) ≡ length xs → (b : Bool) → length (if b then f x ∷ xs else x ∷ changed k f xs) ≡ suc (length xs)
    go further true = refl
    go further false = ap (λ (n : ℕ). suc n) further

-- One entry fewer.
pub length-without : (k : List Bool) (xs : List Entry) (e : Entry) → entry_of k xs ≡ Some e → suc (length (without k xs)) ≡ length xs
length-without k [] e found = absurd (none-some e found)
length-without k (x ∷ xs) e found = go (λ is. length-without k xs e is) (same_path k x.path) found
  where
    go : (entry_of k xs ≡ Some e → suc (length (without k xs)) ≡ length xs) → (b : Bool) → (if b then Some x else entry_of k xs) ≡ Some e
        → suc (length (if b then xs else x ∷ without k xs)) ≡ suc (length xs)
    go further true is = refl
    go further false is = ap (λ (n : ℕ). suc n) (further is)

pub none_there : (o : Option Entry) → IsNone o → o ≡ None
none_there None none = refl
none_there (Some x) none = absurd (false≢true (sym none))

-- A path that was taken out isn't there any more.
pub entry_of-without : (k : List Bool) (xs : List Entry) → AreDistinct xs → entry_of k (without k xs) ≡ None
entry_of-without k [] distinct = refl
entry_of-without k (x ∷ xs) distinct = go (entry_of-without k xs distinct.1) (same_path k x.path) refl
  where
    go : entry_of k (without k xs) ≡ None → (b : Bool) → same_path k x.path ≡ b → entry_of k (if b then xs else x ∷ without k xs) ≡ None
    go further true same =
        ap (λ (p : List Bool). entry_of p xs) (same_path-true k x.path same) ∙ none_there (entry_of x.path xs) distinct.0
    go further false apart = ap (λ (b : Bool). if b then Some x else entry_of k (without k xs)) apart ∙ further

pub entry_of-without_other : (j k : List Bool) (xs : List Entry) → same_path j k ≡ false → entry_of j (without k xs) ≡ entry_of j xs
entry_of-without_other j k [] other = refl
entry_of-without_other j k (x ∷ xs) other = go (entry_of-without_other j k xs other) (same_path k x.path) refl
  where
    go : entry_of j (without k xs) ≡ entry_of j xs → (b : Bool) → same_path k x.path ≡ b
        → entry_of j (if b then xs else x ∷ without k xs) ≡ (if same_path j x.path then Some x else entry_of j xs)
    go further true same =
        sym (ap (λ (b : Bool). if b then Some x else entry_of j xs) (other_path j k x.path other (sym (same_path-true k x.path same))))
    go further false apart = ap (λ (o : Option Entry). if same_path j x.path then Some x else o) further

-- ---- distinct entries stay so

-- where an entry is absent from the entries, it is so from what is left of them
pub absent-without : (j k : List Bool) (xs : List Entry) → IsNone (entry_of j xs) → IsNone (entry_of j (without k xs))
absent-without j k [] none = none
absent-without j k (x ∷ xs) none = go (λ is. absent-without j k xs is) (same_path j x.path) (same_path k x.path) refl none
  where
    go : (IsNone (entry_of j xs) → IsNone (entry_of j (without k xs))) → (b c : Bool) → same_path j x.path ≡ b
        → IsNone (if b then Some x else entry_of j xs) → IsNone (entry_of j (if c then xs else x ∷ without k xs))
    go further true c is none = absurd (false≢true (sym none))
    go further false true is none = none
    go further false false is none = subst (λ (b : Bool). IsNone (if b then Some x else entry_of j (without k xs))) (sym is) (further none)

pub AreDistinct-without : (k : List Bool) (xs : List Entry) → AreDistinct xs → AreDistinct (without k xs)
AreDistinct-without k [] distinct = tt
AreDistinct-without k (x ∷ xs) distinct = go (AreDistinct-without k xs distinct.1) (same_path k x.path)
  where
    go : AreDistinct (without k xs) → (b : Bool) → AreDistinct (if b then xs else x ∷ without k xs)
    go further true = distinct.1
    go further false = (absent-without x.path k xs distinct.0, further)

-- a path is absent from the changed entries where it is from the entries
pub absent-changed : (j k : List Bool) (f : Entry → Entry) (xs : List Entry) → KeepsPath k f → IsNone (entry_of j xs) → IsNone (entry_of j (changed k f xs))
absent-changed j k f [] keeps none = none
absent-changed j k f (x ∷ xs) keeps none = go (λ is. absent-changed j k f xs keeps is) (same_path j x.path) refl (same_path k x.path) refl none
  where
    go : (IsNone (entry_of j xs) → IsNone (entry_of j (changed k f xs))) → (b : Bool) → same_path j x.path ≡ b → (c : Bool) → same_path k x.path ≡ c
        → IsNone (if b then Some x else entry_of j xs) → IsNone (entry_of j (if c then f x ∷ xs else x ∷ changed k f xs))
    go further true is c there none = absurd (false≢true (sym none))
    go further false is true there none =
        let path : x.path ≡ k = sym (same_path-true k x.path there) in
        subst (λ (b : Bool). IsNone (if b then Some (f x) else entry_of j xs)) (sym (ap (same_path j) (keeps x path ∙ sym path) ∙ is)) none
    go further false is false there none = subst (λ (b : Bool). IsNone (if b then Some x else entry_of j (changed k f xs))) (sym is) (further none)

pub AreDistinct-changed : (k : List Bool) (f : Entry → Entry) (xs : List Entry) → KeepsPath k f → AreDistinct xs → AreDistinct (changed k f xs)
AreDistinct-changed k f [] keeps distinct = tt
AreDistinct-changed k f (x ∷ xs) keeps distinct = go (AreDistinct-changed k f xs keeps distinct.1) (same_path k x.path) refl
  where
    go : AreDistinct (changed k f xs) → (b : Bool) → same_path k x.path ≡ b → AreDistinct (if b then f x ∷ xs else x ∷ changed k f xs)
    go further true same =
        let path : x.path ≡ k = sym (same_path-true k x.path same) in
        (subst (λ (p : List Bool). IsNone (entry_of p xs)) (path ∙ sym (keeps x path)) distinct.0, distinct.1)
    go further false apart = (absent-changed x.path k f xs keeps distinct.0, further)

same_path-sym : (p q : List Bool) → same_path p q ≡ false → same_path q p ≡ false
same_path-sym p q apart = same_path-apart q p (λ same. false≢true (sym apart ∙ subst (λ (r : List Bool). same_path p r ≡ true) (sym same) (same_path-self p)))

absent-append : (j : List Bool) (xs : List Entry) (e : Entry) → IsNone (entry_of j xs) → same_path j e.path ≡ false → IsNone (entry_of j (xs ++ e ∷ []))
absent-append j [] e none apart = subst (λ (b : Bool). IsNone (if b then Some e else None)) (sym apart) none
absent-append j (x ∷ xs) e none apart = go (λ is. absent-append j xs e is apart) (same_path j x.path) none
  where
    go : (IsNone (entry_of j xs) → IsNone (entry_of j (xs ++ e ∷ []))) → (b : Bool) → IsNone (if b then Some x else entry_of j xs) → IsNone (if b then Some x else entry_of j (xs ++ e ∷ []))
    go further true is = is
    go further false is = further is

pub AreDistinct-append : (xs : List Entry) (e : Entry) → AreDistinct xs → IsNone (entry_of e.path xs) → AreDistinct (xs ++ e ∷ [])
AreDistinct-append [] e distinct none = (refl, tt)
AreDistinct-append (x ∷ xs) e distinct none = go (λ is. AreDistinct-append xs e distinct.1 is) (same_path e.path x.path) refl none
  where
    go : (IsNone (entry_of e.path xs) → AreDistinct (xs ++ e ∷ [])) → (b : Bool) → same_path e.path x.path ≡ b → IsNone (if b then Some x else entry_of e.path xs)
        → IsNone (entry_of x.path (xs ++ e ∷ [])) × AreDistinct (xs ++ e ∷ [])
    go further true is none = absurd (false≢true (sym none))
    go further false is none = (absent-append x.path xs e distinct.0 (same_path-sym e.path x.path is), further none)

-- ---- an entry in the place of another

pub entry_of-replaced : (xs : List Entry) (new : Entry) → IsSome (entry_of new.path xs) → entry_of new.path (replaced new xs) ≡ Some new
entry_of-replaced xs new there = entry_of-changed new.path (λ old. new) xs (λ old is. refl) ∙ go (entry_of new.path xs) there
  where
    go : (o : Option Entry) → IsSome o → option_map (λ old. new) o ≡ Some new
    go None there = absurd (false≢true there)
    go (Some old) there = refl

pub length-without_there : (k : List Bool) (xs : List Entry) → IsSome (entry_of k xs) → length (without k xs) + 1 ≡ length xs
length-without_there k xs there = go (entry_of k xs) refl there
  where
    go : (o : Option Entry) → entry_of k xs ≡ o → IsSome o → length (without k xs) + 1 ≡ length xs
    go None is there = absurd (false≢true there)
    go (Some e) is there = omega (arith, length-without k xs e is)
