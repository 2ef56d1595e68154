-- A path's entry that stands last in a cache: it is found and changed there, whatever stands before it.
use Rattle.std.proofs.Common.{◌≡◌, Bool, true, false, List, [], ◌∷◌, ◌++◌, Option, Some, None, if◌then◌else◌, refl, sym, ◌∙◌, ap}
use Rattle.std.specs.Option.{option_or}
use Rattle.std.proofs.lemmas.Option.{none-some}
use Rattle.tree_keys.specs.Path.{same_path}
use Rattle.tree_keys.proofs.PathLaws.{same_path-self}
use Rattle.verifier_cache.specs.declared.entry.Entry.{Entry}
use Rattle.verifier_cache.specs.Cache.{entry_of, without, replaced}
use Rattle.verifier_cache.proofs.EntriesLaws.{entry_of-append}

-- a path's own entry
pub entry_of-here : (entry : Entry) (rest : List Entry) → entry_of entry.path (entry ∷ rest) ≡ Some entry
entry_of-here entry rest = ap (λ (b : Bool). if b then Some entry else entry_of entry.path rest) (same_path-self entry.path)

-- behind entries of other paths
pub entry_of-last : (front : List Entry) (entry : Entry) → entry_of entry.path front ≡ None → entry_of entry.path (front ++ entry ∷ []) ≡ Some entry
entry_of-last front entry clear =
    entry_of-append entry.path front (entry ∷ [])
    ∙ (ap (λ (o : Option Entry). option_or o (entry_of entry.path (entry ∷ []))) clear ∙ entry_of-here entry [])

-- an entry of a front is found there, whatever stands behind
pub entry_of-front : (path : List Bool) (front back : List Entry) (entry : Entry) → entry_of path front ≡ Some entry → entry_of path (front ++ back) ≡ Some entry
entry_of-front path front back entry there =
    entry_of-append path front back ∙ ap (λ (o : Option Entry). option_or o (entry_of path back)) there

-- a path that stands neither in the front nor last
pub entry_of-neither : (path : List Bool) (front : List Entry) (entry : Entry) → entry_of path front ≡ None → same_path path entry.path ≡ false
    → entry_of path (front ++ entry ∷ []) ≡ None
entry_of-neither path front entry clear apart =
    entry_of-append path front (entry ∷ [])
    ∙ (ap (λ (o : Option Entry). option_or o (entry_of path (entry ∷ []))) clear
    ∙ ap (λ (b : Bool). if b then Some entry else None) apart)

-- it changes in its place
pub replaced-last : (front : List Entry) (old new : Entry) → entry_of new.path front ≡ None → same_path new.path old.path ≡ true
    → replaced new (front ++ old ∷ []) ≡ front ++ new ∷ []
replaced-last [] old new clear same = ap (λ (b : Bool). if b then new ∷ [] else old ∷ []) same
replaced-last (x ∷ front) old new clear same = go (λ is. replaced-last front old new is same) (same_path new.path x.path) clear
  where
    go : (entry_of new.path front ≡ None → replaced new (front ++ old ∷ []) ≡ front ++ new ∷ []) → (b : Bool)
        → (if b then Some x else entry_of new.path front) ≡ None
        → (if b then new ∷ (front ++ old ∷ []) else x ∷ replaced new (front ++ old ∷ [])) ≡ x ∷ (front ++ new ∷ [])
    go further true is = absurd (none-some x (sym is))
    go further false is = ap (λ (xs : List Entry). x ∷ xs) (further is)

-- an entry of a front changes there
pub replaced-front : (new : Entry) (front back : List Entry) (old : Entry) → entry_of new.path front ≡ Some old
    → replaced new (front ++ back) ≡ replaced new front ++ back
replaced-front new [] back old there = absurd (none-some old there)
replaced-front new (x ∷ front) back old there = go (λ is. replaced-front new front back old is) (same_path new.path x.path) there
  where
    go : (entry_of new.path front ≡ Some old → replaced new (front ++ back) ≡ replaced new front ++ back) → (b : Bool)
        → (if b then Some x else entry_of new.path front) ≡ Some old
        → (if b then new ∷ (front ++ back) else x ∷ replaced new (front ++ back)) ≡ (if b then new ∷ front else x ∷ replaced new front) ++ back
    go further true is = refl
    go further false is = ap (λ (xs : List Entry). x ∷ xs) (further is)

-- it leaves, and the front stays
pub without-last : (front : List Entry) (entry : Entry) → entry_of entry.path front ≡ None → without entry.path (front ++ entry ∷ []) ≡ front
without-last [] entry clear = ap (λ (b : Bool). if b then [] else entry ∷ []) (same_path-self entry.path)
without-last (x ∷ front) entry clear = go (λ is. without-last front entry is) (same_path entry.path x.path) clear
  where
    go : (entry_of entry.path front ≡ None → without entry.path (front ++ entry ∷ []) ≡ front) → (b : Bool)
        → (if b then Some x else entry_of entry.path front) ≡ None
        → (if b then front ++ entry ∷ [] else x ∷ without entry.path (front ++ entry ∷ [])) ≡ x ∷ front
    go further true is = absurd (none-some x (sym is))
    go further false is = ap (λ (xs : List Entry). x ∷ xs) (further is)
