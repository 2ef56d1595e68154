-- Entries that lie among gaps.
use Rattle.std.proofs.Common.{◌≡◌, ℕ, zero, suc, ◌+◌, ◌<◌, ◌≤◌, Bool, true, false, List, [], ◌∷◌, ◌++◌, length, take, get_or, set, Some, if◌then◌else◌, slice_index, length-take-le, inl, inr, refl, sym, ◌∙◌, ap, subst, arith}
use Rattle.std.specs.List.{HoldsAt, filter, remove}
use Rattle.std.proofs.lemmas.Bool.{cases_order}
use Rattle.std.proofs.lemmas.List.{get_or_append_left, get_or_push}
use Rattle.std.proofs.lemmas.List.Filters.{FiltersInPlace}
use Rattle.verifier_cache.specs.declared.entry.Entry.{Entry}
use Rattle.verifier_cache.specs.declared.table.Stored.{Stored}
use Rattle.verifier_cache.specs.Cache.{entry_of, without, changed, AreDistinct, IsIndexOf}
use Rattle.verifier_cache.specs.Table.{standing, is_live, IsAt}
use Rattle.verifier_cache.proofs.EntriesLaws.{entry_of-place, without-place, changed-place}

-- how many entries stand before a place
abbrev pub before : List Stored → ℕ → ℕ
before [] at = 0
before (x ∷ xs) zero = 0
before (x ∷ xs) (suc at) = if x.live then suc (before xs at) else before xs at

-- what is there still at a place stands behind those before it
pub standing-within : (xs : List Stored) (at : ℕ) → at < length xs → HoldsAt (λ one. one.live ≡ true) xs at → before xs at < length (standing xs)
standing-within [] at within live = absurd (omega arith)
standing-within (x ∷ xs) zero within live = subst (λ (b : Bool). 0 < length (if b then x.entry ∷ standing xs else standing xs)) (sym (live x)) (omega arith)
standing-within (x ∷ xs) (suc at) within live = go (standing-within xs at (omega arith) live) x.live
  where
    go : before xs at < length (standing xs) → (b : Bool) → (if b then suc (before xs at) else before xs at) < length (if b then x.entry ∷ standing xs else standing xs)
    go further true = omega (arith, further)
    go further false = further

pub standing-at : (xs : List Stored) (at : ℕ) (d : Entry) (e : Stored) → at < length xs → HoldsAt (λ one. one.live ≡ true) xs at → get_or (standing xs) (before xs at) d ≡ (get_or xs at e).entry
standing-at [] at d e within live = absurd (omega arith)
standing-at (x ∷ xs) zero d e within live = ap (λ (b : Bool). get_or (if b then x.entry ∷ standing xs else standing xs) 0 d) (live x)
standing-at (x ∷ xs) (suc at) d e within live = go (standing-at xs at d e (omega arith) live) x.live
  where
    go : get_or (standing xs) (before xs at) d ≡ (get_or xs at e).entry → (b : Bool)
        → get_or (if b then x.entry ∷ standing xs else standing xs) (if b then suc (before xs at) else before xs at) d ≡ (get_or xs at e).entry
    go further true = further
    go further false = further

-- another entry in its place
pub standing-set : (xs : List Stored) (at : ℕ) (new : Stored) → at < length xs → HoldsAt (λ one. one.live ≡ true) xs at → new.live ≡ true
    → standing (set xs at new) ≡ set (standing xs) (before xs at) new.entry
standing-set [] at new within live stays = absurd (omega arith)
standing-set (x ∷ xs) zero new within live stays =
    ap (λ (b : Bool). if b then new.entry ∷ standing xs else standing xs) stays
    ∙ sym (ap (λ (b : Bool). set (if b then x.entry ∷ standing xs else standing xs) 0 new.entry) (live x))
standing-set (x ∷ xs) (suc at) new within live stays = go (standing-set xs at new (omega arith) live stays) x.live
  where
    go : standing (set xs at new) ≡ set (standing xs) (before xs at) new.entry → (b : Bool)
        → (if b then x.entry ∷ standing (set xs at new) else standing (set xs at new))
        ≡ set (if b then x.entry ∷ standing xs else standing xs) (if b then suc (before xs at) else before xs at) new.entry
    go further true = ap (λ (more : List Entry). x.entry ∷ more) further
    go further false = further

-- a gap in its place
pub standing-left : (xs : List Stored) (at : ℕ) (new : Stored) → at < length xs → HoldsAt (λ one. one.live ≡ true) xs at → new.live ≡ false
    → standing (set xs at new) ≡ remove (standing xs) (before xs at)
standing-left [] at new within live leaves = absurd (omega arith)
standing-left (x ∷ xs) zero new within live leaves =
    ap (λ (b : Bool). if b then new.entry ∷ standing xs else standing xs) leaves
    ∙ sym (ap (λ (b : Bool). remove (if b then x.entry ∷ standing xs else standing xs) 0) (live x))
standing-left (x ∷ xs) (suc at) new within live leaves = go (standing-left xs at new (omega arith) live leaves) x.live
  where
    go : standing (set xs at new) ≡ remove (standing xs) (before xs at) → (b : Bool)
        → (if b then x.entry ∷ standing (set xs at new) else standing (set xs at new))
        ≡ remove (if b then x.entry ∷ standing xs else standing xs) (if b then suc (before xs at) else before xs at)
    go further true = ap (λ (more : List Entry). x.entry ∷ more) further
    go further false = further

-- an entry behind the others
pub standing-push : (xs : List Stored) (new : Stored) → new.live ≡ true → standing (xs ++ new ∷ []) ≡ standing xs ++ new.entry ∷ []
standing-push [] new stays = ap (λ (b : Bool). if b then new.entry ∷ [] else []) stays
standing-push (x ∷ xs) new stays = go (standing-push xs new stays) x.live
  where
    go : standing (xs ++ new ∷ []) ≡ standing xs ++ new.entry ∷ [] → (b : Bool)
        → (if b then x.entry ∷ standing (xs ++ new ∷ []) else standing (xs ++ new ∷ [])) ≡ (if b then x.entry ∷ standing xs else standing xs) ++ new.entry ∷ []
    go further true = ap (λ (more : List Entry). x.entry ∷ more) further
    go further false = further

-- with the gaps closed
pub standing-filter : (xs : List Stored) → standing (filter is_live xs) ≡ standing xs
standing-filter [] = refl
standing-filter (x ∷ xs) = go (standing-filter xs) x.live refl
  where
    go : standing (filter is_live xs) ≡ standing xs → (b : Bool) → x.live ≡ b
        → standing (if b then x ∷ filter is_live xs else filter is_live xs) ≡ (if b then x.entry ∷ standing xs else standing xs)
    go further true is = ap (λ (b : Bool). if b then x.entry ∷ standing (filter is_live xs) else standing (filter is_live xs)) is ∙ ap (λ (more : List Entry). x.entry ∷ more) further
    go further false is = further

pub length-standing : (xs : List Stored) → length (filter is_live xs) ≡ length (standing xs)
length-standing [] = refl
length-standing (x ∷ xs) = go (length-standing xs) x.live
  where
    go : length (filter is_live xs) ≡ length (standing xs) → (b : Bool)
        → length (if b then x ∷ filter is_live xs else filter is_live xs) ≡ length (if b then x.entry ∷ standing xs else standing xs)
    go further true = ap (λ (n : ℕ). suc n) further
    go further false = further

pub filter-at : (xs : List Stored) (at : ℕ) (d : Stored) → at < length xs → HoldsAt (λ one. one.live ≡ true) xs at
    → get_or (filter is_live xs) (length (filter is_live (take at xs))) d ≡ get_or xs at d
filter-at [] at d within live = absurd (omega arith)
filter-at (x ∷ xs) zero d within live = ap (λ (b : Bool). get_or (if b then x ∷ filter is_live xs else filter is_live xs) 0 d) (live x)
filter-at (x ∷ xs) (suc at) d within live = go (filter-at xs at d (omega arith) live) x.live
  where
    go : get_or (filter is_live xs) (length (filter is_live (take at xs))) d ≡ get_or xs at d → (b : Bool)
        → get_or (if b then x ∷ filter is_live xs else filter is_live xs) (length (if b then x ∷ filter is_live (take at xs) else filter is_live (take at xs))) d ≡ get_or xs at d
    go further true = further
    go further false = further

pub filter-within : (xs : List Stored) (at : ℕ) → at < length xs → HoldsAt (λ one. one.live ≡ true) xs at
    → length (filter is_live (take at xs)) < length (filter is_live xs)
filter-within [] at within live = absurd (omega arith)
filter-within (x ∷ xs) zero within live = subst (λ (b : Bool). 0 < length (if b then x ∷ filter is_live xs else filter is_live xs)) (sym (live x)) (omega arith)
filter-within (x ∷ xs) (suc at) within live = go (filter-within xs at (omega arith) live) x.live
  where
    go : length (filter is_live (take at xs)) < length (filter is_live xs) → (b : Bool)
        → length (if b then x ∷ filter is_live (take at xs) else filter is_live (take at xs)) < length (if b then x ∷ filter is_live xs else filter is_live xs)
    go further true = omega (arith, further)
    go further false = further

-- ---- by the path of the entry

-- where the entry of a path lies, it stands
pub standing-index : (k : List Bool) (xs : List Stored) (at : ℕ) → IsAt k xs at → IsIndexOf k (standing xs) (before xs at)
standing-index k xs at there = record {
  within = standing-within xs at there.within there.live;
  path_there = λ d. ap (λ (e : Entry). e.path) (standing-at xs at d (record { entry = d; live = true }) there.within there.live) ∙ there.path_there (record { entry = d; live = true });
}

-- it is the path's
pub entry_of-at : (k : List Bool) (xs : List Stored) (at : ℕ) (e : Stored) → AreDistinct (standing xs) → IsAt k xs at → entry_of k (standing xs) ≡ Some (get_or xs at e).entry
entry_of-at k xs at e distinct there =
    entry_of-place k (standing xs) (before xs at) e.entry distinct (standing-index k xs at there)
    ∙ ap (λ (x : Entry). Some x) (standing-at xs at e.entry e there.within there.live)

-- the same of what was read there
pub entry_of-read : (k : List Bool) (xs : List Stored) (at : ℕ) (e : Stored) → AreDistinct (standing xs) → IsAt k xs at → e ≡ get_or xs at e → entry_of k (standing xs) ≡ Some e.entry
entry_of-read k xs at e distinct there read = entry_of-at k xs at e distinct there ∙ ap (λ (x : Stored). Some x.entry) (sym read)

-- a change of it changes the path's entry alone
pub changed-at : (k : List Bool) (f : Entry → Entry) (xs : List Stored) (at : ℕ) (e new : Stored) → AreDistinct (standing xs) → IsAt k xs at → e ≡ get_or xs at e
    → new.live ≡ true → new.entry ≡ f e.entry → standing (set xs at new) ≡ changed k f (standing xs)
changed-at k f xs at e new distinct there read stays is =
    standing-set xs at new there.within there.live stays
    ∙ (ap (set (standing xs) (before xs at)) (is ∙ ap (λ (x : Stored). f x.entry) read ∙ ap f (sym (standing-at xs at e.entry e there.within there.live)))
    ∙ changed-place k f (standing xs) (before xs at) e.entry distinct (standing-index k xs at there))

-- once it leaves, the entries are those without the path
pub without-at : (k : List Bool) (xs : List Stored) (at : ℕ) (new : Stored) → AreDistinct (standing xs) → IsAt k xs at → new.live ≡ false
    → standing (set xs at new) ≡ without k (standing xs)
without-at k xs at new distinct there leaves =
    standing-left xs at new there.within there.live leaves
    ∙ without-place k (standing xs) (before xs at) distinct (standing-index k xs at there)

-- ---- gaps that are being closed

-- so many were kept
pub settled_count : (xs ys : List Stored) (kept i : ℕ) → FiltersInPlace is_live xs ys kept i → kept ≡ length (filter is_live (take i xs))
settled_count xs ys kept i filters =
    let fits : kept ≤ length ys = omega (arith, filters.behind, filters.within, filters.long) in
    sym (length-take-le kept ys fits) ∙ ap length filters.front

-- one place more is noted
pub noted_more : (xs : List Stored) (ns ms : List ℕ) (i kept : ℕ) → length ns ≡ i → kept ≡ length (filter is_live (take i xs)) → ms ≡ ns ++ kept ∷ []
    → ((j : ℕ) → j < i → slice_index ns j ≡ length (filter is_live (take j xs))) → (j : ℕ) → j < i + 1 → slice_index ms j ≡ length (filter is_live (take j xs))
noted_more xs ns ms i kept count so_many is noted j less = elim (cases_order j i) [
  | inl one ↦ ap (λ (zs : List ℕ). slice_index zs j) is ∙ (get_or_push ns kept 0 j (count ∙ sym one) ∙ (so_many ∙ ap (λ (n : ℕ). length (filter is_live (take n xs))) (sym one)))
  | inr (inl low) ↦ ap (λ (zs : List ℕ). slice_index zs j) is ∙ (get_or_append_left ns (kept ∷ []) 0 j (omega (arith, low, count)) ∙ noted j low)
  | inr (inr high) ↦ absurd (omega (arith, high, less))
]
