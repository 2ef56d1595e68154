-- The index leads to each entry, and to nothing else, after each change.
use Rattle.std.proofs.Common.{◌≡◌, ◌≢◌, ℕ, ◌+◌, ◌-◌, ◌<◌, ◌≤◌, ◌⊎◌, inl, inr, Bool, true, false, List, [], ◌∷◌, ◌++◌, length, take, get_or, set, slice_index, Option, Some, None, IsSome, IsNone, if◌then◌else◌, get_or-set_same, get_or-set_other, length-set, Result, Ok, Err, refl, sym, ◌∙◌, ap, subst, arith}
use Rattle.std.specs.Option.{option_or, IfSome}
use Rattle.std.specs.Result.{IfOk, IsErr}
use Rattle.std.specs.List.{filter}
use Rattle.std.proofs.lemmas.Bool.{false≢true, cases_lt, cases_order, cases_eq, cases_Bool}
use Rattle.std.proofs.lemmas.List.{get_or_append_left, get_or_push, length_push, get_or_default}
use Rattle.tree_keys.specs.Path.{same_path}
use Rattle.tree_keys.proofs.PathLaws.{same_path-true, same_path-self, same_path-apart}
use Rattle.verifier_cache.specs.declared.entry.Entry.{Entry}
use Rattle.path_index.specs.declared.index.Index.{Index}
use Rattle.path_index.specs.declared.index.Mark.{Mark}
use Rattle.verifier_cache.specs.declared.table.Stored.{Stored}
use Rattle.verifier_cache.specs.Cache.{entry_of, without, changed, AreDistinct}
use Rattle.path_index.specs.Order.{order_of}
use Rattle.path_index.specs.Index.{mark_at, count_of, IsSound, Rises, IsRankOf, IsGapFor}
use Rattle.verifier_cache.specs.Table.{standing, is_live, IsAt, IsIndexed}
use Rattle.verifier_cache.proofs.EntriesLaws.{entry_of-append, entry_of-without, length-changed, length-without_there, absent-changed, absent-without, AreDistinct-changed, AreDistinct-without, AreDistinct-append, none_there}
use Rattle.verifier_cache.proofs.TableLemmas.{entry_of-at, entry_of-read, changed-at, without-at, standing-push, standing-filter, filter-at, filter-within}

-- any stored entry: the places that are read lie within the list
abbrev some_stored : Entry → Stored
some_stored e = record { entry = e; live = true }

-- two paths of one place are one
one_path : (p k : List Bool) (xs : List Stored) (at : ℕ) (d : Stored) → IsAt p xs at → IsAt k xs at → p ≡ k
one_path p k xs at d first second = sym (first.path_there d) ∙ second.path_there d

-- what lies elsewhere lies there still
at_elsewhere : (p : List Bool) (xs : List Stored) (at j : ℕ) (new : Stored) → IsAt p xs j → j ≢ at → IsAt p (set xs at new) j
at_elsewhere p xs at j new there apart = record {
  within = subst (λ (n : ℕ). j < n) (sym (length-set xs at new)) there.within;
  live = λ d. subst (λ (one : Stored). one.live ≡ true) (sym (get_or-set_other xs at j new d apart)) (there.live d);
  path_there = λ d. subst (λ (one : Stored). one.entry.path ≡ p) (sym (get_or-set_other xs at j new d apart)) (there.path_there d);
}

at_here : (p : List Bool) (xs : List Stored) (at : ℕ) (new : Stored) → at < length xs → new.live ≡ true → new.entry.path ≡ p → IsAt p (set xs at new) at
at_here p xs at new within stays path = record {
  within = subst (λ (n : ℕ). at < n) (sym (length-set xs at new)) within;
  live = λ d. subst (λ (one : Stored). one.live ≡ true) (sym (get_or-set_same xs at new d within)) stays;
  path_there = λ d. subst (λ (one : Stored). one.entry.path ≡ p) (sym (get_or-set_same xs at new d within)) path;
}

absent_of : (k : List Bool) (xs : List Entry) → entry_of k xs ≡ None → IsNone (entry_of k xs)
absent_of k xs is = subst (λ (o : Option Entry). IsNone o) (sym is) refl

there_of : (k : List Bool) (xs : List Entry) (e : Entry) → entry_of k xs ≡ Some e → IsSome (entry_of k xs)
there_of k xs e is = subst (λ (o : Option Entry). IsSome o) (sym is) refl

at_set : (p k : List Bool) (xs : List Stored) (at j : ℕ) (new : Stored) → IsAt k xs at → new.live ≡ true → new.entry.path ≡ k → IsAt p xs j → IsAt p (set xs at new) j
at_set p k xs at j new there stays path other = go (cases_eq j at)
  where
    go : (j ≡ at) ⊎ (j ≡ at → ⊥) → IsAt p (set xs at new) j
    go (inl same) =
        let one : p ≡ k = one_path p k xs at new (subst (λ (n : ℕ). IsAt p xs n) same other) there in
        subst (λ (n : ℕ). IsAt p (set xs at new) n) (sym same) (at_here p xs at new there.within stays (path ∙ sym one))
    go (inr apart) = at_elsewhere p xs at j new other apart

-- an entry that is changed, but for its path
pub indexed-set : (k : List Bool) (xs ys : List Stored) (index : Index) (at : ℕ) (new : Stored) → IsIndexed xs index → IsAt k xs at → new.live ≡ true → new.entry.path ≡ k
    → ys ≡ set xs at new → IsIndexed ys index
indexed-set k xs ys index at new indexed there stays path is =
    let entries : standing (set xs at new) ≡ changed k (λ old. new.entry) (standing xs) = changed-at k (λ old. new.entry) xs at (get_or xs at new) new indexed.distinct there (get_or_default xs at new (get_or xs at new) there.within) stays refl in
    subst (λ (zs : List Stored). IsIndexed zs index) (sym is) (record {
      sound = indexed.sound;
      rises = indexed.rises;
      leads = λ i within. at_set _ k xs at _ new there stays path (indexed.leads i within);
      covers = λ q apart. ap (entry_of q) entries ∙ none_there _ (absent-changed q k (λ old. new.entry) (standing xs) (λ old same. path) (absent_of q (standing xs) (indexed.covers q apart)));
      count = indexed.count ∙ sym (ap length entries ∙ length-changed k (λ old. new.entry) (standing xs));
      distinct = subst AreDistinct (sym entries) (AreDistinct-changed k (λ old. new.entry) (standing xs) (λ old same. path) indexed.distinct);
    })

-- ---- an entry that leaves

-- marks of other ranks lead elsewhere
other_place : (xs : List Stored) (index : Index) (i j : ℕ) (d : Stored) → IsIndexed xs index → i < j → j < count_of index → (mark_at index i).at ≢ (mark_at index j).at
other_place xs index i j d indexed less within same =
    let one : (mark_at index i).path ≡ (mark_at index j).path = one_path _ _ xs (mark_at index j).at d (subst (λ (n : ℕ). IsAt (mark_at index i).path xs n) same (indexed.leads i (omega (arith, less, within)))) (indexed.leads j within) in
    let rise = indexed.rises i j less within in
    let level : order_of (mark_at index i).path ≡ order_of (mark_at index j).path = ap order_of one in
    omega (arith, rise, level)

-- what holds of a mark holds of the same one
level : (m n : Mark) → m ≡ n → order_of m.path ≡ order_of n.path
level m n same = ap (λ (x : Mark). order_of x.path) same

pub indexed-left : (k : List Bool) (xs ys : List Stored) (index next : Index) (rank at : ℕ) (new : Stored) → IsIndexed xs index
    → rank < count_of index → (mark_at index rank).path ≡ k → (mark_at index rank).at ≡ at
    → IsSound next → count_of next + 1 ≡ count_of index
    → ((i : ℕ) → i < rank → mark_at next i ≡ mark_at index i)
    → ((i : ℕ) → rank ≤ i → i < count_of next → mark_at next i ≡ mark_at index (i + 1))
    → new.live ≡ false → ys ≡ set xs at new → IsIndexed ys next
indexed-left k xs ys index next rank at new indexed within path place sound fewer front behind leaves is =
    subst (λ (zs : List Stored). IsIndexed zs next) (sym is) (record {
      sound = sound;
      rises = rises;
      leads = leads;
      covers = covers;
      count = omega (arith, fewer, indexed.count, gone, ap length entries);
      distinct = subst AreDistinct (sym entries) (AreDistinct-without k (standing xs) indexed.distinct);
    })
  where
    there : IsAt k xs at
    there = subst (λ (p : List Bool). IsAt p xs at) path (subst (λ (n : ℕ). IsAt (mark_at index rank).path xs n) place (indexed.leads rank within))

    entries : standing (set xs at new) ≡ without k (standing xs)
    entries = without-at k xs at new indexed.distinct there leaves

    gone : length (without k (standing xs)) + 1 ≡ length (standing xs)
    gone = length-without_there k (standing xs) (there_of k (standing xs) _ (entry_of-at k xs at new indexed.distinct there))

    rises : Rises next
    rises i j less short = elim (cases_lt j rank) [
      | inl low ↦ omega (arith, level _ _ (front i (omega (arith, less, low))), level _ _ (front j low), indexed.rises i j less (omega (arith, low, within)))
      | inr high ↦ elim (cases_lt i rank) [
        | inl before ↦ omega (arith, level _ _ (front i before), level _ _ (behind j high short), indexed.rises i (j + 1) (omega (arith, less)) (omega (arith, short, fewer)))
        | inr after ↦ omega (arith, level _ _ (behind i after (omega (arith, less, short))), level _ _ (behind j high short), indexed.rises (i + 1) (j + 1) (omega (arith, less)) (omega (arith, short, fewer)))
      ]
    ]

    leads : (i : ℕ) → i < count_of next → IsAt (mark_at next i).path (set xs at new) (mark_at next i).at
    leads i short = elim (cases_lt i rank) [
      | inl low ↦
          let apart : (mark_at index i).at ≢ at = λ same. other_place xs index i rank new indexed low within (same ∙ sym place) in
          subst (λ (m : Mark). IsAt m.path (set xs at new) m.at) (sym (front i low)) (at_elsewhere _ xs at _ new (indexed.leads i (omega (arith, low, within))) apart)
      | inr high ↦
          let apart : (mark_at index (i + 1)).at ≢ at = λ same. other_place xs index rank (i + 1) new indexed (omega (arith, high)) (omega (arith, short, fewer)) (place ∙ sym same) in
          subst (λ (m : Mark). IsAt m.path (set xs at new) m.at) (sym (behind i high short)) (at_elsewhere _ xs at _ new (indexed.leads (i + 1) (omega (arith, short, fewer))) apart)
    ]

    others : (q : List Bool) → ((i : ℕ) → i < count_of next → (mark_at next i).path ≢ q) → same_path q k ≡ false → (i : ℕ) → i < count_of index → (mark_at index i).path ≢ q
    others q apart other i less same = elim (cases_order i rank) [
      | inl one ↦ false≢true (sym other ∙ subst (λ (p : List Bool). same_path q p ≡ true) (sym same ∙ (ap (λ (n : ℕ). (mark_at index n).path) one ∙ path)) (same_path-self q))
      | inr (inl low) ↦ apart i (omega (arith, low, within, fewer)) (ap (λ (m : Mark). m.path) (front i low) ∙ same)
      | inr (inr high) ↦
          let at_next : i - 1 + 1 ≡ i = omega (arith, high) in
          apart (i - 1) (omega (arith, high, less, fewer)) (ap (λ (m : Mark). m.path) (behind (i - 1) (omega (arith, high)) (omega (arith, high, less, fewer))) ∙ (ap (λ (n : ℕ). (mark_at index n).path) at_next ∙ same))
    ]

    covers : (q : List Bool) → ((i : ℕ) → i < count_of next → (mark_at next i).path ≢ q) → entry_of q (standing (set xs at new)) ≡ None
    covers q apart = elim (cases_Bool (same_path q k)) [
      | inl same ↦ ap (entry_of q) entries ∙ (ap (λ (p : List Bool). entry_of p (without k (standing xs))) (same_path-true q k same) ∙ entry_of-without k (standing xs) indexed.distinct)
      | inr other ↦ ap (entry_of q) entries ∙ none_there _ (absent-without q k (standing xs) (absent_of q (standing xs) (indexed.covers q (others q apart other))))
    ]

-- ---- an entry that comes in

at_push : (p : List Bool) (xs : List Stored) (at : ℕ) (new : Stored) → IsAt p xs at → IsAt p (xs ++ new ∷ []) at
at_push p xs at new there = record {
  within = omega (arith, length_push xs new, there.within);
  live = λ d. subst (λ (one : Stored). one.live ≡ true) (sym (get_or_append_left xs (new ∷ []) d at there.within)) (there.live d);
  path_there = λ d. subst (λ (one : Stored). one.entry.path ≡ p) (sym (get_or_append_left xs (new ∷ []) d at there.within)) (there.path_there d);
}

at_end : (p : List Bool) (xs : List Stored) (new : Stored) → new.live ≡ true → new.entry.path ≡ p → IsAt p (xs ++ new ∷ []) (length xs)
at_end p xs new stays path = record {
  within = omega (arith, length_push xs new);
  live = λ d. subst (λ (one : Stored). one.live ≡ true) (sym (get_or_push xs new d (length xs) refl)) stays;
  path_there = λ d. subst (λ (one : Stored). one.entry.path ≡ p) (sym (get_or_push xs new d (length xs) refl)) path;
}

-- no mark is one of a path that comes between them
pub apart_at_gap : (k : List Bool) (index : Index) (rank : ℕ) → IsGapFor k index rank → (i : ℕ) → i < count_of index → (mark_at index i).path ≢ k
apart_at_gap k index rank gap i less same = elim (cases_lt i rank) [
  | inl low ↦ omega (arith, gap.before i low, ap order_of same)
  | inr high ↦ omega (arith, gap.behind i high less, ap order_of same)
]

pub indexed-push : (xs ys : List Stored) (index next : Index) (rank : ℕ) (new : Stored) → IsIndexed xs index → IsGapFor new.entry.path index rank
    → IsSound next → count_of next ≡ count_of index + 1
    → ((i : ℕ) → i < rank → mark_at next i ≡ mark_at index i)
    → mark_at next rank ≡ record { path = new.entry.path; at = length xs }
    → ((i : ℕ) → rank ≤ i → i < count_of index → mark_at next (i + 1) ≡ mark_at index i)
    → new.live ≡ true → ys ≡ xs ++ new ∷ [] → IsIndexed ys next
indexed-push xs ys index next rank new indexed gap sound more front here behind stays is =
    subst (λ (zs : List Stored). IsIndexed zs next) (sym is) (record {
      sound = sound;
      rises = rises;
      leads = leads;
      covers = covers;
      count = omega (arith, more, indexed.count, length_push (standing xs) new.entry, ap length entries);
      distinct = subst AreDistinct (sym entries) (AreDistinct-append (standing xs) new.entry indexed.distinct (absent_of new.entry.path (standing xs) (indexed.covers new.entry.path (apart_at_gap new.entry.path index rank gap))));
    })
  where
    entries : standing (xs ++ new ∷ []) ≡ standing xs ++ new.entry ∷ []
    entries = standing-push xs new stays

    -- of a rank behind the new one, the mark is that of the rank before
    behind_it : (i : ℕ) → rank < i → i < count_of next → mark_at next i ≡ mark_at index (i - 1)
    behind_it i high short = ap (mark_at next) (omega (arith, high)) ∙ behind (i - 1) (omega (arith, high)) (omega (arith, high, short, more))

    rises : Rises next
    rises i j less short = elim (cases_order j rank) [
      | inl one ↦ omega (arith, level _ _ (front i (omega (arith, less, one))), level _ _ (ap (mark_at next) one ∙ here), gap.before i (omega (arith, less, one)))
      | inr (inl low) ↦ omega (arith, level _ _ (front i (omega (arith, less, low))), level _ _ (front j low), indexed.rises i j less (omega (arith, low, gap.within)))
      | inr (inr high) ↦ elim (cases_order i rank) [
        | inl one ↦ omega (arith, level _ _ (ap (mark_at next) one ∙ here), level _ _ (behind_it j high short), gap.behind (j - 1) (omega (arith, high)) (omega (arith, high, short, more)))
        | inr (inl low) ↦ omega (arith, level _ _ (front i low), level _ _ (behind_it j high short), indexed.rises i (j - 1) (omega (arith, high, low)) (omega (arith, high, short, more)))
        | inr (inr after) ↦ omega (arith, level _ _ (behind_it i after (omega (arith, less, short))), level _ _ (behind_it j high short), indexed.rises (i - 1) (j - 1) (omega (arith, after, less)) (omega (arith, high, short, more)))
      ]
    ]

    leads : (i : ℕ) → i < count_of next → IsAt (mark_at next i).path (xs ++ new ∷ []) (mark_at next i).at
    leads i short = elim (cases_order i rank) [
      | inl one ↦ subst (λ (m : Mark). IsAt m.path (xs ++ new ∷ []) m.at) (sym (ap (mark_at next) one ∙ here)) (at_end new.entry.path xs new stays refl)
      | inr (inl low) ↦ subst (λ (m : Mark). IsAt m.path (xs ++ new ∷ []) m.at) (sym (front i low)) (at_push _ xs _ new (indexed.leads i (omega (arith, low, gap.within))))
      | inr (inr high) ↦ subst (λ (m : Mark). IsAt m.path (xs ++ new ∷ []) m.at) (sym (behind_it i high short)) (at_push _ xs _ new (indexed.leads (i - 1) (omega (arith, high, short, more))))
    ]

    others : (q : List Bool) → ((i : ℕ) → i < count_of next → (mark_at next i).path ≢ q) → (i : ℕ) → i < count_of index → (mark_at index i).path ≢ q
    others q apart i less same = elim (cases_lt i rank) [
      | inl low ↦ apart i (omega (arith, less, more)) (ap (λ (m : Mark). m.path) (front i low) ∙ same)
      | inr high ↦ apart (i + 1) (omega (arith, less, more)) (ap (λ (m : Mark). m.path) (behind i high less) ∙ same)
    ]

    covers : (q : List Bool) → ((i : ℕ) → i < count_of next → (mark_at next i).path ≢ q) → entry_of q (standing (xs ++ new ∷ [])) ≡ None
    covers q apart =
        let other : same_path q new.entry.path ≡ false =
        same_path-apart q new.entry.path (λ same. apart rank (omega (arith, gap.within, more)) (ap (λ (m : Mark). m.path) here ∙ sym same)) in
        ap (entry_of q) entries
        ∙ (entry_of-append q (standing xs) (new.entry ∷ [])
        ∙ (ap (λ (o : Option Entry). option_or o (entry_of q (new.entry ∷ []))) (indexed.covers q (others q apart))
        ∙ ap (λ (b : Bool). if b then Some new.entry else None) other))

-- ---- gaps that are closed

at_closed : (p : List Bool) (xs : List Stored) (at : ℕ) → IsAt p xs at → IsAt p (filter is_live xs) (length (filter is_live (take at xs)))
at_closed p xs at there = record {
  within = filter-within xs at there.within there.live;
  live = λ d. subst (λ (one : Stored). one.live ≡ true) (sym (filter-at xs at d there.within there.live)) (there.live d);
  path_there = λ d. subst (λ (one : Stored). one.entry.path ≡ p) (sym (filter-at xs at d there.within there.live)) (there.path_there d);
}

pub indexed-closed : (xs ys : List Stored) (index next : Index) (targets : List ℕ) → IsIndexed xs index → IsSound next → count_of next ≡ count_of index
    → ((i : ℕ) → i < count_of index → mark_at next i ≡ record { path = (mark_at index i).path; at = slice_index targets (mark_at index i).at })
    → ((i : ℕ) → i < length xs → slice_index targets i ≡ length (filter is_live (take i xs)))
    → ys ≡ filter is_live xs → IsIndexed ys next
indexed-closed xs ys index next targets indexed sound count marks noted is =
    subst (λ (zs : List Stored). IsIndexed zs next) (sym is) (record {
      sound = sound;
      rises = λ i j less short. omega (arith, path_level i (omega (arith, less, short, count)), path_level j (omega (arith, short, count)), indexed.rises i j less (omega (arith, short, count)));
      leads = λ i short.
          let there = indexed.leads i (omega (arith, short, count)) in
          subst (λ (m : Mark). IsAt m.path (filter is_live xs) m.at) (sym (marks i (omega (arith, short, count))))
          (subst (λ (n : ℕ). IsAt (mark_at index i).path (filter is_live xs) n) (sym (noted (mark_at index i).at there.within)) (at_closed _ xs _ there));
      covers = λ q apart. ap (entry_of q) (standing-filter xs) ∙ indexed.covers q (λ i less same. apart i (omega (arith, less, count)) (ap (λ (m : Mark). m.path) (marks i less) ∙ same));
      count = count ∙ (indexed.count ∙ sym (ap length (standing-filter xs)));
      distinct = subst AreDistinct (sym (standing-filter xs)) indexed.distinct;
    })
  where
    path_level : (i : ℕ) → i < count_of index → order_of (mark_at next i).path ≡ order_of (mark_at index i).path
    path_level i less = level _ _ (marks i less)

-- ---- what the table's methods need

-- what is read where an entry lies is there still
pub live_read : (k : List Bool) (xs : List Stored) (at : ℕ) (e : Stored) → IsAt k xs at → e ≡ get_or xs at e → e.live ≡ true
live_read k xs at e there read = ap (λ (x : Stored). x.live) read ∙ there.live e

pub path_read : (k : List Bool) (xs : List Stored) (at : ℕ) (e : Stored) → IsAt k xs at → e ≡ get_or xs at e → e.entry.path ≡ k
path_read k xs at e there read = ap (λ (x : Stored). x.entry.path) read ∙ there.path_there e

-- the mark of a path leads to its entry
pub at_rank : (k : List Bool) (xs : List Stored) (index : Index) (rank : ℕ) (m : Mark) → IsIndexed xs index → IsRankOf k index rank → m ≡ mark_at index rank → IsAt k xs m.at
at_rank k xs index rank m indexed found is =
    subst (λ (x : Mark). IsAt k xs x.at) (sym is) (subst (λ (p : List Bool). IsAt p xs (mark_at index rank).at) found.path_there (indexed.leads rank found.within))

-- a path with a mark has an entry
pub there_by_rank : (k : List Bool) (xs : List Stored) (index : Index) (rank : ℕ) (d : Stored) → IsIndexed xs index → IsRankOf k index rank → IsSome (entry_of k (standing xs))
there_by_rank k xs index rank d indexed found =
    there_of k (standing xs) _ (entry_of-at k xs (mark_at index rank).at d indexed.distinct (at_rank k xs index rank (mark_at index rank) indexed found refl))

-- an entry that was changed in its place
pub record IsChanged (k : List Bool) (f : Entry → Entry) (xs ys : List Stored) (index : Index) : Type 0 where
  pub indexed : IsIndexed ys index
  pub count : length (standing ys) ≡ length (standing xs)
  pub entries : standing ys ≡ changed k f (standing xs)

pub changed_there : (k : List Bool) (f : Entry → Entry) (xs : List Stored) (index : Index) (at : ℕ) (e new : Stored) → IsIndexed xs index → IsAt k xs at → e ≡ get_or xs at e
    → new.live ≡ true → new.entry ≡ f e.entry → new.entry.path ≡ k → IsChanged k f xs (set xs at new) index
changed_there k f xs index at e new indexed there read stays is path =
    let entries : standing (set xs at new) ≡ changed k f (standing xs) = changed-at k f xs at e new indexed.distinct there read stays is in
    record {
      indexed = indexed-set k xs (set xs at new) index at new indexed there stays path refl;
      count = ap length entries ∙ length-changed k f (standing xs);
      entries = entries;
    }

-- the value that was read where an entry lies
pub value_read : (k : List Bool) (xs : List Stored) (at : ℕ) (e : Stored) → AreDistinct (standing xs) → IsAt k xs at → e ≡ get_or xs at e → IfSome (entry_of k (standing xs)) (λ entry. e.entry.value ≡ entry.value)
value_read k xs at e distinct there read =
    subst (λ (o : Option Entry). IfSome o (λ entry. e.entry.value ≡ entry.value)) (sym (entry_of-read k xs at e distinct there read)) refl

-- a path that has no entry is found in no rank
pub is_gap : (r : Result ℕ ℕ) (k : List Bool) (xs : List Stored) (index : Index) (d : Stored) → IsIndexed xs index → IfOk r (IsRankOf k index) → IsNone (entry_of k (standing xs)) → IsErr r
is_gap (Ok rank) k xs index d indexed found absent =
    absurd (false≢true (subst (λ (o : Option Entry). IsSome o) (none_there (entry_of k (standing xs)) absent) (there_by_rank k xs index rank d indexed found)))
is_gap (Err rank) k xs index d indexed found absent = refl
