-- Entries that are listed: by the ranks of an index, and by slots.
use Rattle.std.proofs.Common.{◌≡◌, ◌≢◌, ℕ, zero, suc, ◌+◌, ◌<◌, ◌≤◌, ◌⊎◌, inl, inr, Bool, true, false, List, [], ◌∷◌, ◌++◌, length, take, drop, get_or, Option, Some, None, IsSome, if◌then◌else◌, append_assoc, refl, sym, ◌∙◌, ap, subst, arith}
use Rattle.std.specs.Option.{option_or}
use Rattle.std.proofs.lemmas.Bool.{false≢true, cases_eq}
use Rattle.std.proofs.lemmas.List.{length_push, map-append}
use Rattle.std.proofs.Math.Seq.{set-append_seam}
use Rattle.tree_keys.specs.Path.{same_path}
use Rattle.tree_keys.proofs.PathLaws.{same_path-true}
use Rattle.path_index.specs.declared.index.Index.{Index}
use Rattle.path_index.specs.Order.{order_of}
use Rattle.path_index.specs.Index.{mark_at, count_of}
use Rattle.verifier_cache.specs.declared.entry.Entry.{Entry}
use Rattle.verifier_cache.specs.declared.listed.ListedEntry.{ListedEntry}
use Rattle.verifier_cache.specs.declared.table.Stored.{Stored}
use Rattle.verifier_cache.specs.Cache.{entry_of}
use Rattle.verifier_cache.specs.Slots.{Slots, with_slot, empty_slots}
use Rattle.verifier_cache.specs.Alike.{AreAlike, Rises}
use Rattle.verifier_cache.specs.Listed.{entries_in, listed_from, with_listed, SlotsRise}
use Rattle.verifier_cache.specs.Table.{standing, IsIndexed}
use Rattle.verifier_cache.proofs.EntriesLaws.{here_same, entry_of-append}
use Rattle.verifier_cache.proofs.AlikeLaws.{AreDistinct-from_rises, AreBefore, AreBefore-later, AreBefore-push, Rises-push}

-- ---- by the ranks of an index

-- these are the entries of the first ranks, in their order
pub record IsListedTo (stored : List Stored) (index : Index) (rank : ℕ) (listed : List Entry) : Type 0 where
  pub count : length listed ≡ rank
  pub rises : Rises listed
  pub before : rank < count_of index → AreBefore (order_of (mark_at index rank).path) listed
  pub found : (k : List Bool) (e : Entry) → entry_of k listed ≡ Some e → entry_of k (standing stored) ≡ Some e
  pub covers : (i : ℕ) → i < rank → IsSome (entry_of (mark_at index i).path listed)

pub IsListedTo-none : (stored : List Stored) (index : Index) → IsListedTo stored index 0 []
IsListedTo-none stored index = record {
  count = refl;
  rises = tt;
  before = λ less. tt;
  found = λ k e none. absurd (cc);
  covers = λ i less. absurd (omega (arith, less));
}

-- what is found once an entry comes behind others is found before, or is that entry
found_then : (k : List Bool) (xs : List Entry) (e y : Entry) → entry_of k (xs ++ e ∷ []) ≡ Some y → (entry_of k xs ≡ Some y) ⊎ ((k ≡ e.path) × (e ≡ y))
found_then k xs e y found = go (entry_of k xs) (same_path k e.path) refl (sym (entry_of-append k xs (e ∷ [])) ∙ found)
  where
    go : (o : Option Entry) (b : Bool) → same_path k e.path ≡ b → option_or o (if b then Some e else None) ≡ Some y → (o ≡ Some y) ⊎ ((k ≡ e.path) × (e ≡ y))
    go (Some x) b is same = inl same
    go None true is same = inr (same_path-true k e.path is, cc)
    go None false is same = absurd (cc)

-- a path that is found among the first is found among all
there_further : (k : List Bool) (xs : List Entry) (e : Entry) → IsSome (entry_of k xs) → IsSome (entry_of k (xs ++ e ∷ []))
there_further k xs e there = subst (λ (o : Option Entry). IsSome o) (sym (entry_of-append k xs (e ∷ []))) (go (entry_of k xs) there)
  where
    go : (o : Option Entry) → IsSome o → IsSome (option_or o (entry_of k (e ∷ [])))
    go None is = absurd (false≢true is)
    go (Some x) is = refl

-- and so is the last one's
there_last : (k : List Bool) (xs : List Entry) (e : Entry) → e.path ≡ k → IsSome (entry_of k (xs ++ e ∷ []))
there_last k xs e same =
    let here : entry_of k (e ∷ []) ≡ Some e = ap (λ (b : Bool). if b then Some e else None) (here_same k e same) in
    subst (λ (o : Option Entry). IsSome o) (sym (entry_of-append k xs (e ∷ []) ∙ ap (option_or (entry_of k xs)) here)) (go (entry_of k xs))
  where
    go : (o : Option Entry) → IsSome (option_or o (Some e))
    go None = refl
    go (Some x) = refl

-- one more is listed: the entry that the next rank leads to
pub IsListedTo-push : (stored : List Stored) (index : Index) (rank : ℕ) (listed : List Entry) (e : Entry) → IsIndexed stored index → rank < count_of index
    → e.path ≡ (mark_at index rank).path → entry_of e.path (standing stored) ≡ Some e → IsListedTo stored index rank listed → IsListedTo stored index (rank + 1) (listed ++ e ∷ [])
IsListedTo-push stored index rank listed e indexed within path stands so_far = record {
  count = omega (arith, length_push listed e, so_far.count);
  rises = Rises-push listed e so_far.rises (subst (λ (n : ℕ). AreBefore n listed) (sym level) (so_far.before within));
  before = λ less.
      let later = indexed.rises rank (rank + 1) (omega arith) less in
      AreBefore-push _ listed e (AreBefore-later _ _ listed (omega (arith, later)) (so_far.before within)) (omega (arith, level, later));
  found = λ k y found. elim (found_then k listed e y found) [
    | inl first ↦ so_far.found k y first
    | inr last ↦ ap (λ (p : List Bool). entry_of p (standing stored)) last.0 ∙ (stands ∙ ap (λ (x : Entry). Some x) last.1)
  ];
  covers = λ i less. elim (cases_eq i rank) [
    | inl one ↦ there_last (mark_at index i).path listed e (path ∙ ap (λ (n : ℕ). (mark_at index n).path) (sym one))
    | inr other ↦ there_further (mark_at index i).path listed e (so_far.covers i (omega (arith, less, other)))
  ];
}
  where
    level : order_of e.path ≡ order_of (mark_at index rank).path
    level = ap order_of path

-- All entries are listed once each rank's is.
pub alike_listed : (stored : List Stored) (index : Index) (listed : List Entry) → IsIndexed stored index → IsListedTo stored index (count_of index) listed → AreAlike (standing stored) listed
alike_listed stored index listed indexed all = record {
  distinct = indexed.distinct;
  distinct_others = AreDistinct-from_rises listed all.rises;
  found = λ k. go k (entry_of k listed) refl;
  len = all.count ∙ indexed.count;
}
  where
    missing : (k : List Bool) → entry_of k listed ≡ None → (i : ℕ) → i < count_of index → (mark_at index i).path ≢ k
    missing k none i less same =
        let there : IsSome (entry_of k listed) = subst (λ (p : List Bool). IsSome (entry_of p listed)) same (all.covers i less) in
        false≢true (subst (λ (o : Option Entry). IsSome o) none there)

    go : (k : List Bool) (o : Option Entry) → entry_of k listed ≡ o → entry_of k listed ≡ entry_of k (standing stored)
    go k (Some e) is = is ∙ sym (all.found k e is)
    go k None is = is ∙ sym (indexed.covers k (missing k is))

-- an entry more, with its slot
pub entries_in-push : (listed more : List ListedEntry) (one : ListedEntry) → more ≡ listed ++ one ∷ [] → entries_in more ≡ entries_in listed ++ one.entry ∷ []
entries_in-push listed more one is = ap entries_in is ∙ map-append (λ (x : ListedEntry). x.entry) listed (one ∷ [])

-- the entries before one, it, and those behind it
pub entries_in-split : (listed : List ListedEntry) (i : ℕ) (one : ListedEntry) → i < length listed → one ≡ get_or listed i one
    → entries_in listed ≡ entries_in (take i listed) ++ one.entry ∷ entries_in (drop (suc i) listed)
entries_in-split [] i one within is = absurd (omega (arith, within))
entries_in-split (x ∷ xs) zero one within is = ap (λ (e : ListedEntry). e.entry ∷ entries_in xs) (sym is)
entries_in-split (x ∷ xs) (suc i) one within is = ap (λ (more : List Entry). x.entry ∷ more) (entries_in-split xs i one (omega (arith, within)) is)

-- ---- by slots

-- The slots are made again of what is listed of them.
made_again : (front slots : Slots) → with_listed (front ++ empty_slots (length slots)) (listed_from (length front) slots) ≡ front ++ slots
made_again front [] = refl
made_again front (None ∷ slots) =
    ap (λ (all : Slots). with_listed all (listed_from (suc (length front)) slots)) (sym (append_assoc front (None ∷ []) (empty_slots (length slots))))
    ∙ (ap (λ (n : ℕ). with_listed ((front ++ None ∷ []) ++ empty_slots (length slots)) (listed_from n slots)) (let same : suc (length front) ≡ length (front ++ None ∷ []) = omega (arith, length_push front None) in same)
    ∙ (made_again (front ++ None ∷ []) slots ∙ append_assoc front (None ∷ []) slots))
made_again front (Some e ∷ slots) =
    ap (λ (all : Slots). with_listed all (listed_from (suc (length front)) slots))
    (set-append_seam front None (empty_slots (length slots)) (Some e) ∙ sym (append_assoc front (Some e ∷ []) (empty_slots (length slots))))
    ∙ (ap (λ (n : ℕ). with_listed ((front ++ Some e ∷ []) ++ empty_slots (length slots)) (listed_from n slots)) (let same : suc (length front) ≡ length (front ++ Some e ∷ []) = omega (arith, length_push front (Some e)) in same)
    ∙ (made_again (front ++ Some e ∷ []) slots ∙ append_assoc front (Some e ∷ []) slots))

pub with_listed-listed : (slots : Slots) → with_listed (empty_slots (length slots)) (listed_from 0 slots) ≡ slots
with_listed-listed slots = made_again [] slots

-- slots that rise from one on do so from one before
rise_earlier : (slot next count : ℕ) (listed : List ListedEntry) → slot ≤ next → SlotsRise next count listed → SlotsRise slot count listed
rise_earlier slot next count [] less rise = tt
rise_earlier slot next count (one ∷ more) less rise = (omega (arith, less, rise.0), rise.1, rise.2)

-- What is listed rises by its slots.
pub SlotsRise-listed : (slot count : ℕ) (slots : Slots) → slot + length slots ≤ count → SlotsRise slot count (listed_from slot slots)
SlotsRise-listed slot count [] within = tt
SlotsRise-listed slot count (None ∷ slots) within = rise_earlier slot (suc slot) count (listed_from (suc slot) slots) (omega arith) (SlotsRise-listed (suc slot) count slots (omega (arith, within)))
SlotsRise-listed slot count (Some e ∷ slots) within = (omega arith, omega (arith, within), SlotsRise-listed (suc slot) count slots (omega (arith, within)))

-- entries that are put into their slots one after another: first some, then one more
pub with_listed-push : (slots : Slots) (listed : List ListedEntry) (one : ListedEntry) → with_listed slots (listed ++ one ∷ []) ≡ with_slot (with_listed slots listed) one.slot (Some one.entry)
with_listed-push slots [] one = refl
with_listed-push slots (x ∷ listed) one = with_listed-push (with_slot slots x.slot (Some x.entry)) listed one
