-- The index and the free numbers tell which path stands in each slot, after each change.
use Rattle.std.proofs.Common.{◌≡◌, ◌≢◌, ℕ, ◌<◌, ◌≤◌, inl, inr, Bool, true, false, List, length, set, replicate, Option, Some, None, is_some, is_ok, Result, Ok, Err, get_or-set_same, get_or-set_other, length-set, refl, sym, ◌∙◌, ap, subst, arith}
use Rattle.std.specs.Result.{IfOk, IfErr, IsOk, IsErr}
use Rattle.std.proofs.lemmas.Bool.{cases_lt, cases_eq, true≢false, false≢true}
use Rattle.std.proofs.lemmas.Option.{none-some, same_Some}
use Rattle.std.proofs.lemmas.List.{map-set, length-map, length-replicate}
use Rattle.free_numbers.specs.Free.{lowest_free}
use Rattle.path_index.specs.declared.index.Index.{Index}
use Rattle.path_index.specs.declared.index.Mark.{Mark}
use Rattle.path_index.specs.Order.{order_of}
use Rattle.path_index.specs.Index.{mark_at, count_of, most_of, IsSound, IsRankOf, IsGapFor}
use Rattle.slot_rewriting.specs.Rewriting.{SlotPaths, slot_of, lowest_empty, HasSlot, HasNoSlot, HasEmpty}
use Rattle.slot_rewriting.specs.Indexed.{path_in, is_empty, HasMark, IsIndexed}
use Rattle.slot_rewriting.proofs.MarkLemmas.{CameIn, WentOut, one_mark, rises_in, has_new, has_still, had_or_new, rises_out, had_other, has_other}
use Rattle.slot_rewriting.proofs.SlotPathLaws.{path_in-within, path_in-slot_of, HasSlot-at, path_in-lowest, lowest_by_free, none_by_free, taken-room, taken-in, taken-out, taken-none, all_empty, path_in-none}

-- the mark of a path in a slot
abbrev pub mark_of : List Bool → ℕ → Mark
mark_of path slot = record { path = path; at = slot }

-- a path stands in one slot
pub one_slot : (paths : SlotPaths) (index : Index) (free : List Bool) (path : List Bool) (slot : ℕ) → IsIndexed paths index free → path_in paths slot ≡ Some path → slot ≡ slot_of path paths
one_slot paths index free path slot indexed is =
    let own : path_in paths (slot_of path paths) ≡ Some path = path_in-slot_of path paths (HasSlot-at path paths slot is) in
    ap (λ (m : Mark). m.at) (one_mark index (mark_of path slot) (mark_of path (slot_of path paths)) indexed.rises (indexed.covers slot path is) (indexed.covers (slot_of path paths) path own) refl)

-- ---- what is found

-- a path that stands in a slot has no gap
no_gap : (paths : SlotPaths) (index : Index) (free : List Bool) (path : List Bool) (rank : ℕ) → IsIndexed paths index free → HasSlot path paths → IsGapFor path index rank → ⊥
no_gap paths index free path rank indexed there gap =
    let has : HasMark index (mark_of path (slot_of path paths)) = indexed.covers (slot_of path paths) path (path_in-slot_of path paths there) in
    let same : order_of (mark_at index has.0).path ≡ order_of path = ap (λ (m : Mark). order_of m.path) has.2 in
    elim (cases_lt has.0 rank) [
      | inl low ↦ omega (arith, gap.before has.0 low, same)
      | inr high ↦ omega (arith, gap.behind has.0 high has.1, same)
    ]

pub is_found : (r : Result ℕ ℕ) (paths : SlotPaths) (index : Index) (free : List Bool) (path : List Bool) → IsIndexed paths index free → HasSlot path paths
    → IfErr r (IsGapFor path index) → IsOk r
is_found (Ok rank) paths index free path indexed there gap = refl
is_found (Err rank) paths index free path indexed there gap = absurd (no_gap paths index free path rank indexed there gap)

-- the mark of a path leads to its slot
pub slot_by_rank : (paths : SlotPaths) (index : Index) (free : List Bool) (path : List Bool) (rank : ℕ) → IsIndexed paths index free → IsRankOf path index rank
    → path_in paths (mark_at index rank).at ≡ Some path
slot_by_rank paths index free path rank indexed found =
    indexed.leads (mark_at index rank) (rank, found.within, refl) ∙ ap (λ (p : List Bool). Some p) found.path_there

pub is_absent : (r : Result ℕ ℕ) (paths : SlotPaths) (index : Index) (free : List Bool) (path : List Bool) → IsIndexed paths index free → HasNoSlot path paths
    → IfOk r (IsRankOf path index) → IsErr r
is_absent (Err rank) paths index free path indexed absent found = refl
is_absent (Ok rank) paths index free path indexed absent found =
    absurd (omega (arith, absent, HasSlot-at path paths _ (slot_by_rank paths index free path rank indexed found)))

-- ---- changes

-- there is room for one mark more
pub room_for_one : (paths : SlotPaths) (index : Index) (free : List Bool) → IsIndexed paths index free → HasEmpty paths → count_of index < most_of index
room_for_one paths index free indexed has =
    omega (arith, indexed.count, indexed.room, taken-room paths (lowest_empty paths) has (path_in-lowest paths has))

-- a path takes the lowest empty slot
pub indexed_in : (paths : SlotPaths) (index next : Index) (free : List Bool) (path : List Bool) (rank slot : ℕ) → IsIndexed paths index free → HasEmpty paths → slot ≡ lowest_empty paths
    → CameIn index next rank (mark_of path slot) → IsSound next → most_of next ≡ most_of index
    → IsIndexed (set paths slot (Some path)) next (set free slot false)
indexed_in paths index next free path rank slot indexed has is came sound most = record {
  sound = sound;
  rises = rises_in index next rank (mark_of path slot) came indexed.rises;
  leads = leads;
  covers = covers;
  count = came.count ∙ omega (arith, indexed.count, taken-in paths slot path within was_empty);
  room = omega (arith, indexed.room, most, length-set paths slot (Some path));
  few = omega (arith, indexed.few, length-set paths slot (Some path));
  empty = ap (λ (bs : List Bool). set bs slot false) indexed.empty ∙ sym (map-set is_empty paths slot (Some path));
}
  where
    within : slot < length paths
    within = omega (arith, is, has)

    was_empty : path_in paths slot ≡ None
    was_empty = ap (path_in paths) is ∙ path_in-lowest paths has

    leads : (mark : Mark) → HasMark next mark → path_in (set paths slot (Some path)) mark.at ≡ Some mark.path
    leads mark had = elim (had_or_new index next rank (mark_of path slot) mark came had) [
      | inl new ↦ ap (λ (m : Mark). path_in (set paths slot (Some path)) m.at) new ∙ (get_or-set_same paths slot (Some path) None within ∙ sym (ap (λ (m : Mark). Some m.path) new))
      | inr old ↦
          let stood : path_in paths mark.at ≡ Some mark.path = indexed.leads mark old in
          let apart : mark.at ≢ slot = λ same. none-some mark.path (sym was_empty ∙ (ap (path_in paths) (sym same) ∙ stood)) in
          get_or-set_other paths slot mark.at (Some path) None apart ∙ stood
    ]

    covers : (s : ℕ) (p : List Bool) → path_in (set paths slot (Some path)) s ≡ Some p → HasMark next (mark_of p s)
    covers s p stands = elim (cases_eq s slot) [
      | inl one ↦
          let same : path ≡ p = same_Some path p (sym (get_or-set_same paths slot (Some path) None within) ∙ (ap (path_in (set paths slot (Some path))) (sym one) ∙ stands)) in
          subst (λ (n : ℕ). HasMark next (mark_of p n)) (sym one) (subst (λ (q : List Bool). HasMark next (mark_of q slot)) same (has_new index next rank (mark_of path slot) came))
      | inr apart ↦ has_still index next rank (mark_of path slot) (mark_of p s) came (indexed.covers s p (sym (get_or-set_other paths slot s (Some path) None apart) ∙ stands))
    ]

-- a path leaves its slot
pub indexed_out : (paths : SlotPaths) (index next : Index) (free : List Bool) (path : List Bool) (rank slot : ℕ) → IsIndexed paths index free → IsRankOf path index rank
    → slot ≡ (mark_at index rank).at → WentOut index next rank → IsSound next → most_of next ≡ most_of index
    → IsIndexed (set paths slot None) next (set free slot true)
indexed_out paths index next free path rank slot indexed found is went sound most = record {
  sound = sound;
  rises = rises_out index next rank went indexed.rises;
  leads = leads;
  covers = covers;
  count = omega (arith, went.count, indexed.count, taken-out paths slot path stood);
  room = omega (arith, indexed.room, most, length-set paths slot None);
  few = omega (arith, indexed.few, length-set paths slot None);
  empty = ap (λ (bs : List Bool). set bs slot true) indexed.empty ∙ sym (map-set is_empty paths slot None);
}
  where
    stood : path_in paths slot ≡ Some path
    stood = ap (path_in paths) is ∙ slot_by_rank paths index free path rank indexed found

    leads : (mark : Mark) → HasMark next mark → path_in (set paths slot None) mark.at ≡ Some mark.path
    leads mark had =
        let other = had_other index next rank mark went indexed.rises had in
        let stands : path_in paths mark.at ≡ Some mark.path = indexed.leads mark other.0 in
        let apart : mark.at ≢ slot = λ same. other.1 (same_Some mark.path path (sym stands ∙ (ap (path_in paths) same ∙ stood)) ∙ sym found.path_there) in
        get_or-set_other paths slot mark.at None None apart ∙ stands

    covers : (s : ℕ) (p : List Bool) → path_in (set paths slot None) s ≡ Some p → HasMark next (mark_of p s)
    covers s p stands = elim (cases_eq s slot) [
      | inl one ↦
          absurd (none-some p (sym (get_or-set_same paths slot None None (path_in-within paths slot path stood)) ∙ (ap (path_in (set paths slot None)) (sym one) ∙ stands)))
      | inr apart ↦
          let was : path_in paths s ≡ Some p = sym (get_or-set_other paths slot s None None apart) ∙ stands in
          let other : p ≢ (mark_at index rank).path = λ same.
          apart (one_slot paths index free p s indexed was ∙ sym (one_slot paths index free p slot indexed (stood ∙ ap (λ (q : List Bool). Some q) (sym (same ∙ found.path_there))))) in
          has_other index next rank (mark_of p s) went (indexed.covers s p was) other
    ]

-- ---- empty slots alone

pub indexed_none : (count : ℕ) (index : Index) (free : List Bool) → IsSound index → count_of index ≡ 0 → count ≤ most_of index → count ≤ 65536 → free ≡ replicate count true
    → IsIndexed (replicate count None) index free
indexed_none count index free sound none room few is = record {
  sound = sound;
  rises = λ i j less short. absurd (omega (arith, short, none));
  leads = λ mark has. absurd (omega (arith, has.1, none));
  covers = λ slot path stands. absurd (none-some path (sym (path_in-none count slot) ∙ stands));
  count = none ∙ sym (taken-none count);
  room = omega (arith, room, long);
  few = omega (arith, few, long);
  empty = is ∙ sym (all_empty count);
}
  where
    blank : Option (List Bool)
    blank = None

    long : length (replicate count blank) ≡ count
    long = length-replicate count blank

-- ---- what the calls find

-- a path stands in this slot, and in no other
pub record IsSlotOf (path : List Bool) (paths : SlotPaths) (slot : ℕ) : Type 0 where
  pub stands : path_in paths slot ≡ Some path
  pub is : slot ≡ slot_of path paths
  pub within : slot < length paths
  pub few : slot < 65536

-- the slot to which a mark leads that was found
pub found_slot : (r : Result ℕ ℕ) (paths : SlotPaths) (index : Index) (free : List Bool) (path : List Bool) (rank : ℕ) (mark : Mark) → IsIndexed paths index free
    → IfOk r (IsRankOf path index) → r ≡ Ok rank → mark ≡ mark_at index rank → IsSlotOf path paths mark.at
found_slot r paths index free path rank mark indexed found is read =
    let own : IsRankOf path index rank = subst (λ (x : Result ℕ ℕ). IfOk x (IsRankOf path index)) is found in
    let stands : path_in paths mark.at ≡ Some path = ap (λ (m : Mark). path_in paths m.at) read ∙ slot_by_rank paths index free path rank indexed own in
    record {
      stands = stands;
      is = one_slot paths index free path mark.at indexed stands;
      within = path_in-within paths mark.at path stands;
      few = omega (arith, path_in-within paths mark.at path stands, indexed.few);
    }

-- the lowest free number is the lowest empty slot
pub lowest_found : (o : Option ℕ) (paths : SlotPaths) (index : Index) (free : List Bool) → IsIndexed paths index free → HasEmpty paths → o ≡ lowest_free free → o ≡ Some (lowest_empty paths)
lowest_found o paths index free indexed has is = is ∙ (ap lowest_free indexed.empty ∙ lowest_by_free paths has)

-- so many numbers
pub length-free : (paths : SlotPaths) (index : Index) (free : List Bool) → IsIndexed paths index free → length free ≡ length paths
length-free paths index free indexed = ap length indexed.empty ∙ length-map paths is_empty

-- the number that was given is the lowest empty slot
pub lowest_slot : (o : Option ℕ) (slot : ℕ) (paths : SlotPaths) (index : Index) (free : List Bool) → IsIndexed paths index free → HasEmpty paths → o ≡ lowest_free free → o ≡ Some slot
    → slot ≡ lowest_empty paths
lowest_slot o slot paths index free indexed has is given = same_Some slot (lowest_empty paths) (sym given ∙ lowest_found o paths index free indexed has is)

-- ---- what the tests tell

-- a path that is found has a slot
pub found_has : (r : Result ℕ ℕ) (paths : SlotPaths) (index : Index) (free : List Bool) (path : List Bool) → IsIndexed paths index free
    → IfOk r (IsRankOf path index) → is_ok r ≡ true → HasSlot path paths
found_has (Ok rank) paths index free path indexed found ok = HasSlot-at path paths _ (slot_by_rank paths index free path rank indexed found)
found_has (Err rank) paths index free path indexed found ok = absurd (false≢true ok)

-- one that isn't has none
pub absent_has_none : (r : Result ℕ ℕ) (paths : SlotPaths) (index : Index) (free : List Bool) (path : List Bool) → IsIndexed paths index free
    → IfErr r (IsGapFor path index) → is_ok r ≡ false → HasNoSlot path paths
absent_has_none (Ok rank) paths index free path indexed gap failed = absurd (true≢false failed)
absent_has_none (Err rank) paths index free path indexed gap failed = elim (cases_lt (slot_of path paths) (length paths)) [
  | inl there ↦ absurd (no_gap paths index free path rank indexed there gap)
  | inr behind ↦ behind
]

-- a number is free where a slot is empty
pub free_where_empty : (o : Option ℕ) (paths : SlotPaths) (index : Index) (free : List Bool) → IsIndexed paths index free → o ≡ lowest_free free
    → (is_some o ≡ true → HasEmpty paths) × (HasEmpty paths → is_some o ≡ true)
free_where_empty o paths index free indexed is = (there, λ has. ap is_some (lowest_found o paths index free indexed has is))
  where
    there : is_some o ≡ true → HasEmpty paths
    there some = elim (cases_lt (lowest_empty paths) (length paths)) [
      | inl has ↦ has
      | inr full ↦ absurd (false≢true (sym (ap is_some (is ∙ (ap lowest_free indexed.empty ∙ none_by_free paths full))) ∙ some))
    ]
