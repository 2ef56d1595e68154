-- What the tests of what is kept of a verifier say, and that what says so passes them.
use Rattle.std.proofs.Common.{◌≡◌, inl, inr, ℕ, suc, ◌+◌, ◌<◌, ◌≤◌, ◌==◌, ◌&&◌, ◌||◌, eqb, ltb, leb, Bool, true, false, cond, List, [], ◌∷◌, Option, Some, None, refl, subst, arith}
use Rattle.std.specs.Prelude.{IsTrue}
use Rattle.std.specs.List.{AllByRecursion}
use Rattle.std.proofs.lemmas.Bool.{leb-true, ltb-true, eqb-true, and_parts}
use Rattle.lamport_clocks.specs.declared.header.Header.{Header}
use Rattle.lamport_clocks.specs.Header.{names_paths}
use Rattle.lamport_clocks.specs.declared.stamp.Stamp.{Stamp}
use Rattle.path_index.specs.Order.{order_of}
use Rattle.multiset_sum.specs.declared.part.Part.{Part}
use Rattle.record_text.specs.declared.operation.Operation.{Operation}
use Rattle.verifier_cache.specs.declared.listed.ListedEntry.{ListedEntry}
use Rattle.verifier_cache.specs.Alike.{RisesFrom, Rises}
use Rattle.verifier_cache.specs.Listed.{entries_in, SlotsRise}
use Rattle.seals.specs.declared.bounds.Bounds.{Bounds}
use Rattle.seals.specs.Combined.{InRow}
use Rattle.seals.specs.State.{KeptRun}
use Rattle.seals.specs.Bounds.{least_epoch, is_clock, is_path_behind, is_slot_behind, entry_follows, first_open, part_follows, is_no_later, is_open_operation, operation_follows}
use Rattle.seals.specs.Sum.{IsGoodPart}
use Rattle.seals.specs.Run.{bounds_of, IsGoodRun}
use Rattle.seals.specs.Meaning.{AreWithin, IsClock, AreByPath, IsNoLater, IsOpen, OperationsRise, PartsFrom, AreSmall}

-- ---- clocks

least-says : (header : Header) (certified epoch : ℕ) → least_epoch header certified ≤ epoch → (header.first ≤ epoch) × (0 < certified → header.first + certified + 1 ≤ epoch)
least-says header certified epoch le = go (eqb certified 0) refl le
  where
    go : (b : Bool) → eqb certified 0 ≡ b → cond b header.first (header.first + certified + 1) ≤ epoch → (header.first ≤ epoch) × (0 < certified → header.first + certified + 1 ≤ epoch)
    go true is le = (le, λ some. absurd (omega (arith, eqb-true certified 0 is)))
    go false is le = (omega arith, λ some. le)

pub clock-says : (header : Header) (certified taken : ℕ) (at : Stamp) (accepted : ℕ) → IsTrue (is_clock header certified taken at accepted) → IsClock header certified taken at accepted
clock-says header certified taken at accepted is =
    let both = and_parts _ _ is in
    let two = and_parts _ _ both.0 in
    let least = least-says header certified at.epoch (leb-true _ _ two.1) in
    record { accepted_few = leb-true _ _ two.0; from_first = least.0; sealed = least.1; within = leb-true _ _ both.1 }

-- ---- entries

no_slots : (before : Option ListedEntry) (bounds : Bounds) (entries : List ListedEntry) → names_paths bounds.header ≡ true → InRow (entry_follows bounds) before entries → AllByRecursion (λ one. one.slot ≡ 0) entries
no_slots before bounds [] by_path row = tt
no_slots before bounds (one ∷ entries) by_path row =
    let test : IsTrue (one.slot == 0 && is_path_behind before one) = subst (λ (b : Bool). IsTrue (cond b (one.slot == 0 && is_path_behind before one) (ltb one.slot bounds.header.cache && is_slot_behind before one))) by_path row.0 in
    (eqb-true _ _ (and_parts _ _ test).0, no_slots (Some one) bounds entries by_path row.1)

paths_rise : (before : ListedEntry) (bounds : Bounds) (entries : List ListedEntry) → names_paths bounds.header ≡ true → InRow (entry_follows bounds) (Some before) entries → RisesFrom before.entry (entries_in entries)
paths_rise before bounds [] by_path row = tt
paths_rise before bounds (one ∷ entries) by_path row =
    let test : IsTrue (one.slot == 0 && ltb (order_of before.entry.path) (order_of one.entry.path)) =
    subst (λ (b : Bool). IsTrue (cond b (one.slot == 0 && ltb (order_of before.entry.path) (order_of one.entry.path)) (ltb one.slot bounds.header.cache && ltb before.slot one.slot))) by_path row.0 in
    (ltb-true _ _ (and_parts _ _ test).1, paths_rise one bounds entries by_path row.1)

rise : (bounds : Bounds) (entries : List ListedEntry) → names_paths bounds.header ≡ true → InRow (entry_follows bounds) None entries → Rises (entries_in entries)
rise bounds [] by_path row = tt
rise bounds (one ∷ entries) by_path row = paths_rise one bounds entries by_path row.1

pub entries-by_path : (bounds : Bounds) (entries : List ListedEntry) → names_paths bounds.header ≡ true → InRow (entry_follows bounds) None entries → AreByPath entries
entries-by_path bounds entries by_path row = record { no_slots = no_slots None bounds entries by_path row; rises = rise bounds entries by_path row }

slots_rise : (before : ListedEntry) (bounds : Bounds) (entries : List ListedEntry) → names_paths bounds.header ≡ false → InRow (entry_follows bounds) (Some before) entries → SlotsRise (suc before.slot) bounds.header.cache entries
slots_rise before bounds [] by_path row = tt
slots_rise before bounds (one ∷ entries) by_path row =
    let test : IsTrue (ltb one.slot bounds.header.cache && ltb before.slot one.slot) =
    subst (λ (b : Bool). IsTrue (cond b (one.slot == 0 && ltb (order_of before.entry.path) (order_of one.entry.path)) (ltb one.slot bounds.header.cache && ltb before.slot one.slot))) by_path row.0 in
    let both = and_parts _ _ test in
    (omega (arith, ltb-true _ _ both.1), ltb-true _ _ both.0, slots_rise one bounds entries by_path row.1)

pub entries-by_slot : (bounds : Bounds) (entries : List ListedEntry) → names_paths bounds.header ≡ false → InRow (entry_follows bounds) None entries → SlotsRise 0 bounds.header.cache entries
entries-by_slot bounds [] by_path row = tt
entries-by_slot bounds (one ∷ entries) by_path row =
    let test : IsTrue (ltb one.slot bounds.header.cache && true) = subst (λ (b : Bool). IsTrue (cond b (one.slot == 0 && true) (ltb one.slot bounds.header.cache && true))) by_path row.0 in
    (omega arith, ltb-true _ _ (and_parts _ _ test).0, slots_rise one bounds entries by_path row.1)

-- ---- parts

parts_behind : (before : Part) (bounds : Bounds) (parts : List Part) → InRow (part_follows bounds) (Some before) parts → PartsFrom (before.epoch + 1) parts
parts_behind before bounds [] row = tt
parts_behind before bounds (part ∷ parts) row =
    let is : part.epoch ≡ before.epoch + 1 = eqb-true _ _ row.0 in
    (is, subst (λ (n : ℕ). PartsFrom (n + 1) parts) is (parts_behind part bounds parts row.1))

pub parts-say : (bounds : Bounds) (parts : List Part) → InRow (part_follows bounds) None parts → PartsFrom (first_open bounds) parts
parts-say bounds [] row = tt
parts-say bounds (part ∷ parts) row =
    let is : part.epoch ≡ first_open bounds = eqb-true _ _ row.0 in
    (is, subst (λ (n : ℕ). PartsFrom (n + 1) parts) is (parts_behind part bounds parts row.1))

pub parts-small : (bounds : Bounds) (parts : List Part) → AllByRecursion (IsGoodPart bounds) parts → AreSmall bounds.header parts
parts-small bounds [] good = tt
parts-small bounds (part ∷ parts) good = ((good.0.added.within, good.0.evicted.within), parts-small bounds parts good.1)

-- ---- operations

no_later-says : (stamp other : Stamp) → is_no_later stamp other ≡ true → IsNoLater stamp other
no_later-says stamp other is = go (ltb stamp.epoch other.epoch) refl is
  where
    go : (b : Bool) → ltb stamp.epoch other.epoch ≡ b → (b || (stamp.epoch == other.epoch && leb stamp.counter other.counter)) ≡ true → IsNoLater stamp other
    go true lt is = inl (ltb-true _ _ lt)
    go false lt is = let both = and_parts (stamp.epoch == other.epoch) (leb stamp.counter other.counter) is in inr (eqb-true _ _ both.0, leb-true _ _ both.1)

open-says : (header : Header) (certified number : ℕ) (run : KeptRun) (one : Operation) → is_open_operation (bounds_of header certified number run) one ≡ true → IsOpen header certified run one
open-says header certified number run one is =
    let both = and_parts _ _ is in
    let three = and_parts _ _ both.0 in
    let two = and_parts _ _ three.0 in record {
      accepted = ltb-true _ _ two.0;
      open_epoch = leb-true _ _ two.1;
      within = leb-true _ _ three.1;
      no_later = no_later-says one.stamp run.at both.1;
    }

pub operations-open : (header : Header) (certified number : ℕ) (run : KeptRun) (before : Option Operation) (operations : List Operation) → InRow (operation_follows (bounds_of header certified number run)) before operations
    → AllByRecursion (IsOpen header certified run) operations
operations-open header certified number run before [] row = tt
operations-open header certified number run before (one ∷ operations) row =
    (open-says header certified number run one (and_parts _ _ row.0).0, operations-open header certified number run (Some one) operations row.1)

pub operations-rise : (bounds : Bounds) (before : Option Operation) (operations : List Operation) → InRow (operation_follows bounds) before operations → OperationsRise operations
operations-rise bounds before [] row = tt
operations-rise bounds before (one ∷ []) row = tt
operations-rise bounds before (one ∷ next ∷ more) row =
    let both = and_parts (ltb one.index next.index) (is_no_later one.stamp next.stamp) (and_parts _ _ row.1.0).1 in
    ((ltb-true _ _ both.0, no_later-says one.stamp next.stamp both.1), operations-rise bounds (Some one) (next ∷ more) row.1)

-- ---- sums

pub sums-within : (header : Header) (certified taken number : ℕ) (run : KeptRun) → IsGoodRun header certified taken number run → AreWithin header run
sums-within header certified taken number run good = record {
  added = good.added.within;
  evicted = good.evicted.within;
  added_before = good.added_before.within;
  evicted_before = good.evicted_before.within;
}
