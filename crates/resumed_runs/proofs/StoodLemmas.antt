-- What is kept of a course that stands well has stood: its entries, listed, and all else as it is.
use Rattle.std.proofs.Common.{◌≡◌, ℕ, suc, ◌+◌, ◌*◌, ◌^◌, ◌<◌, ◌≤◌, Bool, true, false, List, [], ◌∷◌, length, Option, Some, None, IsNone, is_some, if◌then◌else◌, refl, sym, ap, subst, ◌∙◌, arith}
use Rattle.std.specs.List.{AllByRecursion}
use Rattle.std.proofs.lemmas.Bool.{false≢true}
use Rattle.std.proofs.lemmas.List.{length-map}
use Rattle.tree_keys.specs.Path.{same_path}
use Rattle.tree_keys.proofs.PathLaws.{same_path-apart}
use Rattle.lamport_clocks.specs.declared.header.Header.{Header}
use Rattle.lamport_clocks.specs.Header.{IsHeader, names_paths}
use Rattle.lamport_clocks.specs.declared.stamp.Stamp.{Stamp}
use Rattle.lamport_clocks.specs.Clock.{opening_reading}
use Rattle.multiset_sum.specs.declared.part.Part.{Part}
use Rattle.record_text.specs.declared.operation.Operation.{Operation}
use Rattle.record_text.specs.Tree.{wide_of}
use Rattle.record_text.specs.Longest.{longest_of}
use Rattle.stamp_order.proofs.InOrderLaws.{every-weaker}
use Rattle.verifier_cache.specs.declared.entry.Entry.{Entry}
use Rattle.verifier_cache.specs.declared.listed.ListedEntry.{ListedEntry}
use Rattle.verifier_cache.specs.Cache.{Held, entry_of, AreDistinct}
use Rattle.verifier_cache.specs.Slots.{Slots}
use Rattle.verifier_cache.specs.Listed.{entries_in, listed_from, SlotsRise}
use Rattle.verifier_cache.proofs.EntriesLaws.{here_same}
use Rattle.verifier_commands.specs.declared.sums.Sums.{Sums}
use Rattle.verifier_commands.specs.VerifierState.{AnyCache, by_path, by_slot}
use Rattle.verifier_commands.specs.Resumed.{AreListedByPath, AreListedOf}
use Rattle.verifier_run.specs.Course.{Course}
use Rattle.verifier_run.specs.Sealed.{IsKeptOf}
use Rattle.seals.specs.State.{KeptRun}
use Rattle.seals.specs.Entry.{IsGoodEntry}
use Rattle.seals.specs.Meaning.{AreByPath, AreSmall, IsPartOf, HasStood}
use Rattle.resumed_runs.proofs.EntryTextLemmas.{HasText}
use Rattle.resumed_runs.proofs.CacheTextLemmas.{HaveTexts, HasTextThere, IsHeldWell, AreSlotsWell, IsCacheWell, found_text}
use Rattle.resumed_runs.proofs.ClockLemmas.{clock-stamp}
use Rattle.resumed_runs.proofs.OperationLemmas.{between-rise, between-good, between-open}
use Rattle.resumed_runs.proofs.MachineLemmas.{IsPartWell}
use Rattle.resumed_runs.proofs.CourseLemmas.{LeftStands}

-- Listed entries stand: no more than the cache may hold, each with a text, in the order of their paths or slots.
pub record EntriesStand (header : Header) (listed : List ListedEntry) : Type 0 where
  pub few : length listed ≤ header.cache
  pub entries : AllByRecursion (IsGoodEntry header) listed
  pub by_path : names_paths header ≡ true → AreByPath listed
  pub by_slot : names_paths header ≡ false → SlotsRise 0 header.cache listed

-- ---- by path

-- a path that is found further on isn't that of an entry before
apart_from : (k : List Bool) (x : Entry) (xs : List Entry) (e : Entry) → IsNone (entry_of x.path xs) → entry_of k xs ≡ Some e → same_path k x.path ≡ false
apart_from k x xs e none found =
    same_path-apart k x.path
    (λ same. false≢true (sym none ∙ ap (λ (o : Option Entry). is_some o) (ap (λ (p : List Bool). entry_of p xs) (sym same) ∙ found)))

-- each is found by its path
each_found : (xs : List Entry) → AreDistinct xs → AllByRecursion (λ e. entry_of e.path xs ≡ Some e) xs
each_found [] distinct = tt
each_found (x ∷ xs) distinct = (
  ap (λ (b : Bool). if b then Some x else entry_of x.path xs) (here_same x.path x refl),
  every-weaker (λ (e : Entry). entry_of e.path xs ≡ Some e) (λ (e : Entry). entry_of e.path (x ∷ xs) ≡ Some e)
      (λ e found. ap (λ (b : Bool). if b then Some x else entry_of e.path xs) (apart_from e.path x xs e distinct.0 found) ∙ found) xs (each_found xs distinct.1),
)

good_entry : (header : Header) (one : ListedEntry) → one.slot < 2 ^ 16 → HasText (wide_of header) (longest_of header) one.entry → IsGoodEntry header one
good_entry header one slot text = record { slot = slot; tree = text.tree; kind = text.kind; kids = text.kids }

good_by_path : (header : Header) (entries all : List Entry) (listed : List ListedEntry) → HaveTexts (wide_of header) (longest_of header) entries → ((path : List Bool) → entry_of path all ≡ entry_of path entries)
    → AllByRecursion (λ e. entry_of e.path all ≡ Some e) (entries_in listed) → AllByRecursion (λ one. one.slot ≡ 0) listed → AllByRecursion (IsGoodEntry header) listed
good_by_path header entries all [] texts same found none = tt
good_by_path header entries all (one ∷ listed) texts same found none = (
  good_entry header one (omega (arith, none.0)) (found_text (wide_of header) (longest_of header) one.entry.path entries one.entry texts (sym (same one.entry.path) ∙ found.0)),
  good_by_path header entries all listed texts same found.1 none.1,
)

by_path_stand : (header : Header) (held : Held) (listed : List ListedEntry) → names_paths header ≡ true → IsHeldWell (wide_of header) (longest_of header) header.cache held → AreListedByPath held listed → EntriesStand header listed
by_path_stand header held listed version well are = record {
  few = omega (arith, length-map listed (λ (one : ListedEntry). one.entry), are.alike.len, well.within);
  entries = good_by_path header held.entries (entries_in listed) listed well.texts are.alike.found (each_found (entries_in listed) are.alike.distinct_others) are.no_slots;
  by_path = λ is. record { no_slots = are.no_slots; rises = are.rises };
  by_slot = λ is. absurd (false≢true (sym is ∙ version));
}

-- ---- by slot

slots_rise : (from low count : ℕ) (slots : Slots) → low ≤ from → from + length slots ≡ count → SlotsRise low count (listed_from from slots)
slots_rise from low count [] below is = tt
slots_rise from low count (None ∷ slots) below is = slots_rise (suc from) low count slots (omega (arith, below)) (omega (arith, is))
slots_rise from low count (Some entry ∷ slots) below is = (below, omega (arith, is), slots_rise (suc from) (suc from) count slots (omega arith) (omega (arith, is)))

few_listed : (from : ℕ) (slots : Slots) → length (listed_from from slots) ≤ length slots
few_listed from [] = omega arith
few_listed from (None ∷ slots) = omega (arith, few_listed (suc from) slots)
few_listed from (Some entry ∷ slots) = omega (arith, few_listed (suc from) slots)

good_by_slot : (header : Header) (from : ℕ) (slots : Slots) → from + length slots ≤ 2 ^ 16 → AllByRecursion (HasTextThere (wide_of header) (longest_of header)) slots → AllByRecursion (IsGoodEntry header) (listed_from from slots)
good_by_slot header from [] within texts = tt
good_by_slot header from (None ∷ slots) within texts = good_by_slot header (suc from) slots (omega (arith, within)) texts.1
good_by_slot header from (Some entry ∷ slots) within texts = (good_entry header (record { slot = from; entry = entry }) (omega (arith, within)) texts.0, good_by_slot header (suc from) slots (omega (arith, within)) texts.1)

by_slot_stand : (header : Header) (slots : Slots) → IsHeader header → names_paths header ≡ false → AreSlotsWell (wide_of header) (longest_of header) header.cache slots → EntriesStand header (listed_from 0 slots)
by_slot_stand header slots good version well = record {
  few = omega (arith, few_listed 0 slots, well.count_is);
  entries = good_by_slot header 0 slots (omega (arith, well.count_is, good.cache)) well.texts;
  by_path = λ is. absurd (false≢true (sym version ∙ is));
  by_slot = λ is. slots_rise 0 0 header.cache slots (omega arith) (omega (arith, well.count_is));
}

-- The entries of a cache of either kind, listed.
entries_stand : (header : Header) (paths : Bool) (cache : AnyCache) (listed : List ListedEntry) → IsHeader header → names_paths header ≡ paths → IsCacheWell paths (wide_of header) (longest_of header) header.cache cache
    → AreListedOf cache listed → EntriesStand header listed
entries_stand header true (by_path held) listed good version well are = by_path_stand header held listed version well are
entries_stand header true (by_slot slots) listed good version well are = absurd well
entries_stand header false (by_path held) listed good version well are = absurd well
entries_stand header false (by_slot slots) listed good version well are = subst (EntriesStand header) (sym are) (by_slot_stand header slots good version well)

-- ---- parts

own_parts : (header : Header) (number : ℕ) (parts : List Part) → AllByRecursion (IsPartWell header number) parts → AllByRecursion (IsPartOf number) parts
own_parts header number parts all = every-weaker (IsPartWell header number) (IsPartOf number) (λ part well. well.own) parts all

small_parts : (header : Header) (number : ℕ) (parts : List Part) → AllByRecursion (IsPartWell header number) parts → AreSmall header parts
small_parts header number parts all =
    every-weaker (IsPartWell header number) (λ part. (part.added.count ≤ 2 * header.end) × (part.evicted.count ≤ 2 * header.end)) (λ part well. (well.added, well.evicted)) parts all

-- ---- all of it

-- what is kept of a course with these entries listed
abbrev kept_as : Course Operation → List ListedEntry → KeptRun
kept_as course listed = record {
  at = course.machine.state.clock.at;
  accepted = course.machine.accepted;
  entries = listed;
  added_before = course.machine.sums.added_before;
  evicted_before = course.machine.sums.evicted_before;
  added = course.machine.sums.added;
  evicted = course.machine.sums.evicted;
  parts = course.parts;
  operations = course.items;
}

kept_is : (course : Course Operation) (kept : KeptRun) → IsKeptOf course kept → kept ≡ kept_as course kept.entries
kept_is course kept is =
    ap (λ (at : Stamp). record kept { at = at }) is.at
    ∙ (ap (λ (accepted : ℕ). record kept { at = course.machine.state.clock.at; accepted = accepted }) is.accepted
    ∙ (ap (λ (sums : Sums). record kept {
      at = course.machine.state.clock.at;
      accepted = course.machine.accepted;
      added_before = sums.added_before;
      evicted_before = sums.evicted_before;
      added = sums.added;
      evicted = sums.evicted;
    }) is.sums
    ∙ (ap (λ (parts : List Part). record (kept_as course kept.entries) { parts = parts; operations = kept.operations }) is.parts
    ∙ ap (λ (operations : List Operation). record (kept_as course kept.entries) { operations = operations }) is.operations)))

as_stood : (header : Header) (certified taken number most : ℕ) (course : Course Operation) (listed : List ListedEntry) → IsHeader header → LeftStands header certified number most course → EntriesStand header listed
    → most ≤ taken → taken < 2 ^ 64 → HasStood header certified taken number (kept_as course listed)
as_stood header certified taken number most course listed good left entries within few =
    let stands = left.stands in
    let machine = stands.machine in
    let clock = machine.clock in
    let bounded = machine.sums.bounded in
    let tallies = machine.sums.tallies in
    let run = kept_as course listed in
    let accepted : course.machine.accepted < 2 ^ 64 = omega (arith, stands.few, within, few) in
    let start = (opening_reading header.first header.end).at in
    record {
      stamp = clock-stamp header course.machine.state.clock good clock;
      accepted = accepted;
      clock = record {
        accepted_few = omega (arith, stands.few, within);
        from_first = omega (arith, clock.first, clock.fits.from_first);
        sealed = left.sealed;
        within = omega (arith, clock.end, clock.fits.within);
      };
      few_entries = entries.few;
      entries = entries.entries;
      by_path = entries.by_path;
      by_slot = entries.by_slot;
      within = record {
        added = bounded.added;
        evicted = bounded.evicted;
        added_before = omega (arith, bounded.added_before, clock.end);
        evicted_before = omega (arith, bounded.evicted_before, clock.end);
      };
      sums = record { added = tallies.added; evicted = tallies.evicted; added_before = tallies.added_before; evicted_before = tallies.evicted_before };
      parts = own_parts header number course.parts stands.parts;
      small_parts = small_parts header number course.parts stands.parts;
      each_sealed = left.each_sealed;
      in_order = left.in_order;
      operations = between-good header number course.machine.accepted course.machine.state.clock.at certified 0 start run course.items (omega arith) accepted stands.operations;
      each_open = between-open header number course.machine.accepted course.machine.state.clock.at certified 0 start run course.items refl refl stands.operations left.open_epochs;
      rising = between-rise header number course.machine.accepted course.machine.state.clock.at 0 start course.items stands.operations;
    }

-- What is kept of a course that stands well has stood.
pub kept_stood : (header : Header) (certified taken number most : ℕ) (course : Course Operation) (kept : KeptRun) → IsHeader header → LeftStands header certified number most course → IsKeptOf course kept
    → most ≤ taken → taken < 2 ^ 64 → HasStood header certified taken number kept
kept_stood header certified taken number most course kept good left is within few =
    subst (HasStood header certified taken number) (sym (kept_is course kept is))
    (as_stood header certified taken number most course kept.entries good left
    (entries_stand header (names_paths header) course.machine.state.cache kept.entries good refl left.stands.machine.cache is.entries) within few)
