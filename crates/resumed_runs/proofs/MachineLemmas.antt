-- A verifier that goes on from the opening by commands that were read stands well: its cache, its clock and its sums, and what it hands out.
use Rattle.std.proofs.Common.{◌≡◌, inr, ℕ, zero, suc, ◌+◌, ◌-◌, ◌*◌, ◌^◌, ◌<◌, ◌≤◌, ◌==◌, Bool, true, false, cond, List, [], ◌∷◌, ◌++◌, length, Option, Some, None, Ok, Err, refl, sym, subst, arith}
use Rattle.std.specs.List.{AllByRecursion}
use Rattle.std.proofs.lemmas.List.{length-replicate}
use Rattle.base_words.specs.Traced.{Traced, traced}
use Rattle.lamport_clocks.specs.declared.header.Header.{Header}
use Rattle.lamport_clocks.specs.Header.{IsHeader, names_paths}
use Rattle.lamport_clocks.specs.declared.stamp.Stamp.{Stamp}
use Rattle.lamport_clocks.specs.Reading.{Reading}
use Rattle.lamport_clocks.specs.Clock.{advanced, opening_reading}
use Rattle.lamport_clocks.proofs.ClockLaws.{advanced-ok, sealed_epoch}
use Rattle.record_hash.specs.Functions.{DigestFunctions}
use Rattle.record_hash.specs.Digests.{AreLanes}
use Rattle.multiset_sum.specs.declared.part.Part.{Part}
use Rattle.record_text.specs.declared.refusal.Refusal.{Refusal}
use Rattle.record_text.specs.Tree.{wide_of}
use Rattle.record_text.specs.Longest.{longest_of}
use Rattle.record_text.specs.Format.{format_of}
use Rattle.log_codec.specs.declared.log_command.LogCommand.{LogCommand}
use Rattle.log_codec.specs.declared.log_command.LogCommand.TheVariants.{ByPath, BySlot}
use Rattle.log_codec.specs.LogCommand.{IsCommandBy, IsCommand}
use Rattle.merkle_records.specs.Merkle.{GivesDigests}
use Rattle.merkle_records.specs.Scheme.{Scheme, scheme_of}
use Rattle.stamp_order.proofs.InOrderLaws.{every-append}
use Rattle.verifier_cache.specs.declared.entry.Entry.{Entry}
use Rattle.verifier_cache.specs.Slots.{empty_slots}
use Rattle.verifier_commands.specs.declared.state.State.{State}
use Rattle.verifier_commands.specs.declared.slot_state.SlotState.{SlotState}
use Rattle.verifier_commands.specs.State.{root_entry}
use Rattle.verifier_commands.specs.Change.{Change, did_add_m, did_evict_m, did_add_b, did_evict_b, did_evict_bm, did_get, did_put, did_next_epoch}
use Rattle.verifier_commands.specs.Outcome.{outcome_of}
use Rattle.verifier_commands.specs.Transition.{Rules, transition}
use Rattle.verifier_commands.specs.SlotTransition.{slot_transition}
use Rattle.verifier_commands.specs.VerifierState.{AnyCache, by_path, by_slot, VerifierState, VerifierStep, perform_on, perform, opening_cache}
use Rattle.verifier_commands.specs.Machine.{Machine, opening_machine, effect_of, rules_for}
use Rattle.verifier_commands.specs.Trace.{Done, changed, trace, trace_behind}
use Rattle.verifier_commands.specs.Ticks.{Ticks}
use Rattle.verifier_commands.proofs.TickLaws.{ticks_perform, path_step-ok, slot_step-ok}
use Rattle.verifier_run.specs.Kept.{keeps_operations, part_in, items_of, parts_of}
use Rattle.seals.specs.Meaning.{IsPartOf}
use Rattle.resumed_runs.proofs.EntryTextLemmas.{HasText}
use Rattle.resumed_runs.proofs.CacheTextLemmas.{HasTextThere, IsHeldWell, AreSlotsWell, IsCacheWell}
use Rattle.resumed_runs.proofs.PathStepLemmas.{OperatesWell, path_step_well}
use Rattle.resumed_runs.proofs.SlotStepLemmas.{slot_step_well}
use Rattle.resumed_runs.proofs.SumLemmas.{SumsStand, zero_stand, sums_stand}
use Rattle.resumed_runs.proofs.ClockLemmas.{ClockStands, clock-opening, clock_stands}
use Rattle.resumed_runs.proofs.OperationLemmas.{StandBetween, event_between}

-- ---- a step of the cache

-- the cache behind a change, and what the change read or wrote
abbrev pub StepsWell : Header → Change × VerifierState → Type 0
StepsWell header done = IsCacheWell (names_paths header) (wide_of header) (longest_of header) header.cache done.1.cache × OperatesWell (wide_of header) (longest_of header) done.0

module _ (rules : Rules) (wide : Bool) (longest size : ℕ) (digests : GivesDigests rules.scheme.digest) where
  abbrev CacheDid : Bool → Change × VerifierState → Type 0
  CacheDid paths done = IsCacheWell paths wide longest size done.1.cache × OperatesWell wide longest done.0

  cache_did : (paths : Bool) (cache : AnyCache) (clock : Reading) (command : LogCommand) (done : Change × VerifierState) → IsCacheWell paths wide longest size cache → IsCommandBy paths wide longest command
      → perform_on rules cache clock command ≡ Ok done → CacheDid paths done
  cache_did true (by_path held) clock (ByPath command) done well kind is =
      let state : State = record { cache = held; clock = clock } in
      let own = path_step-ok (transition rules state command) done is in
      subst (CacheDid true) (sym own.2) (path_step_well rules wide longest size digests state well own.0 command kind.0 kind.1 own.1)
  cache_did true (by_path held) clock (BySlot command) done well kind is = absurd kind
  cache_did true (by_slot slots) clock command done well kind is = absurd well
  cache_did false (by_path held) clock command done well kind is = absurd well
  cache_did false (by_slot slots) clock (ByPath command) done well kind is = absurd kind
  cache_did false (by_slot slots) clock (BySlot command) done well kind is =
      let state : SlotState = record { slots = slots; clock = clock } in
      let own = slot_step-ok (slot_transition rules state command) done is in
      subst (CacheDid false) (sym own.2) (slot_step_well rules wide longest size digests state well own.0 command kind.0 kind.1 own.1)

-- ---- a verifier

-- A verifier of this number under a header stands well.
pub record MachineStands (header : Header) (number : ℕ) (machine : Machine) : Type 0 where
  pub number_is : machine.number ≡ number
  pub cache : IsCacheWell (names_paths header) (wide_of header) (longest_of header) header.cache machine.state.cache
  pub clock : ClockStands header machine.state.clock
  pub sums : SumsStand machine.sums machine.state.clock

-- a part of it is its own, and no larger than clocks allow
pub record IsPartWell (header : Header) (number : ℕ) (part : Part) : Type 0 where
  pub own : IsPartOf number part
  pub added : part.added.count ≤ 2 * header.end
  pub evicted : part.evicted.count ≤ 2 * header.end

-- What commands come to from a verifier that has accepted so many, where its clock stands there.
pub record TraceStands (header : Header) (number index : ℕ) (from : Stamp) (most : ℕ) (traced : Traced Done Machine Refusal) : Type 0 where
  pub machine : MachineStands header number traced.state
  pub operations : StandBetween header number index from traced.state.accepted traced.state.state.clock.at (items_of keeps_operations traced.done)
  pub parts : AllByRecursion (IsPartWell header number) (parts_of traced.done)
  pub few : traced.state.accepted ≤ most

-- ---- the opening

root_text : (wide : Bool) (longest : ℕ) → HasText wide longest (root_entry wide)
root_text true longest = record { tree = refl; kind = (omega arith, tt, tt); kids = refl }
root_text false longest = record { tree = refl; kind = (omega arith, tt, tt); kids = refl }

none_there : (wide : Bool) (longest count : ℕ) → AllByRecursion (HasTextThere wide longest) (empty_slots count)
none_there wide longest zero = tt
none_there wide longest (suc count) = (tt, none_there wide longest count)

abbrev no_entry : Option Entry
no_entry = None

opening_well : (paths : Bool) (number : ℕ) (header : Header) → IsHeader header → IsCacheWell paths (wide_of header) (longest_of header) header.cache (opening_cache paths number header)
opening_well true number header good = go (number == 0)
  where
    go : (b : Bool) → IsHeldWell (wide_of header) (longest_of header) header.cache (record { entries = cond b (root_entry (wide_of header) ∷ []) []; room = header.cache })
    go true = record { room_is = refl; within = omega (arith, good.some_cache); texts = (root_text (wide_of header) (longest_of header), tt) }
    go false = record { room_is = refl; within = omega arith; texts = tt }
opening_well false number header good = go (number == 0)
  where
    go : (b : Bool) → AreSlotsWell (wide_of header) (longest_of header) header.cache (cond b (Some (root_entry (wide_of header)) ∷ empty_slots (header.cache - 1)) (empty_slots header.cache))
    go true = record { count_is = omega (arith, length-replicate (header.cache - 1) no_entry, good.some_cache); texts = (root_text (wide_of header) (longest_of header), none_there (wide_of header) (longest_of header) (header.cache - 1)) }
    go false = record { count_is = length-replicate header.cache no_entry; texts = none_there (wide_of header) (longest_of header) header.cache }

pub opening_stands : (header : Header) (number : ℕ) → IsHeader header → header.first < 2 ^ 32 → MachineStands header number (opening_machine number header)
opening_stands header number good small = record {
  number_is = refl;
  cache = opening_well (names_paths header) number header good;
  clock = clock-opening header small;
  sums = zero_stand (opening_reading header.first header.end) good.end (omega arith);
}

-- ---- what is handed in

module _ (header : Header) (number : ℕ) (machine : Machine) (stands : MachineStands header number machine) (new : Reading) where
  part_sealed : (sealed : Option ℕ) → advanced machine.state.clock ≡ Ok (sealed, new) → AllByRecursion (IsPartWell header number) (part_in (effect_of machine new.at (outcome_of (did_next_epoch sealed))))
  part_sealed None is = tt
  part_sealed (Some epoch) is =
      let turn = advanced-ok machine.state.clock new (Some epoch) is in
      let own = (sealed_epoch machine.state.clock epoch).0 (sym turn.1) in
      let bounded = stands.sums.bounded in (
        record {
          own = record { verifier = stands.number_is; epoch = omega (arith, own.1, stands.clock.last); added = stands.sums.tallies.added_before; evicted = stands.sums.tallies.evicted_before };
          added = omega (arith, bounded.added_before, bounded.counter, stands.clock.end);
          evicted = omega (arith, bounded.evicted_before, bounded.counter, stands.clock.end);
        },
        tt,
      )

  part_well : (change : Change) → Ticks machine.state.clock new change → AllByRecursion (IsPartWell header number) (part_in (effect_of machine new.at (outcome_of change)))
  part_well (did_add_m parent after child) is = tt
  part_well (did_evict_m parent after child) is = tt
  part_well (did_add_b child element) is = tt
  part_well (did_evict_b child element) is = tt
  part_well (did_evict_bm parent after child element) is = tt
  part_well (did_get entry) is = tt
  part_well (did_put before after) is = tt
  part_well (did_next_epoch sealed) is = part_sealed sealed is

-- ---- commands

module _ (functions : DigestFunctions) (header : Header) (number : ℕ) (good : IsHeader header) (digests : GivesDigests functions.digest) (lanes : (text : List ℕ) → AreLanes (functions.lanes text)) where
  abbrev scheme : Scheme
  scheme = scheme_of functions header

  -- behind an accepted command the verifier stands well
  step_stands : (machine : Machine) (command : LogCommand) (done : Change × VerifierState) → MachineStands header number machine → IsCommand (format_of header) command
      → perform (rules_for scheme machine) machine.state command ≡ Ok done → MachineStands header number (changed scheme machine done) × OperatesWell (wide_of header) (longest_of header) done.0
  step_stands machine command done stands kind is =
      let ticks = ticks_perform (rules_for scheme machine) machine.state command done is in
      let did = cache_did (rules_for scheme machine) (wide_of header) (longest_of header) header.cache digests (names_paths header) machine.state.cache machine.state.clock command done stands.cache kind is in (
        record {
          number_is = stands.number_is;
          cache = did.0;
          clock = clock_stands header machine.state.clock done.1.clock stands.clock done.0 ticks;
          sums = sums_stand scheme lanes machine.state.clock machine.sums stands.sums done.1.clock done.0 ticks;
        },
        did.1,
      )

  behind_stands : (machine : Machine) (command : LogCommand) (commands : List LogCommand) (step : VerifierStep) → perform (rules_for scheme machine) machine.state command ≡ step
      → MachineStands header number machine → IsCommand (format_of header) command
      → ((after : Machine) → MachineStands header number after → TraceStands header number after.accepted after.state.clock.at (after.accepted + length commands) (trace scheme after commands))
      → TraceStands header number machine.accepted machine.state.clock.at (machine.accepted + suc (length commands)) (trace_behind scheme machine commands step)
  behind_stands machine command commands (Ok done) is stands kind further =
      let after = changed scheme machine done in
      let did = step_stands machine command done stands kind is in
      let ticks = ticks_perform (rules_for scheme machine) machine.state command done is in
      let later = further after did.0 in
      let behind = trace scheme after commands in
      let one_more : machine.accepted + 1 ≡ suc machine.accepted = omega arith in
      record {
        machine = later.machine;
        operations = subst (λ (n : ℕ). StandBetween header number machine.accepted machine.state.clock.at behind.state.accepted behind.state.state.clock.at (keeps_operations (record { verifier = n; index = machine.accepted; at = done.1.clock.at; change = done.0 }) ++ items_of keeps_operations behind.done)) (sym stands.number_is)
            (event_between header number behind.state.accepted behind.state.state.clock.at machine.accepted machine.state.clock done.1.clock good did.0.clock (items_of keeps_operations behind.done)
            (subst (λ (n : ℕ). StandBetween header number n done.1.clock.at behind.state.accepted behind.state.state.clock.at (items_of keeps_operations behind.done)) one_more later.operations) done.0 ticks did.1);
        parts = every-append (IsPartWell header number) (part_in (effect_of machine done.1.clock.at (outcome_of done.0))) (parts_of behind.done) (part_well header number machine stands done.1.clock done.0 ticks) later.parts;
        few = omega (arith, later.few);
      }
  behind_stands machine command commands (Err refusal) is stands kind further = record {
    machine = stands;
    operations = (omega arith, inr (refl, omega arith));
    parts = tt;
    few = omega arith;
  }

  -- What commands that were read come to, from a verifier that stands well.
  pub trace_stands : (machine : Machine) (commands : List LogCommand) → MachineStands header number machine → AllByRecursion (IsCommand (format_of header)) commands
      → TraceStands header number machine.accepted machine.state.clock.at (machine.accepted + length commands) (trace scheme machine commands)
  unfolding traced
  trace_stands machine [] stands kinds = record { machine = stands; operations = (omega arith, inr (refl, omega arith)); parts = tt; few = omega arith }
  trace_stands machine (command ∷ commands) stands kinds =
      behind_stands machine command commands (perform (rules_for scheme machine) machine.state command) refl stands kinds.0
      (λ after later. trace_stands after commands later kinds.1)
