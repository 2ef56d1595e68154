-- The parts that a verifier hands in under a good header are small: each element that it counts raises its clock.
use Rattle.std.proofs.Common.{◌≡◌, ℕ, zero, suc, ◌<◌, ◌^◌, List, [], ◌∷◌, slice_get, Some, None, Ok, Err, refl, arith}
use Rattle.base_words.specs.Traced.{traced}
use Rattle.merkle_records.specs.Scheme.{Scheme}
use Rattle.std.specs.List.{AllByRecursion}
use Rattle.std.specs.Option.{option_to_list}
use Rattle.lamport_clocks.specs.declared.header.Header.{Header}
use Rattle.lamport_clocks.specs.declared.stamp.Stamp.{Stamp}
use Rattle.lamport_clocks.specs.Header.{IsHeader}
use Rattle.log_codec.specs.declared.log_command.LogCommand.{LogCommand}
use Rattle.log_codec.specs.Log.{read_log}
use Rattle.multiset_sum.specs.declared.part.Part.{Part}
use Rattle.stamp_order.proofs.InOrderLaws.{every-append}
use Rattle.verifier_commands.specs.Change.{Change, did_add_m, did_evict_m, did_add_b, did_evict_b, did_evict_bm, did_get, did_put, did_next_epoch}
use Rattle.verifier_commands.specs.Outcome.{outcome_of}
use Rattle.verifier_commands.specs.VerifierState.{VerifierStep, perform}
use Rattle.verifier_commands.specs.Machine.{Machine, AreBounded, opening_machine, effect_of, rules_for}
use Rattle.verifier_commands.specs.Trace.{changed, trace, trace_behind}
use Rattle.verifier_run.specs.Kept.{parts_of, part_in}
use Rattle.verifier_commands.proofs.TickLaws.{ticks_perform}
use Rattle.bundle_report.specs.RunReport.{courses_from, parts_at}
use Rattle.bundle_report.proofs.BoundedLaws.{bounded-after}

-- there is room for the sums of a part
abbrev pub IsSmall : Part → Type 0
IsSmall part = (part.added.count < 2 ^ 25) × (part.evicted.count < 2 ^ 25)

-- ---- a step

-- what a machine with bounded sums hands in is small
small_told : (machine : Machine) (at : Stamp) → AreBounded machine.sums machine.state.clock → (change : Change)
    → AllByRecursion IsSmall (part_in (effect_of machine at (outcome_of change)))
small_told machine at bounded (did_add_m parent after child) = tt
small_told machine at bounded (did_evict_m parent after child) = tt
small_told machine at bounded (did_add_b child element) = tt
small_told machine at bounded (did_evict_b child element) = tt
small_told machine at bounded (did_evict_bm parent after child element) = tt
small_told machine at bounded (did_get entry) = tt
small_told machine at bounded (did_put before after) = tt
small_told machine at bounded (did_next_epoch None) = tt
small_told machine at bounded (did_next_epoch (Some epoch)) =
    let end = bounded.end in
    let counter = bounded.counter in
    let added = bounded.added_before in
    let evicted = bounded.evicted_before in
    ((omega arith, omega arith), tt)

-- ---- a trace

module _ (scheme : Scheme) where
  small_behind : (machine : Machine) (command : LogCommand) (commands : List LogCommand) (step : VerifierStep)
      → perform (rules_for scheme machine) machine.state command ≡ step
      → AreBounded machine.sums machine.state.clock
      → ((after : Machine) → AreBounded after.sums after.state.clock
      → AllByRecursion IsSmall (parts_of (trace scheme after commands).done))
      → AllByRecursion IsSmall (parts_of (trace_behind scheme machine commands step).done)
  small_behind machine command commands (Ok done) is bounded further =
      let after = changed scheme machine done in
      every-append IsSmall (part_in (effect_of machine done.1.clock.at (outcome_of done.0)))
      (parts_of (trace scheme after commands).done)
      (small_told machine done.1.clock.at bounded done.0)
      (further after (bounded-after scheme machine.state.clock done.1.clock machine.sums
      bounded done.0 (ticks_perform (rules_for scheme machine) machine.state command done is)))
  small_behind machine command commands (Err refusal) is bounded further = tt

  -- The parts of a trace are small, from any machine whose sums are bounded.
  trace-small : (machine : Machine) (commands : List LogCommand) → AreBounded machine.sums machine.state.clock
      → AllByRecursion IsSmall (parts_of (trace scheme machine commands).done)
  unfolding traced
  trace-small machine [] bounded = tt
  trace-small machine (command ∷ commands) bounded =
      small_behind machine command commands (perform (rules_for scheme machine) machine.state command) refl
      bounded (λ after fits. trace-small after commands fits)

  -- ---- the parts of an epoch

  -- what holds of each holds of the one at a place
  every-at : (P : Part → Type 0) (parts : List Part) (index : ℕ) → AllByRecursion P parts
      → AllByRecursion P (option_to_list (slice_get parts index))
  every-at P [] index all = tt
  every-at P (part ∷ parts) zero all = (all.0, tt)
  every-at P (part ∷ parts) (suc index) all = every-at P parts index all.1

  -- The parts of an epoch that runs under a good header hand in are small.
  pub parts-small : (header : Header) → IsHeader header → (index number : ℕ) (logs : List (List ℕ))
      → AllByRecursion IsSmall (parts_at index (courses_from scheme header number logs))
  parts-small header good index number [] = tt
  parts-small header good index number (log ∷ logs) =
      let machine = opening_machine number header in
      let parts = parts_of (trace scheme machine (read_log scheme.format log).commands).done in
      let end = good.end in
      every-append IsSmall (option_to_list (slice_get parts index))
      (parts_at index (courses_from scheme header (suc number) logs))
      (every-at IsSmall parts index
      (trace-small machine (read_log scheme.format log).commands
      (record {
        end = end;
        counter = omega arith;
        added = omega arith;
        evicted = omega arith;
        added_before = omega arith;
        evicted_before = omega arith;
      })))
      (parts-small header good index (suc number) logs)
