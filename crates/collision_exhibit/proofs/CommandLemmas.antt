-- What an accepted command did for an audit is what its verifier's cache told before it, whatever it names.
use Rattle.std.proofs.Common.{◌≡◌, ℕ, Bool, not, nat_le, List, Option, None, is_some, Ok, refl, ◌∙◌, ap}
use Rattle.std.specs.Option.{option_to_list}
use Rattle.std.proofs.lemmas.Result.{IfOk-at_ok}
use Rattle.tree_keys.specs.Path.{is_data}
use Rattle.lamport_clocks.specs.Reading.{Reading}
use Rattle.lamport_clocks.specs.Clock.{received, sent, advanced}
use Rattle.base_words.proofs.StepLaws.{test-ok}
use Rattle.record_text.specs.declared.value.Value.TheVariants as values
use Rattle.record_text.specs.Same.{same_value}
use Rattle.log_codec.specs.declared.command.Command.{Command}
use Rattle.log_codec.specs.declared.command.Command.TheVariants.{AddM, EvictM, AddB, EvictB, EvictBM, Get, Put, NextEpoch, Absent}
use Rattle.log_codec.specs.declared.slot_command.SlotCommand.{SlotCommand}
use Rattle.log_codec.specs.declared.slot_command.SlotCommand.TheVariants as slots
use Rattle.log_codec.specs.declared.log_command.LogCommand.{LogCommand}
use Rattle.log_codec.specs.declared.log_command.LogCommand.TheVariants.{ByPath, BySlot}
use Rattle.verifier_cache.specs.declared.entry.Entry.{Entry}
use Rattle.verifier_cache.specs.Entry.{has_kid}
use Rattle.verifier_cache.specs.Cache.{entry_of}
use Rattle.verifier_cache.specs.Slots.{is_slot, entry_at}
use Rattle.verifier_commands.specs.declared.state.State.{State}
use Rattle.verifier_commands.specs.declared.slot_state.SlotState.{SlotState}
use Rattle.verifier_commands.specs.Change.{Change}
use Rattle.verifier_commands.specs.Changes.{add_under, evict_under, defer_under, absent_under, is_by_stamp}
use Rattle.verifier_commands.specs.Transition.{Rules, is_root, is_full, transition}
use Rattle.verifier_commands.specs.SlotTransition.{slot_transition}
use Rattle.verifier_commands.specs.VerifierState.{AnyCache, by_path, by_slot, VerifierState, perform_on, perform}
use Rattle.verifier_commands.proofs.InvertLaws.{and_then-ok, timed-ok}
use Rattle.verifier_commands.proofs.TickLaws.{path_step-ok, slot_step-ok}
use Rattle.collision_exhibit.specs.AuditEvent.{audit_changes_by}
use Rattle.collision_exhibit.specs.AuditChange.{evicted_m, evicted_with, path_audit_change, slot_audit_change, audit_change_of}
use Rattle.collision_exhibit.proofs.AuditChangeLemmas.{DidAsTold, with_needed, told_of, family_told}

-- ---- commands that name paths

-- the entries that are found of paths
abbrev found_in : State → List Bool → Option Entry
found_in state path = entry_of path state.cache.entries

-- An accepted command that names paths did for an audit what the entries told before it.
path_deed_told : (rules : Rules) (state : State) (command : Command) (done : Change × State)
    → transition rules state command ≡ Ok done → audit_changes_by done.0 ≡ option_to_list (path_audit_change rules.number (found_in state) command)
path_deed_told rules state (AddM path value parent) done is =
    let inner = test-ok (is_root path) _ _ done is in
    let fresh = test-ok (is_some (found_in state path)) _ _ done inner.1 in
    let room = test-ok (is_full state) _ _ done fresh.1 in
    let told = path_audit_change rules.number (found_in state) (AddM path value parent) in
    with_needed (DidAsTold told done) (found_in state parent) _ _ done room.1 (λ holder there next.
    let family = and_then-ok (add_under rules.scheme.digest holder path value) _ done next in
    IfOk-at_ok (DidAsTold told) family.2 (family_told rules path value (found_in state parent) holder family.0 there family.1))
path_deed_told rules state (EvictM path parent) done is =
    let inner = test-ok (is_root path) _ _ done is in
    let told = path_audit_change rules.number (found_in state) (EvictM path parent) in
    with_needed (DidAsTold told done) (found_in state path) _ _ done inner.1 (λ child there next.
    with_needed (DidAsTold told done) (found_in state parent) _ _ done next (λ holder here last.
    let after = and_then-ok (evict_under rules.scheme.digest holder child) _ done last in
    IfOk-at_ok (DidAsTold told) after.2 (told_of evicted_m (found_in state path) child there)))
path_deed_told rules state (AddB path value stamp verifier) done is =
    let inner = test-ok (is_root path) _ _ done is in
    let fresh = test-ok (is_some (found_in state path)) _ _ done inner.1 in
    let room = test-ok (is_full state) _ _ done fresh.1 in
    let known = test-ok (nat_le rules.verifiers verifier) _ _ done room.1 in
    let clock = timed-ok (received state.clock stamp) _ done known.1 in
    IfOk-at_ok (DidAsTold (path_audit_change rules.number (found_in state) (AddB path value stamp verifier))) clock.2 refl
path_deed_told rules state (EvictB path stamp) done is =
    let inner = test-ok (is_root path) _ _ done is in
    let told = path_audit_change rules.number (found_in state) (EvictB path stamp) in
    with_needed (DidAsTold told done) (found_in state path) _ _ done inner.1 (λ child there next.
    let lone = test-ok (has_kid child) _ _ done next in
    let held = test-ok (not (is_by_stamp child.hold)) _ _ done lone.1 in
    let clock = timed-ok (sent state.clock stamp) _ done held.1 in
    IfOk-at_ok (DidAsTold told) clock.2 (told_of (evicted_with rules.number stamp) (found_in state path) child there))
path_deed_told rules state (EvictBM path parent stamp) done is =
    let inner = test-ok (is_root path) _ _ done is in
    let told = path_audit_change rules.number (found_in state) (EvictBM path parent stamp) in
    with_needed (DidAsTold told done) (found_in state path) _ _ done inner.1 (λ child there next.
    with_needed (DidAsTold told done) (found_in state parent) _ _ done next (λ holder here last.
    let after = and_then-ok (defer_under holder child) _ done last in
    let clock = timed-ok (sent state.clock stamp) _ done after.2 in
    IfOk-at_ok (DidAsTold told) clock.2 (told_of (evicted_with rules.number stamp) (found_in state path) child there)))
path_deed_told rules state (Get path value) done is =
    with_needed (DidAsTold None done) (found_in state path) _ _ done is (λ entry there next.
    let data_path = test-ok (not (is_data path)) _ _ done next in
    let same = test-ok (not (same_value entry.value value)) _ _ done data_path.1 in
    IfOk-at_ok (DidAsTold None) same.1 refl)
path_deed_told rules state (Put path value) done is =
    with_needed (DidAsTold None done) (found_in state path) _ _ done is (λ entry there next.
    let data_path = test-ok (not (is_data path)) _ _ done next in
    IfOk-at_ok (DidAsTold None) data_path.1 refl)
path_deed_told rules state NextEpoch done is =
    let turn = timed-ok (advanced state.clock) _ done is in
    IfOk-at_ok (DidAsTold None) turn.2 refl
path_deed_told rules state (Absent path parent) done is =
    let data_path = test-ok (not (is_data path)) _ _ done is in
    with_needed (DidAsTold None done) (found_in state parent) _ _ done data_path.1 (λ holder there next.
    let entry = and_then-ok (absent_under holder path) _ done next in
    IfOk-at_ok (DidAsTold None) entry.2 refl)

-- ---- commands that name slots

-- the entries that are found in slots
abbrev found_at : SlotState → ℕ → Option Entry
found_at state slot = entry_at state.slots slot

-- An accepted command that names slots did for an audit what the entries told before it.
slot_deed_told : (rules : Rules) (state : SlotState) (command : SlotCommand) (done : Change × SlotState)
    → slot_transition rules state command ≡ Ok done → audit_changes_by done.0 ≡ option_to_list (slot_audit_change rules.number (found_at state) command)
slot_deed_told rules state (slots.AddM slot path value parent) done is =
    let inner = test-ok (is_root path) _ _ done is in
    let there = test-ok (not (is_slot state.slots slot)) _ _ done inner.1 in
    let empty = test-ok (is_some (found_at state slot)) _ _ done there.1 in
    let told = slot_audit_change rules.number (found_at state) (slots.AddM slot path value parent) in
    with_needed (DidAsTold told done) (found_at state parent) _ _ done empty.1 (λ holder there next.
    let family = and_then-ok (add_under rules.scheme.digest holder path value) _ done next in
    IfOk-at_ok (DidAsTold told) family.2 (family_told rules path value (found_at state parent) holder family.0 there family.1))
slot_deed_told rules state (slots.EvictM slot parent) done is =
    let told = slot_audit_change rules.number (found_at state) (slots.EvictM slot parent) in
    with_needed (DidAsTold told done) (found_at state slot) _ _ done is (λ child there next.
    let inner = test-ok (is_root child.path) _ _ done next in
    with_needed (DidAsTold told done) (found_at state parent) _ _ done inner.1 (λ holder here last.
    let after = and_then-ok (evict_under rules.scheme.digest holder child) _ done last in
    IfOk-at_ok (DidAsTold told) after.2 (told_of evicted_m (found_at state slot) child there)))
slot_deed_told rules state (slots.AddB slot path value stamp verifier) done is =
    let inner = test-ok (is_root path) _ _ done is in
    let there = test-ok (not (is_slot state.slots slot)) _ _ done inner.1 in
    let empty = test-ok (is_some (found_at state slot)) _ _ done there.1 in
    let known = test-ok (nat_le rules.verifiers verifier) _ _ done empty.1 in
    let clock = timed-ok (received state.clock stamp) _ done known.1 in
    IfOk-at_ok (DidAsTold (slot_audit_change rules.number (found_at state) (slots.AddB slot path value stamp verifier))) clock.2 refl
slot_deed_told rules state (slots.EvictB slot stamp) done is =
    let told = slot_audit_change rules.number (found_at state) (slots.EvictB slot stamp) in
    with_needed (DidAsTold told done) (found_at state slot) _ _ done is (λ child there next.
    let inner = test-ok (is_root child.path) _ _ done next in
    let lone = test-ok (has_kid child) _ _ done inner.1 in
    let held = test-ok (not (is_by_stamp child.hold)) _ _ done lone.1 in
    let clock = timed-ok (sent state.clock stamp) _ done held.1 in
    IfOk-at_ok (DidAsTold told) clock.2 (told_of (evicted_with rules.number stamp) (found_at state slot) child there))
slot_deed_told rules state (slots.EvictBM slot parent stamp) done is =
    let told = slot_audit_change rules.number (found_at state) (slots.EvictBM slot parent stamp) in
    with_needed (DidAsTold told done) (found_at state slot) _ _ done is (λ child there next.
    let inner = test-ok (is_root child.path) _ _ done next in
    with_needed (DidAsTold told done) (found_at state parent) _ _ done inner.1 (λ holder here last.
    let after = and_then-ok (defer_under holder child) _ done last in
    let clock = timed-ok (sent state.clock stamp) _ done after.2 in
    IfOk-at_ok (DidAsTold told) clock.2 (told_of (evicted_with rules.number stamp) (found_at state slot) child there)))
slot_deed_told rules state (slots.Get slot value) done is =
    with_needed (DidAsTold None done) (found_at state slot) _ _ done is (λ entry there next.
    let data_path = test-ok (not (is_data entry.path)) _ _ done next in
    let same = test-ok (not (same_value entry.value (values.Blob value))) _ _ done data_path.1 in
    IfOk-at_ok (DidAsTold None) same.1 refl)
slot_deed_told rules state (slots.Put slot value) done is =
    with_needed (DidAsTold None done) (found_at state slot) _ _ done is (λ entry there next.
    let data_path = test-ok (not (is_data entry.path)) _ _ done next in
    IfOk-at_ok (DidAsTold None) data_path.1 refl)
slot_deed_told rules state slots.NextEpoch done is =
    let turn = timed-ok (advanced state.clock) _ done is in
    IfOk-at_ok (DidAsTold None) turn.2 refl
slot_deed_told rules state (slots.Absent path parent) done is =
    let data_path = test-ok (not (is_data path)) _ _ done is in
    with_needed (DidAsTold None done) (found_at state parent) _ _ done data_path.1 (λ holder there next.
    let entry = and_then-ok (absent_under holder path) _ done next in
    IfOk-at_ok (DidAsTold None) entry.2 refl)

-- ---- commands of either kind

deed_told_on : (rules : Rules) (cache : AnyCache) (clock : Reading) (command : LogCommand) (done : Change × VerifierState)
    → perform_on rules cache clock command ≡ Ok done → audit_changes_by done.0 ≡ option_to_list (audit_change_of rules.number cache command)
deed_told_on rules (by_path held) clock (ByPath command) done is =
    let state : State = record { cache = held; clock = clock } in
    let own = path_step-ok (transition rules state command) done is in
    ap (λ (d : Change × VerifierState). audit_changes_by d.0) own.2 ∙ path_deed_told rules state command own.0 own.1
deed_told_on rules (by_path held) clock (BySlot command) done is = absurd (cc)
deed_told_on rules (by_slot kept) clock (ByPath command) done is = absurd (cc)
deed_told_on rules (by_slot kept) clock (BySlot command) done is =
    let state : SlotState = record { slots = kept; clock = clock } in
    let own = slot_step-ok (slot_transition rules state command) done is in
    ap (λ (d : Change × VerifierState). audit_changes_by d.0) own.2 ∙ slot_deed_told rules state command own.0 own.1

-- An accepted command did for an audit what the cache told before it.
pub deed_told : (rules : Rules) (state : VerifierState) (command : LogCommand) (done : Change × VerifierState)
    → perform rules state command ≡ Ok done → audit_changes_by done.0 ≡ option_to_list (audit_change_of rules.number state.cache command)
deed_told rules state command done is = deed_told_on rules state.cache state.clock command done is
