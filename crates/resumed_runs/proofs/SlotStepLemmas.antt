-- Each accepted command that names slots leaves slots whose entries have texts, and what it reads or writes has one.
use Rattle.std.proofs.Common.{◌≡◌, ℕ, Bool, not, nat_le, List, Option, Some, None, is_some, Ok}
use Rattle.std.proofs.lemmas.Result.{IfOk-at_ok}
use Rattle.tree_keys.specs.Path.{is_data, IsIn, IsData}
use Rattle.lamport_clocks.specs.declared.stamp.Stamp.{Stamp}
use Rattle.lamport_clocks.specs.Clock.{received, sent, advanced}
use Rattle.base_words.proofs.StepLaws.{test-ok}
use Rattle.record_text.specs.declared.value.Value.{Value}
use Rattle.record_text.specs.declared.value.Value.TheVariants as values
use Rattle.record_text.specs.Value.{IsOf, IsBlob}
use Rattle.record_text.specs.Same.{same_value}
use Rattle.log_codec.specs.declared.slot_command.SlotCommand.{SlotCommand}
use Rattle.log_codec.specs.declared.slot_command.SlotCommand.TheVariants.{AddM, EvictM, AddB, EvictB, EvictBM, Get, Put, NextEpoch, Absent}
use Rattle.log_codec.specs.SlotCommand.{IsSlotCommand, IsSlotCommandIn}
use Rattle.merkle_records.specs.Merkle.{GivesDigests}
use Rattle.verifier_cache.specs.declared.entry.Entry.{Entry}
use Rattle.verifier_cache.specs.declared.entry.Hold.TheVariants.{B}
use Rattle.verifier_cache.specs.Entry.{has_kid, new_entry, with_value}
use Rattle.verifier_cache.specs.Slots.{is_slot, entry_at, with_slot}
use Rattle.verifier_commands.specs.declared.slot_state.SlotState.{SlotState}
use Rattle.verifier_commands.specs.Change.{Change}
use Rattle.verifier_commands.specs.Changes.{add_under, evict_under, defer_under, absent_under, is_by_stamp}
use Rattle.verifier_commands.specs.Transition.{Rules, is_root}
use Rattle.verifier_commands.specs.SlotTransition.{with_pair, add_m, evict_m, add_b, evict_b, evict_bm, get, put, absent, next_epoch, slot_transition}
use Rattle.verifier_commands.proofs.InvertLaws.{need-ok, and_then-ok, timed-ok}
use Rattle.resumed_runs.proofs.EntryTextLemmas.{HasText, at_data, added_text, evicted_text, deferred_text, new_text, written_text, absent_operand}
use Rattle.resumed_runs.proofs.CacheTextLemmas.{HasTextThere, AreSlotsWell, slot_text, slots-with}
use Rattle.resumed_runs.proofs.PathStepLemmas.{OperatesWell}

-- the slots behind a command, and what it read or wrote
abbrev pub DidSlotsWell : Bool → ℕ → ℕ → Change × SlotState → Type 0
DidSlotsWell wide longest size done = AreSlotsWell wide longest size done.1.slots × OperatesWell wide longest done.0

module _ (rules : Rules) (wide : Bool) (longest size : ℕ) (digests : GivesDigests rules.scheme.digest) (state : SlotState) (well : AreSlotsWell wide longest size state.slots) (done : Change × SlotState) where
  abbrev Well : Change × SlotState → Type 0
  Well = DidSlotsWell wide longest size

  -- what a slot holds
  found : (slot : ℕ) (entry : Entry) → entry_at state.slots slot ≡ Some entry → HasText wide longest entry
  found slot entry is = slot_text wide longest state.slots slot entry well.texts is

  -- a parent in its slot, and a child in another, or none
  pair_well : (holders slot : ℕ) (parent : Entry) (child : Option Entry) → HasText wide longest parent → HasTextThere wide longest child
      → AreSlotsWell wide longest size (with_pair state.slots holders parent slot child)
  pair_well holders slot parent child own other =
      slots-with wide longest size (with_slot state.slots holders (Some parent)) slot child (slots-with wide longest size state.slots holders (Some parent) well own) other

  add_m_well : (slot : ℕ) (path : List Bool) (value : Value) (parent : ℕ) → IsIn wide path → IsOf longest path value → add_m rules.scheme.digest state slot path value parent ≡ Ok done → Well done
  add_m_well slot path value parent tree kind is =
      let inner = test-ok (is_root path) _ _ done is in
      let there = test-ok (not (is_slot state.slots slot)) _ _ done inner.1 in
      let empty = test-ok (is_some (entry_at state.slots slot)) _ _ done there.1 in
      let holder = need-ok (entry_at state.slots parent) _ _ done empty.1 in
      let family = and_then-ok (add_under rules.scheme.digest holder.0 path value) _ done holder.2 in
      let texts = added_text wide longest rules.scheme.digest holder.0 path value family.0 digests (found parent holder.0 holder.1) tree kind family.1 in
      IfOk-at_ok Well family.2 (pair_well parent slot family.0.parent (Some family.0.child) texts.parent texts.child, tt)

  evict_m_well : (slot parent : ℕ) → evict_m rules.scheme.digest state slot parent ≡ Ok done → Well done
  evict_m_well slot parent is =
      let child = need-ok (entry_at state.slots slot) _ _ done is in
      let inner = test-ok (is_root child.0.path) _ _ done child.2 in
      let holder = need-ok (entry_at state.slots parent) _ _ done inner.1 in
      let after = and_then-ok (evict_under rules.scheme.digest holder.0 child.0) _ done holder.2 in
      let text = evicted_text wide longest rules.scheme.digest holder.0 child.0 after.0 digests (found parent holder.0 holder.1) (found slot child.0 child.1) after.1 in
      IfOk-at_ok Well after.2 (pair_well parent slot after.0 None text tt, tt)

  add_b_well : (slot : ℕ) (path : List Bool) (value : Value) (stamp : Stamp) (verifier : ℕ) → IsIn wide path → IsOf longest path value
      → add_b rules.verifiers state slot path value stamp verifier ≡ Ok done → Well done
  add_b_well slot path value stamp verifier tree kind is =
      let inner = test-ok (is_root path) _ _ done is in
      let there = test-ok (not (is_slot state.slots slot)) _ _ done inner.1 in
      let empty = test-ok (is_some (entry_at state.slots slot)) _ _ done there.1 in
      let known = test-ok (nat_le rules.verifiers verifier) _ _ done empty.1 in
      let clock = timed-ok (received state.clock stamp) _ done known.1 in
      IfOk-at_ok Well clock.2 (slots-with wide longest size state.slots slot (Some (new_entry path value B)) well (new_text wide longest path value B tree kind), tt)

  evict_b_well : (slot : ℕ) (stamp : Stamp) → evict_b rules.number state slot stamp ≡ Ok done → Well done
  evict_b_well slot stamp is =
      let child = need-ok (entry_at state.slots slot) _ _ done is in
      let inner = test-ok (is_root child.0.path) _ _ done child.2 in
      let lone = test-ok (has_kid child.0) _ _ done inner.1 in
      let held = test-ok (not (is_by_stamp child.0.hold)) _ _ done lone.1 in
      let clock = timed-ok (sent state.clock stamp) _ done held.1 in
      IfOk-at_ok Well clock.2 (slots-with wide longest size state.slots slot None well tt, tt)

  evict_bm_well : (slot parent : ℕ) (stamp : Stamp) → evict_bm rules.number state slot parent stamp ≡ Ok done → Well done
  evict_bm_well slot parent stamp is =
      let child = need-ok (entry_at state.slots slot) _ _ done is in
      let inner = test-ok (is_root child.0.path) _ _ done child.2 in
      let holder = need-ok (entry_at state.slots parent) _ _ done inner.1 in
      let after = and_then-ok (defer_under holder.0 child.0) _ done holder.2 in
      let clock = timed-ok (sent state.clock stamp) _ done after.2 in
      let text = deferred_text wide longest holder.0 child.0 after.0 (found parent holder.0 holder.1) after.1 in
      IfOk-at_ok Well clock.2 (pair_well parent slot after.0 None text tt, tt)

  get_well : (slot : ℕ) (value : Option (List ℕ)) → get state slot value ≡ Ok done → Well done
  get_well slot value is =
      let entry = need-ok (entry_at state.slots slot) _ _ done is in
      let data_path = test-ok (not (is_data entry.0.path)) _ _ done entry.2 in
      let same = test-ok (not (same_value entry.0.value (values.Blob value))) _ _ done data_path.1 in
      IfOk-at_ok Well same.1 (well, record { text = found slot entry.0 entry.1; at_data = at_data entry.0.path data_path.0 })

  put_well : (slot : ℕ) (value : Option (List ℕ)) → IsBlob longest value → put state slot value ≡ Ok done → Well done
  put_well slot value fits is =
      let entry = need-ok (entry_at state.slots slot) _ _ done is in
      let data_path = test-ok (not (is_data entry.0.path)) _ _ done entry.2 in
      let whole : IsData entry.0.path = at_data entry.0.path data_path.0 in
      let text = written_text wide longest entry.0 (values.Blob value) (found slot entry.0 entry.1) (whole, fits) in
      IfOk-at_ok Well data_path.1 (
        slots-with wide longest size state.slots slot (Some (with_value entry.0 (values.Blob value))) well text,
        record { text = text; at_data = whole },
      )

  absent_well : (path : List Bool) (parent : ℕ) → IsIn wide path → absent state path parent ≡ Ok done → Well done
  absent_well path parent tree is =
      let data_path = test-ok (not (is_data path)) _ _ done is in
      let holder = need-ok (entry_at state.slots parent) _ _ done data_path.1 in
      let unset = and_then-ok (absent_under holder.0 path) _ done holder.2 in
      IfOk-at_ok Well unset.2 (well, absent_operand wide longest holder.0 path unset.0 tree (at_data path data_path.0) unset.1)

  next_epoch_well : next_epoch state ≡ Ok done → Well done
  next_epoch_well is =
      let turn = timed-ok (advanced state.clock) _ done is in
      IfOk-at_ok Well turn.2 (well, tt)

  -- So does any of them.
  pub slot_step_well : (command : SlotCommand) → IsSlotCommandIn wide command → IsSlotCommand longest command → slot_transition rules state command ≡ Ok done → DidSlotsWell wide longest size done
  slot_step_well (AddM slot path value parent) within ranges is = add_m_well slot path value parent within ranges.1 is
  slot_step_well (EvictM slot parent) within ranges is = evict_m_well slot parent is
  slot_step_well (AddB slot path value stamp verifier) within ranges is = add_b_well slot path value stamp verifier within ranges.1 is
  slot_step_well (EvictB slot stamp) within ranges is = evict_b_well slot stamp is
  slot_step_well (EvictBM slot parent stamp) within ranges is = evict_bm_well slot parent stamp is
  slot_step_well (Get slot value) within ranges is = get_well slot value is
  slot_step_well (Put slot value) within ranges is = put_well slot value ranges.1 is
  slot_step_well NextEpoch within ranges is = next_epoch_well is
  slot_step_well (Absent path parent) within ranges is = absent_well path parent within is
