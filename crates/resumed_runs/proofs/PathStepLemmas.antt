-- Each accepted command that names paths leaves a cache whose entries have texts, and what it reads or writes has one.
use Rattle.std.proofs.Common.{◌≡◌, ◌<◌, ℕ, Bool, false, not, nat_le, List, length, Some, is_some, Ok, sym, subst}
use Rattle.std.proofs.lemmas.Result.{IfOk-at_ok}
use Rattle.tree_keys.specs.Path.{is_data, IsIn, IsData}
use Rattle.lamport_clocks.specs.declared.stamp.Stamp.{Stamp}
use Rattle.lamport_clocks.specs.Clock.{received, sent, advanced}
use Rattle.base_words.proofs.StepLaws.{test-ok}
use Rattle.record_text.specs.declared.value.Value.{Value}
use Rattle.record_text.specs.Value.{IsOf}
use Rattle.record_text.specs.Same.{same_value}
use Rattle.log_codec.specs.declared.command.Command.{Command}
use Rattle.log_codec.specs.declared.command.Command.TheVariants.{AddM, EvictM, AddB, EvictB, EvictBM, Get, Put, NextEpoch, Absent}
use Rattle.log_codec.specs.Command.{IsPathCommand, IsCommandIn}
use Rattle.merkle_records.specs.Merkle.{GivesDigests}
use Rattle.verifier_cache.specs.declared.entry.Entry.{Entry}
use Rattle.verifier_cache.specs.declared.entry.Hold.TheVariants.{B}
use Rattle.verifier_cache.specs.Entry.{has_kid, new_entry, with_value}
use Rattle.verifier_cache.specs.Cache.{entry_of, replaced}
use Rattle.verifier_cache.proofs.EntriesLaws.{entry_of-path}
use Rattle.verifier_commands.specs.declared.state.State.{State}
use Rattle.verifier_commands.specs.Change.{Change, did_add_m, did_evict_m, did_add_b, did_evict_b, did_evict_bm, did_get, did_put, did_next_epoch}
use Rattle.verifier_commands.specs.Changes.{add_under, evict_under, defer_under, absent_under, is_by_stamp}
use Rattle.verifier_commands.specs.Transition.{Rules, is_root, is_full, add_m, evict_m, add_b, evict_b, evict_bm, get, put, absent, next_epoch, transition}
use Rattle.verifier_commands.proofs.InvertLaws.{need-ok, and_then-ok, timed-ok}
use Rattle.resumed_runs.proofs.EntryTextLemmas.{HasText, IsOperand, at_data, added_text, evicted_text, deferred_text, new_text, written_text, absent_operand}
use Rattle.resumed_runs.proofs.CacheTextLemmas.{IsHeldWell, found_text, same-replaced, room_left, held-append, held-replaced, held-without}

-- what a change reads or writes has a text, and is of a data path
abbrev pub OperatesWell : Bool → ℕ → Change → Type 0
OperatesWell wide longest (did_add_m parent after child) = Unit {0}
OperatesWell wide longest (did_evict_m parent after child) = Unit {0}
OperatesWell wide longest (did_add_b child element) = Unit {0}
OperatesWell wide longest (did_evict_b child element) = Unit {0}
OperatesWell wide longest (did_evict_bm parent after child element) = Unit {0}
OperatesWell wide longest (did_get entry) = IsOperand wide longest entry
OperatesWell wide longest (did_put before after) = IsOperand wide longest after
OperatesWell wide longest (did_next_epoch sealed) = Unit {0}

-- the cache behind a command, and what it read or wrote
abbrev pub DidWell : Bool → ℕ → ℕ → Change × State → Type 0
DidWell wide longest size done = IsHeldWell wide longest size done.1.cache × OperatesWell wide longest done.0

module _ (rules : Rules) (wide : Bool) (longest size : ℕ) (digests : GivesDigests rules.scheme.digest) (state : State) (well : IsHeldWell wide longest size state.cache) (done : Change × State) where
  abbrev Well : Change × State → Type 0
  Well = DidWell wide longest size

  -- what is found of a path
  found : (path : List Bool) (entry : Entry) → entry_of path state.cache.entries ≡ Some entry → HasText wide longest entry
  found path entry is = found_text wide longest path state.cache.entries entry well.texts is

  operand : (path : List Bool) (entry : Entry) → entry_of path state.cache.entries ≡ Some entry → not (is_data path) ≡ false → IsOperand wide longest entry
  operand path entry is data_path = record {
    text = found path entry is;
    at_data = subst IsData (sym (entry_of-path path state.cache.entries entry is)) (at_data path data_path);
  }

  add_m_well : (path : List Bool) (value : Value) (parent : List Bool) → IsIn wide path → IsOf longest path value → add_m rules.scheme.digest state path value parent ≡ Ok done → Well done
  add_m_well path value parent tree kind is =
      let xs = state.cache.entries in
      let inner = test-ok (is_root path) _ _ done is in
      let fresh = test-ok (is_some (entry_of path xs)) _ _ done inner.1 in
      let room = test-ok (is_full state) _ _ done fresh.1 in
      let holder = need-ok (entry_of parent xs) _ _ done room.1 in
      let family = and_then-ok (add_under rules.scheme.digest holder.0 path value) _ done holder.2 in
      let texts = added_text wide longest rules.scheme.digest holder.0 path value family.0 digests (found parent holder.0 holder.1) tree kind family.1 in
      let put = held-replaced wide longest size state.cache family.0.parent well texts.parent in
      IfOk-at_ok Well family.2 (
        held-append wide longest size (record state.cache { entries = replaced family.0.parent xs }) family.0.child put texts.child
            (subst (λ (n : ℕ). n < size) (sym (same-replaced family.0.parent xs)) (room_left wide longest size state.cache.room (length xs) well.room_is room.0)),
        tt,
      )

  evict_m_well : (path parent : List Bool) → evict_m rules.scheme.digest state path parent ≡ Ok done → Well done
  evict_m_well path parent is =
      let xs = state.cache.entries in
      let inner = test-ok (is_root path) _ _ done is in
      let child = need-ok (entry_of path xs) _ _ done inner.1 in
      let holder = need-ok (entry_of parent xs) _ _ done child.2 in
      let after = and_then-ok (evict_under rules.scheme.digest holder.0 child.0) _ done holder.2 in
      let text = evicted_text wide longest rules.scheme.digest holder.0 child.0 after.0 digests (found parent holder.0 holder.1) (found path child.0 child.1) after.1 in
      IfOk-at_ok Well after.2 (
        held-without wide longest size (record state.cache { entries = replaced after.0 xs }) path (held-replaced wide longest size state.cache after.0 well text),
        tt,
      )

  add_b_well : (path : List Bool) (value : Value) (stamp : Stamp) (verifier : ℕ) → IsIn wide path → IsOf longest path value → add_b rules.verifiers state path value stamp verifier ≡ Ok done → Well done
  add_b_well path value stamp verifier tree kind is =
      let xs = state.cache.entries in
      let inner = test-ok (is_root path) _ _ done is in
      let fresh = test-ok (is_some (entry_of path xs)) _ _ done inner.1 in
      let room = test-ok (is_full state) _ _ done fresh.1 in
      let known = test-ok (nat_le rules.verifiers verifier) _ _ done room.1 in
      let clock = timed-ok (received state.clock stamp) _ done known.1 in
      IfOk-at_ok Well clock.2 (
        held-append wide longest size state.cache (new_entry path value B) well (new_text wide longest path value B tree kind)
            (room_left wide longest size state.cache.room (length xs) well.room_is room.0),
        tt,
      )

  evict_b_well : (path : List Bool) (stamp : Stamp) → evict_b rules.number state path stamp ≡ Ok done → Well done
  evict_b_well path stamp is =
      let xs = state.cache.entries in
      let inner = test-ok (is_root path) _ _ done is in
      let child = need-ok (entry_of path xs) _ _ done inner.1 in
      let lone = test-ok (has_kid child.0) _ _ done child.2 in
      let held = test-ok (not (is_by_stamp child.0.hold)) _ _ done lone.1 in
      let clock = timed-ok (sent state.clock stamp) _ done held.1 in
      IfOk-at_ok Well clock.2 (held-without wide longest size state.cache path well, tt)

  evict_bm_well : (path parent : List Bool) (stamp : Stamp) → evict_bm rules.number state path parent stamp ≡ Ok done → Well done
  evict_bm_well path parent stamp is =
      let xs = state.cache.entries in
      let inner = test-ok (is_root path) _ _ done is in
      let child = need-ok (entry_of path xs) _ _ done inner.1 in
      let holder = need-ok (entry_of parent xs) _ _ done child.2 in
      let after = and_then-ok (defer_under holder.0 child.0) _ done holder.2 in
      let clock = timed-ok (sent state.clock stamp) _ done after.2 in
      let text = deferred_text wide longest holder.0 child.0 after.0 (found parent holder.0 holder.1) after.1 in
      IfOk-at_ok Well clock.2 (
        held-without wide longest size (record state.cache { entries = replaced after.0 xs }) path (held-replaced wide longest size state.cache after.0 well text),
        tt,
      )

  get_well : (path : List Bool) (value : Value) → get state path value ≡ Ok done → Well done
  get_well path value is =
      let entry = need-ok (entry_of path state.cache.entries) _ _ done is in
      let data_path = test-ok (not (is_data path)) _ _ done entry.2 in
      let same = test-ok (not (same_value entry.0.value value)) _ _ done data_path.1 in
      IfOk-at_ok Well same.1 (well, operand path entry.0 entry.1 data_path.0)

  put_well : (path : List Bool) (value : Value) → IsOf longest path value → put state path value ≡ Ok done → Well done
  put_well path value kind is =
      let xs = state.cache.entries in
      let entry = need-ok (entry_of path xs) _ _ done is in
      let data_path = test-ok (not (is_data path)) _ _ done entry.2 in
      let own = operand path entry.0 entry.1 data_path.0 in
      let text = written_text wide longest entry.0 value own.text (subst (λ (p : List Bool). IsOf longest p value) (sym (entry_of-path path xs entry.0 entry.1)) kind) in
      IfOk-at_ok Well data_path.1 (
        held-replaced wide longest size state.cache (with_value entry.0 value) well text,
        record { text = text; at_data = own.at_data },
      )

  absent_well : (path parent : List Bool) → IsIn wide path → absent state path parent ≡ Ok done → Well done
  absent_well path parent tree is =
      let data_path = test-ok (not (is_data path)) _ _ done is in
      let holder = need-ok (entry_of parent state.cache.entries) _ _ done data_path.1 in
      let unset = and_then-ok (absent_under holder.0 path) _ done holder.2 in
      IfOk-at_ok Well unset.2 (well, absent_operand wide longest holder.0 path unset.0 tree (at_data path data_path.0) unset.1)

  next_epoch_well : next_epoch state ≡ Ok done → Well done
  next_epoch_well is =
      let turn = timed-ok (advanced state.clock) _ done is in
      IfOk-at_ok Well turn.2 (well, tt)

  -- So does any of them.
  pub path_step_well : (command : Command) → IsCommandIn wide command → IsPathCommand longest command → transition rules state command ≡ Ok done → DidWell wide longest size done
  path_step_well (AddM path value parent) within ranges is = add_m_well path value parent within.0 ranges.0 is
  path_step_well (EvictM path parent) within ranges is = evict_m_well path parent is
  path_step_well (AddB path value stamp verifier) within ranges is = add_b_well path value stamp verifier within ranges.0 is
  path_step_well (EvictB path stamp) within ranges is = evict_b_well path stamp is
  path_step_well (EvictBM path parent stamp) within ranges is = evict_bm_well path parent stamp is
  path_step_well (Get path value) within ranges is = get_well path value is
  path_step_well (Put path value) within ranges is = put_well path value ranges is
  path_step_well NextEpoch within ranges is = next_epoch_well is
  path_step_well (Absent path parent) within ranges is = absent_well path parent within.0 is
