-- Each command that is accepted by path is accepted by slot, and does the same.
use Rattle.std.proofs.Common.{◌≡◌, ℕ, ◌+◌, Bool, false, nat_le, not, List, [], ◌∷◌, length, set, Option, Some, None, is_some, IsNone, IsSome, Ok, refl, sym, ◌∙◌, ap, subst, arith, length-append, length-set}
use Rattle.std.proofs.lemmas.Bool.{leb-false, not-false}
use Rattle.std.proofs.lemmas.Result.{IfOk-at_ok}
use Rattle.tree_keys.specs.Path.{IsNodePath, is_data}
use Rattle.tree_keys.proofs.TreeLaws.{is-data, data-no_node}
use Rattle.lamport_clocks.specs.declared.stamp.Stamp.{Stamp}
use Rattle.lamport_clocks.specs.Reading.{Reading}
use Rattle.lamport_clocks.specs.Clock.{received, sent, advanced}
use Rattle.base_words.proofs.StepLaws.{test-ok}
use Rattle.record_text.specs.declared.value.Value.{Value}
use Rattle.record_text.specs.declared.value.Value.TheVariants as values
use Rattle.record_text.specs.Value.{IsOf}
use Rattle.record_text.specs.Same.{same_value}
use Rattle.log_codec.specs.declared.command.Command.{Command}
use Rattle.log_codec.specs.declared.command.Command.TheVariants.{AddM, EvictM, AddB, EvictB, EvictBM, Get, Put, NextEpoch, Absent}
use Rattle.slot_rewriting.specs.Rewriting.{slot_of, lowest_empty, HasSlot, HasNoSlot, HasEmpty, rewritten, paths_after, CanRewrite}
use Rattle.slot_rewriting.specs.Indexed.{taken}
use Rattle.slot_rewriting.proofs.SlotPathLaws.{path_in-lowest, taken-in, taken-out}
use Rattle.verifier_cache.specs.declared.entry.Entry.{Entry}
use Rattle.verifier_cache.specs.declared.entry.Hold.TheVariants.{B}
use Rattle.verifier_cache.specs.Entry.{has_kid, new_entry, with_value}
use Rattle.verifier_cache.specs.Cache.{entry_of, replaced}
use Rattle.verifier_cache.specs.Slots.{Slots, is_slot, entry_at, with_slot}
use Rattle.verifier_cache.proofs.EntriesLaws.{entry_of-path, none_there, length-changed, length-without_there}
use Rattle.verifier_commands.specs.declared.state.State.{State}
use Rattle.verifier_commands.specs.declared.slot_state.SlotState.{SlotState}
use Rattle.verifier_commands.specs.Change.{Change}
use Rattle.verifier_commands.specs.Changes.{add_under, evict_under, defer_under, absent_under, is_by_stamp}
use Rattle.verifier_commands.specs.Transition.{Rules, is_root, is_full, transition, add_m, evict_m, add_b, evict_b, evict_bm, get, put, absent, next_epoch}
use Rattle.verifier_commands.specs.SlotTransition.{with_pair, slot_transition}
use Rattle.verifier_commands.proofs.InvertLaws.{need-ok, and_then-ok, timed-ok}
use Rattle.soundness.specs.Showing.{IsFresh, shown_by}
use Rattle.soundness.specs.SlotHistory.{standing_in}
use Rattle.soundness.proofs.StepShownLaws.{added_paths, evicted_path, deferred_path}
use Rattle.rewriting_laws.specs.Alike.{path_of_slot, paths_in, AreAlike}
use Rattle.rewriting_laws.specs.RewrittenLog.{IsOfKind}
use Rattle.rewriting_laws.proofs.FoundLemmas.{test-on, need-on, and_then-on, timed-on, in_its_slot, in_no_slot, path_in-entry, length-paths_in, has_slot, one_empty, lowest_is_empty, lowest_is_slot, paths-replaced, paths-written, paths-pair, there-replaced}

-- the command is accepted by slot too, and does the same
pub record IsFollowed (rules : Rules) (slotted : SlotState) (state : State) (command : Command) (done : Change × State) : Type 0 where
  pub can : CanRewrite (paths_in slotted.slots) command
  pub next : SlotState
  pub step : slot_transition rules slotted (rewritten (paths_in slotted.slots) command) ≡ Ok (done.0, next)
  pub fresh : IsFresh (shown_by state) done.0
  pub clock : next.clock ≡ done.1.clock
  pub paths : paths_in next.slots ≡ paths_after (paths_in slotted.slots) command
  pub room : length next.slots ≡ done.1.cache.room
  pub count : length done.1.cache.entries ≡ taken (paths_in next.slots)

-- ---- what is found

module _ (state : State) (slotted : SlotState) (alike : AreAlike state slotted) where
  found : (k : List Bool) (e : Entry) → entry_of k state.cache.entries ≡ Some e → entry_of k (standing_in slotted.slots) ≡ Some e
  found k e is = sym (alike.shown k) ∙ is

  -- an entry by path is in its path's slot
  in_slot : (k : List Bool) (e : Entry) → entry_of k state.cache.entries ≡ Some e → entry_at slotted.slots (slot_of k (paths_in slotted.slots)) ≡ Some e
  in_slot k e is = in_its_slot k slotted.slots e (found k e is)

  slotted_there : (k : List Bool) (e : Entry) → entry_of k state.cache.entries ≡ Some e → HasSlot k (paths_in slotted.slots)
  slotted_there k e is = has_slot k slotted.slots e (found k e is)

  -- what isn't there is in no slot
  unslotted : (k : List Bool) → is_some (entry_of k state.cache.entries) ≡ false → HasNoSlot k (paths_in slotted.slots)
  unslotted k fresh = in_no_slot k slotted.slots (sym (alike.shown k) ∙ none_there (entry_of k state.cache.entries) fresh)

  -- where there is room a slot is empty
  has_empty : is_full state ≡ false → HasEmpty (paths_in slotted.slots)
  has_empty room =
      one_empty (paths_in slotted.slots)
      (omega (arith, leb-false state.cache.room (length state.cache.entries) room, alike.room, alike.count, length-paths_in slotted.slots))

  -- one more is taken where a path comes in
  count_in : (path : List Bool) → HasEmpty (paths_in slotted.slots)
      → taken (set (paths_in slotted.slots) (lowest_empty (paths_in slotted.slots)) (Some path)) ≡ length state.cache.entries + 1
  count_in path has = taken-in (paths_in slotted.slots) (lowest_empty (paths_in slotted.slots)) path has (path_in-lowest (paths_in slotted.slots) has) ∙ ap (λ (n : ℕ). n + 1) (sym alike.count)

  -- and one less where it leaves
  count_out : (k : List Bool) (e : Entry) → entry_of k state.cache.entries ≡ Some e
      → taken (set (paths_in slotted.slots) (slot_of k (paths_in slotted.slots)) None) + 1 ≡ length state.cache.entries
  count_out k e is =
      taken-out (paths_in slotted.slots) (slot_of k (paths_in slotted.slots)) e.path
      (path_in-entry slotted.slots (slot_of k (paths_in slotted.slots)) ∙ ap path_of_slot (in_slot k e is))
      ∙ sym alike.count

-- so many slots
length-pair : (slots : Slots) (holders slot : ℕ) (parent : Entry) (x : Option Entry) → length (with_pair slots holders parent slot x) ≡ length slots
length-pair slots holders slot parent x = length-set (with_slot slots holders (Some parent)) slot x ∙ length-set slots holders (Some parent)

-- the other tests of an add are by path as by slot
root_by_path : (path own : List Bool) → own ≡ path → is_root path ≡ false → is_root own ≡ false
root_by_path path own same root = ap is_root same ∙ root

-- ---- adds

followed_add_m : (rules : Rules) (state : State) (slotted : SlotState) (path : List Bool) (value : Value) (parent : List Bool) (done : Change × State) → AreAlike state slotted
    → add_m rules.scheme.digest state path value parent ≡ Ok done → IsFollowed rules slotted state (AddM path value parent) done
followed_add_m rules state slotted path value parent done alike is =
    let xs = state.cache.entries in
    let slots = slotted.slots in
    let paths = paths_in slots in
    let lowest = lowest_empty paths in
    let root = test-ok (is_root path) _ _ done is in
    let fresh = test-ok (is_some (entry_of path xs)) _ _ done root.1 in
    let full = test-ok (is_full state) _ _ done fresh.1 in
    let holder = need-ok (entry_of parent xs) _ _ done full.1 in
    let family = and_then-ok (add_under rules.scheme.digest holder.0 path value) _ done holder.2 in
    let kept = added_paths rules.scheme.digest holder.0 path value family.0 family.1 in
    let has = has_empty state slotted alike full.0 in
    let held = in_slot state slotted alike parent holder.0 holder.1 in
    let stand : paths_in (with_pair slots (slot_of parent paths) family.0.parent lowest (Some family.0.child)) ≡ set paths lowest (Some path) =
    paths-pair slots (slot_of parent paths) lowest holder.0 family.0.parent (Some family.0.child) held kept.0 ∙ ap (λ (p : List Bool). set paths lowest (Some p)) kept.1 in
    IfOk-at_ok (IsFollowed rules slotted state (AddM path value parent)) family.2 (record {
      can = (unslotted state slotted alike path fresh.0, has, slotted_there state slotted alike parent holder.0 holder.1);
      next = record { slots = with_pair slots (slot_of parent paths) family.0.parent lowest (Some family.0.child); clock = slotted.clock };
      step = test-on (is_root path) _ _ root.0
          ∙ (test-on (not (is_slot slots lowest)) _ _ (lowest_is_slot slots has)
          ∙ (test-on (is_some (entry_at slots lowest)) _ _ (ap is_some (lowest_is_empty slots has))
          ∙ (need-on (entry_at slots (slot_of parent paths)) _ _ holder.0 held
          ∙ and_then-on (add_under rules.scheme.digest holder.0 path value) _ family.0 family.1)));
      fresh = subst (λ (p : List Bool). IsNone (entry_of p xs)) (sym kept.1) fresh.0;
      clock = alike.clock;
      paths = stand;
      room = length-pair slots (slot_of parent paths) lowest family.0.parent (Some family.0.child) ∙ alike.room;
      count = length-append (replaced family.0.parent xs) (family.0.child ∷ [])
          ∙ (ap (λ (n : ℕ). n + 1) (length-changed family.0.parent.path (λ old. family.0.parent) xs)
          ∙ (sym (count_in state slotted alike path has) ∙ ap taken (sym stand)));
    })

followed_add_b : (rules : Rules) (state : State) (slotted : SlotState) (path : List Bool) (value : Value) (stamp : Stamp) (verifier : ℕ) (done : Change × State) → AreAlike state slotted
    → add_b rules.verifiers state path value stamp verifier ≡ Ok done → IsFollowed rules slotted state (AddB path value stamp verifier) done
followed_add_b rules state slotted path value stamp verifier done alike is =
    let xs = state.cache.entries in
    let slots = slotted.slots in
    let paths = paths_in slots in
    let lowest = lowest_empty paths in
    let root = test-ok (is_root path) _ _ done is in
    let fresh = test-ok (is_some (entry_of path xs)) _ _ done root.1 in
    let full = test-ok (is_full state) _ _ done fresh.1 in
    let known = test-ok (nat_le rules.verifiers verifier) _ _ done full.1 in
    let clock = timed-ok (received state.clock stamp) _ done known.1 in
    let has = has_empty state slotted alike full.0 in
    let stand : paths_in (with_slot slots lowest (Some (new_entry path value B))) ≡ set paths lowest (Some path) = paths-written slots lowest (Some (new_entry path value B)) in
    IfOk-at_ok (IsFollowed rules slotted state (AddB path value stamp verifier)) clock.2 (record {
      can = (unslotted state slotted alike path fresh.0, has);
      next = record { slots = with_slot slots lowest (Some (new_entry path value B)); clock = clock.0 };
      step = test-on (is_root path) _ _ root.0
          ∙ (test-on (not (is_slot slots lowest)) _ _ (lowest_is_slot slots has)
          ∙ (test-on (is_some (entry_at slots lowest)) _ _ (ap is_some (lowest_is_empty slots has))
          ∙ (test-on (nat_le rules.verifiers verifier) _ _ known.0
          ∙ timed-on (received slotted.clock stamp) _ clock.0 (ap (λ (reading : Reading). received reading stamp) alike.clock ∙ clock.1))));
      fresh = fresh.0;
      clock = refl;
      paths = stand;
      room = length-set slots lowest (Some (new_entry path value B)) ∙ alike.room;
      count = length-append xs (new_entry path value B ∷ []) ∙ (sym (count_in state slotted alike path has) ∙ ap taken (sym stand));
    })

-- ---- evicts

followed_evict_m : (rules : Rules) (state : State) (slotted : SlotState) (path parent : List Bool) (done : Change × State) → AreAlike state slotted
    → evict_m rules.scheme.digest state path parent ≡ Ok done → IsFollowed rules slotted state (EvictM path parent) done
followed_evict_m rules state slotted path parent done alike is =
    let xs = state.cache.entries in
    let slots = slotted.slots in
    let paths = paths_in slots in
    let own = slot_of path paths in
    let root = test-ok (is_root path) _ _ done is in
    let child = need-ok (entry_of path xs) _ _ done root.1 in
    let holder = need-ok (entry_of parent xs) _ _ done child.2 in
    let after = and_then-ok (evict_under rules.scheme.digest holder.0 child.0) _ done holder.2 in
    let kept = evicted_path rules.scheme.digest holder.0 child.0 after.0 after.1 in
    let held = in_slot state slotted alike parent holder.0 holder.1 in
    let stand : paths_in (with_pair slots (slot_of parent paths) after.0 own None) ≡ set paths own None = paths-pair slots (slot_of parent paths) own holder.0 after.0 None held kept in
    let fewer = length-without_there path (replaced after.0 xs) (there-replaced path xs after.0 child.0 child.1) in
    IfOk-at_ok (IsFollowed rules slotted state (EvictM path parent)) after.2 (record {
      can = (slotted_there state slotted alike path child.0 child.1, slotted_there state slotted alike parent holder.0 holder.1);
      next = record { slots = with_pair slots (slot_of parent paths) after.0 own None; clock = slotted.clock };
      step = need-on (entry_at slots own) _ _ child.0 (in_slot state slotted alike path child.0 child.1)
          ∙ (test-on (is_root child.0.path) _ _ (root_by_path path child.0.path (entry_of-path path xs child.0 child.1) root.0)
          ∙ (need-on (entry_at slots (slot_of parent paths)) _ _ holder.0 held
          ∙ and_then-on (evict_under rules.scheme.digest holder.0 child.0) _ after.0 after.1));
      fresh = tt;
      clock = alike.clock;
      paths = stand;
      room = length-pair slots (slot_of parent paths) own after.0 None ∙ alike.room;
      count = omega (arith, fewer, length-changed after.0.path (λ old. after.0) xs, count_out state slotted alike path child.0 child.1, ap taken stand);
    })

followed_evict_b : (rules : Rules) (state : State) (slotted : SlotState) (path : List Bool) (stamp : Stamp) (done : Change × State) → AreAlike state slotted
    → evict_b rules.number state path stamp ≡ Ok done → IsFollowed rules slotted state (EvictB path stamp) done
followed_evict_b rules state slotted path stamp done alike is =
    let xs = state.cache.entries in
    let slots = slotted.slots in
    let paths = paths_in slots in
    let own = slot_of path paths in
    let root = test-ok (is_root path) _ _ done is in
    let child = need-ok (entry_of path xs) _ _ done root.1 in
    let lone = test-ok (has_kid child.0) _ _ done child.2 in
    let hold = test-ok (not (is_by_stamp child.0.hold)) _ _ done lone.1 in
    let clock = timed-ok (sent state.clock stamp) _ done hold.1 in
    let stand : paths_in (with_slot slots own None) ≡ set paths own None = paths-written slots own None in
    let fewer = length-without_there path xs (subst (λ (o : Option Entry). IsSome o) (sym child.1) refl) in
    IfOk-at_ok (IsFollowed rules slotted state (EvictB path stamp)) clock.2 (record {
      can = slotted_there state slotted alike path child.0 child.1;
      next = record { slots = with_slot slots own None; clock = clock.0 };
      step = need-on (entry_at slots own) _ _ child.0 (in_slot state slotted alike path child.0 child.1)
          ∙ (test-on (is_root child.0.path) _ _ (root_by_path path child.0.path (entry_of-path path xs child.0 child.1) root.0)
          ∙ (test-on (has_kid child.0) _ _ lone.0
          ∙ (test-on (not (is_by_stamp child.0.hold)) _ _ hold.0
          ∙ timed-on (sent slotted.clock stamp) _ clock.0 (ap (λ (reading : Reading). sent reading stamp) alike.clock ∙ clock.1))));
      fresh = tt;
      clock = refl;
      paths = stand;
      room = length-set slots own None ∙ alike.room;
      count = omega (arith, fewer, count_out state slotted alike path child.0 child.1, ap taken stand);
    })

followed_evict_bm : (rules : Rules) (state : State) (slotted : SlotState) (path parent : List Bool) (stamp : Stamp) (done : Change × State) → AreAlike state slotted
    → evict_bm rules.number state path parent stamp ≡ Ok done → IsFollowed rules slotted state (EvictBM path parent stamp) done
followed_evict_bm rules state slotted path parent stamp done alike is =
    let xs = state.cache.entries in
    let slots = slotted.slots in
    let paths = paths_in slots in
    let own = slot_of path paths in
    let root = test-ok (is_root path) _ _ done is in
    let child = need-ok (entry_of path xs) _ _ done root.1 in
    let holder = need-ok (entry_of parent xs) _ _ done child.2 in
    let after = and_then-ok (defer_under holder.0 child.0) _ done holder.2 in
    let clock = timed-ok (sent state.clock stamp) _ done after.2 in
    let kept = deferred_path holder.0 child.0 after.0 after.1 in
    let held = in_slot state slotted alike parent holder.0 holder.1 in
    let stand : paths_in (with_pair slots (slot_of parent paths) after.0 own None) ≡ set paths own None = paths-pair slots (slot_of parent paths) own holder.0 after.0 None held kept in
    let fewer = length-without_there path (replaced after.0 xs) (there-replaced path xs after.0 child.0 child.1) in
    IfOk-at_ok (IsFollowed rules slotted state (EvictBM path parent stamp)) clock.2 (record {
      can = (slotted_there state slotted alike path child.0 child.1, slotted_there state slotted alike parent holder.0 holder.1);
      next = record { slots = with_pair slots (slot_of parent paths) after.0 own None; clock = clock.0 };
      step = need-on (entry_at slots own) _ _ child.0 (in_slot state slotted alike path child.0 child.1)
          ∙ (test-on (is_root child.0.path) _ _ (root_by_path path child.0.path (entry_of-path path xs child.0 child.1) root.0)
          ∙ (need-on (entry_at slots (slot_of parent paths)) _ _ holder.0 held
          ∙ (and_then-on (defer_under holder.0 child.0) _ after.0 after.1
          ∙ timed-on (sent slotted.clock stamp) _ clock.0 (ap (λ (reading : Reading). sent reading stamp) alike.clock ∙ clock.1))));
      fresh = tt;
      clock = refl;
      paths = stand;
      room = length-pair slots (slot_of parent paths) own after.0 None ∙ alike.room;
      count = omega (arith, fewer, length-changed after.0.path (λ old. after.0) xs, count_out state slotted alike path child.0 child.1, ap taken stand);
    })

-- ---- gets, puts and the next epoch

-- a data path isn't a node's
no_node : (path : List Bool) → not (is_data path) ≡ false → IsNodePath path → ⊥
no_node path data_path short = data-no_node path (is-data path (not-false _ data_path)) short

data_by_path : (path own : List Bool) → own ≡ path → not (is_data path) ≡ false → not (is_data own) ≡ false
data_by_path path own same is = ap (λ (p : List Bool). not (is_data p)) same ∙ is

followed_get : (rules : Rules) (state : State) (slotted : SlotState) (path : List Bool) (value : Value) (done : Change × State) → IsOf rules.scheme.format.longest path value
    → AreAlike state slotted → get state path value ≡ Ok done → IsFollowed rules slotted state (Get path value) done
followed_get rules state slotted path (values.Node node) done kind alike is =
    let entry = need-ok (entry_of path state.cache.entries) _ _ done is in
    let data_path = test-ok (not (is_data path)) _ _ done entry.2 in
    absurd (no_node path data_path.0 kind.0)
followed_get rules state slotted path (values.Blob blob) done kind alike is =
    let slots = slotted.slots in
    let own = slot_of path (paths_in slots) in
    let entry = need-ok (entry_of path state.cache.entries) _ _ done is in
    let data_path = test-ok (not (is_data path)) _ _ done entry.2 in
    let same = test-ok (not (same_value entry.0.value (values.Blob blob))) _ _ done data_path.1 in
    IfOk-at_ok (IsFollowed rules slotted state (Get path (values.Blob blob))) same.1 (record {
      can = slotted_there state slotted alike path entry.0 entry.1;
      next = slotted;
      step = need-on (entry_at slots own) _ _ entry.0 (in_slot state slotted alike path entry.0 entry.1)
          ∙ (test-on (not (is_data entry.0.path)) _ _ (data_by_path path entry.0.path (entry_of-path path state.cache.entries entry.0 entry.1) data_path.0)
          ∙ test-on (not (same_value entry.0.value (values.Blob blob))) _ _ same.0);
      fresh = tt;
      clock = alike.clock;
      paths = refl;
      room = alike.room;
      count = alike.count;
    })

followed_put : (rules : Rules) (state : State) (slotted : SlotState) (path : List Bool) (value : Value) (done : Change × State) → IsOf rules.scheme.format.longest path value
    → AreAlike state slotted → put state path value ≡ Ok done → IsFollowed rules slotted state (Put path value) done
followed_put rules state slotted path (values.Node node) done kind alike is =
    let entry = need-ok (entry_of path state.cache.entries) _ _ done is in
    let data_path = test-ok (not (is_data path)) _ _ done entry.2 in
    absurd (no_node path data_path.0 kind.0)
followed_put rules state slotted path (values.Blob blob) done kind alike is =
    let xs = state.cache.entries in
    let slots = slotted.slots in
    let own = slot_of path (paths_in slots) in
    let entry = need-ok (entry_of path xs) _ _ done is in
    let data_path = test-ok (not (is_data path)) _ _ done entry.2 in
    let after : Entry = with_value entry.0 (values.Blob blob) in
    let there = in_slot state slotted alike path entry.0 entry.1 in
    let stand : paths_in (with_slot slots own (Some after)) ≡ paths_in slots = paths-replaced slots own entry.0 after there refl in
    IfOk-at_ok (IsFollowed rules slotted state (Put path (values.Blob blob))) data_path.1 (record {
      can = slotted_there state slotted alike path entry.0 entry.1;
      next = record { slots = with_slot slots own (Some after); clock = slotted.clock };
      step = need-on (entry_at slots own) _ _ entry.0 there
          ∙ test-on (not (is_data entry.0.path)) _ _ (data_by_path path entry.0.path (entry_of-path path xs entry.0 entry.1) data_path.0);
      fresh = tt;
      clock = alike.clock;
      paths = stand;
      room = length-set slots own (Some after) ∙ alike.room;
      count = length-changed after.path (λ old. after) xs ∙ (alike.count ∙ ap taken (sym stand));
    })

followed_absent : (rules : Rules) (state : State) (slotted : SlotState) (path parent : List Bool) (done : Change × State) → AreAlike state slotted
    → absent state path parent ≡ Ok done → IsFollowed rules slotted state (Absent path parent) done
followed_absent rules state slotted path parent done alike is =
    let data_path = test-ok (not (is_data path)) _ _ done is in
    let holder = need-ok (entry_of parent state.cache.entries) _ _ done data_path.1 in
    let entry = and_then-ok (absent_under holder.0 path) _ done holder.2 in
    IfOk-at_ok (IsFollowed rules slotted state (Absent path parent)) entry.2 (record {
      can = slotted_there state slotted alike parent holder.0 holder.1;
      next = slotted;
      step = test-on (not (is_data path)) _ _ data_path.0
          ∙ (need-on (entry_at slotted.slots (slot_of parent (paths_in slotted.slots))) _ _ holder.0 (in_slot state slotted alike parent holder.0 holder.1)
          ∙ and_then-on (absent_under holder.0 path) _ entry.0 entry.1);
      fresh = tt;
      clock = alike.clock;
      paths = refl;
      room = alike.room;
      count = alike.count;
    })

followed_next_epoch : (rules : Rules) (state : State) (slotted : SlotState) (done : Change × State) → AreAlike state slotted
    → next_epoch state ≡ Ok done → IsFollowed rules slotted state NextEpoch done
followed_next_epoch rules state slotted done alike is =
    let turn = timed-ok (advanced state.clock) _ done is in
    IfOk-at_ok (IsFollowed rules slotted state NextEpoch) turn.2 (record {
      can = tt;
      next = record { slots = slotted.slots; clock = turn.0.1 };
      step = timed-on (advanced slotted.clock) _ turn.0 (ap advanced alike.clock ∙ turn.1);
      fresh = tt;
      clock = refl;
      paths = refl;
      room = alike.room;
      count = alike.count;
    })

-- Each accepted command is followed.
pub followed : (rules : Rules) (state : State) (slotted : SlotState) (command : Command) (done : Change × State) → IsOfKind rules.scheme.format.longest command → AreAlike state slotted
    → transition rules state command ≡ Ok done → IsFollowed rules slotted state command done
followed rules state slotted (AddM path value parent) done kind alike is = followed_add_m rules state slotted path value parent done alike is
followed rules state slotted (EvictM path parent) done kind alike is = followed_evict_m rules state slotted path parent done alike is
followed rules state slotted (AddB path value stamp verifier) done kind alike is = followed_add_b rules state slotted path value stamp verifier done alike is
followed rules state slotted (EvictB path stamp) done kind alike is = followed_evict_b rules state slotted path stamp done alike is
followed rules state slotted (EvictBM path parent stamp) done kind alike is = followed_evict_bm rules state slotted path parent stamp done alike is
followed rules state slotted (Get path value) done kind alike is = followed_get rules state slotted path value done kind alike is
followed rules state slotted (Put path value) done kind alike is = followed_put rules state slotted path value done kind alike is
followed rules state slotted NextEpoch done kind alike is = followed_next_epoch rules state slotted done alike is
followed rules state slotted (Absent path parent) done kind alike is = followed_absent rules state slotted path parent done alike is
