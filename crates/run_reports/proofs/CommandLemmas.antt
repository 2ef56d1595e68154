-- Typed commands that a verifier accepts have texts: each path stands in its cache, and each value there is of its path's kind.
use Rattle.std.proofs.Common.{◌≡◌, ℕ, suc, ◌<◌, ◌≤◌, ◌^◌, ◌||◌, nat_le, Bool, true, false, not, List, [], ◌∷◌, Option, Some, None, is_some, Ok, Err, refl, sym, ap, subst, if◌then◌else◌, arith}
use Rattle.std.specs.List.{AllByRecursion}
use Rattle.std.proofs.lemmas.Bool.{not-false, cond_both}
use Rattle.std.proofs.lemmas.Bool.Decides.{nat_tests}
use Rattle.std.proofs.lemmas.Option.{none-some, same_Some}
use Rattle.std.proofs.lemmas.Result.{IfOk-at_ok}
use Rattle.tree_keys.specs.Path.{side, same_path, IsPath, is_data}
use Rattle.tree_keys.proofs.TreeLaws.{data-path, node-path, is-data}
use Rattle.lamport_clocks.specs.declared.stamp.Stamp.{Stamp}
use Rattle.lamport_clocks.specs.Clock.{received, sent, advanced}
use Rattle.base_words.proofs.StepLaws.{test-ok}
use Rattle.record_text.specs.declared.value.Value.{Value}
use Rattle.record_text.specs.declared.value.Value.TheVariants as values
use Rattle.record_text.specs.Same.{same_value}
use Rattle.record_text.specs.Texts.{value_text}
use Rattle.record_text.specs.Value.{IsOf, node_side, initial_value}
use Rattle.record_text.proofs.SameTestLaws.{same_value-true}
use Rattle.log_codec.specs.declared.command.Command.{Command}
use Rattle.log_codec.specs.declared.command.Command.TheVariants.{AddM, EvictM, AddB, EvictB, EvictBM, Get, Put, NextEpoch, Absent}
use Rattle.log_codec.specs.Command.{IsPathCommand}
use Rattle.merkle_records.specs.declared.cases.AddCase.{AddCase}
use Rattle.merkle_records.specs.declared.cases.AddCase.TheVariants as cases
use Rattle.merkle_records.specs.Merkle.{Digest, GivesDigests, case_of, Added, after_add}
use Rattle.merkle_records.proofs.KindLaws.{AddedIsOf, IsOf-after_add, IsOf-after_evict, IsOf-after_defer}
use Rattle.stamp_order.proofs.InOrderLaws.{every-append}
use Rattle.verifier_cache.specs.declared.entry.Entry.{Entry}
use Rattle.verifier_cache.specs.declared.entry.Hold.TheVariants.{M, B}
use Rattle.verifier_cache.specs.Entry.{kid_of, has_kid, new_entry}
use Rattle.verifier_cache.specs.Cache.{entry_of, without, changed, replaced}
use Rattle.verifier_cache.proofs.EntriesLaws.{entry_of-path}
use Rattle.verifier_commands.specs.declared.state.State.{State}
use Rattle.verifier_commands.specs.Change.{Change}
use Rattle.verifier_commands.specs.Changes.{Parent, Family, node_of, above_on, above, leads_to, is_deferred, has_digest, leads_below, holds_wrong, is_by_digest, is_by_stamp, set_kid_on, family_of, add_by, add_under, evict_under, defer_under, absent_under}
use Rattle.verifier_commands.specs.Transition.{Rules, Step, is_root, is_full, transition, add_m, evict_m, add_b, evict_b, evict_bm, get, put, absent}
use Rattle.verifier_commands.proofs.InvertLaws.{need-ok, and_then-ok, timed-ok}
use Rattle.verifier_commands.proofs.TickLaws.{ticks_step}
use Rattle.soundness.specs.Certified.{added_by}
use Rattle.soundness.specs.StateHistory.{events_from, events_behind, refusal_from, refusal_behind}
use Rattle.soundness.specs.PathHistory.{path_machinery_under}
use Rattle.soundness.specs.Timed.{added_among}
use Rattle.soundness.specs.Typed.{IsPathTyped}
use Rattle.run_reports.proofs.StampLemmas.{IsNarrow, IsStamped, sent_stamp, narrow_after, every-first, every-second}

-- ---- entries

module _ (P : Entry → Type 0) where
  every-changed : (path : List Bool) (new : Entry) (xs : List Entry) → P new → AllByRecursion P xs → AllByRecursion P (changed path (λ old. new) xs)
  every-changed path new [] own all = tt
  every-changed path new (x ∷ xs) own all =
      cond_both (same_path path x.path) (new ∷ xs) (x ∷ changed path (λ old. new) xs) (AllByRecursion P)
      (λ _. (own, all.1)) (λ _. (all.0, every-changed path new xs own all.1))

  -- an entry in the place of another
  every-replaced : (new : Entry) (xs : List Entry) → P new → AllByRecursion P xs → AllByRecursion P (replaced new xs)
  every-replaced new xs own all = every-changed new.path new xs own all

  every-without : (path : List Bool) (xs : List Entry) → AllByRecursion P xs → AllByRecursion P (without path xs)
  every-without path [] all = tt
  every-without path (x ∷ xs) all =
      cond_both (same_path path x.path) xs (x ∷ without path xs) (AllByRecursion P)
      (λ _. all.1) (λ _. (all.0, every-without path xs all.1))

  -- an entry that is found
  found_has : (path : List Bool) (xs : List Entry) (entry : Entry) → AllByRecursion P xs → entry_of path xs ≡ Some entry → P entry
  found_has path [] entry all is = absurd (none-some entry is)
  found_has path (x ∷ xs) entry all is = go (found_has path xs entry all.1) (same_path path x.path) is
    where
      go : (entry_of path xs ≡ Some entry → P entry) → (b : Bool) → (if b then Some x else entry_of path xs) ≡ Some entry → P entry
      go deeper true is = subst P (same_Some x entry is) all.0
      go deeper false is = deeper is

-- the path of a value isn't longer than a key's
length-IsOf : (longest : ℕ) (path : List Bool) (value : Value) → IsOf longest path value → IsPath path
length-IsOf longest path (values.Blob blob) kind = data-path path kind.0
length-IsOf longest path (values.Node node) kind = node-path path kind.0

-- a parent is a node above the path
above_is : (s : Option Bool) (value : Value) (place : Parent) → above_on s (node_of value) ≡ Some place
    → (s ≡ Some place.on) × (value ≡ values.Node place.node)
above_is None (values.Blob blob) place is = absurd (none-some place is)
above_is None (values.Node node) place is = absurd (none-some place is)
above_is (Some on) (values.Blob blob) place is = absurd (none-some place is)
above_is (Some on) (values.Node node) place is =
    let same : ◌≡◌ {A = Parent} (record { on = on; node = node }) place = same_Some _ place is in
    (ap (λ (p : Parent). Some p.on) same, ap (λ (p : Parent). values.Node p.node) same)

-- the entry's value is of its path's kind
abbrev pub IsKind : ℕ → Entry → Type 0
IsKind longest entry = IsOf longest entry.path entry.value

abbrev pub AreKind : ℕ → Family → Type 0
AreKind longest family = IsKind longest family.parent × IsKind longest family.child

-- ---- a child under its parent

module _ (longest : ℕ) (digest : Digest) (digests : GivesDigests digest) where
  set_kid_on-kind : (entry : Entry) (which : Option Bool) (on : Bool) → IsKind longest entry → IsKind longest (set_kid_on entry which on)
  set_kid_on-kind entry None on kind = kind
  set_kid_on-kind entry (Some which) on kind = kind

  family_kind : (parent : Entry) (place : Parent) (path : List Bool) (added : Added) (taken : Option Bool)
      → AddedIsOf longest parent.path path added → AreKind longest (family_of parent place added path taken)
  family_kind parent place path added taken kinds =
      (kinds.0, set_kid_on-kind (new_entry path added.value M) taken (kid_of parent place.on) kinds.1)

  add_by-kind : (parent : Entry) (place : Parent) (path : List Bool) (value : Value) (leads : AddCase) (family : Family)
      → AddedIsOf longest parent.path path (after_add digest place.node place.on path value)
      → add_by digest parent place path value leads ≡ Ok family → AreKind longest family
  add_by-kind parent place path value cases.Foreign family kinds is = absurd (cc)
  add_by-kind parent place path value cases.Empty family kinds is =
      let made = test-ok (not (same_value value (initial_value path))) _ _ family is in
      IfOk-at_ok (AreKind longest) made.1 (family_kind parent place path (after_add digest place.node place.on path value) None kinds)
  add_by-kind parent place path value cases.Split family kinds is =
      let made = test-ok (not (same_value value (initial_value path))) _ _ family is in
      IfOk-at_ok (AreKind longest) made.1 (family_kind parent place path (after_add digest place.node place.on path value) (leads_below path (node_side place.node place.on)) kinds)
  add_by-kind parent place path value cases.Same family kinds is =
      let pointer = node_side place.node place.on in
      let checked = test-ok (is_deferred pointer) _ _ family is in
      let digested = test-ok (not (has_digest pointer (digest (value_text value)))) _ _ family checked.1 in
      let lone = test-ok (kid_of parent place.on) _ _ family digested.1 in
      IfOk-at_ok (AreKind longest) lone.1 (family_kind parent place path (after_add digest place.node place.on path value) None kinds)

  add_kind : (parent : Entry) (path : List Bool) (value : Value) (family : Family) → IsKind longest parent → IsOf longest path value
      → add_under digest parent path value ≡ Ok family → AreKind longest family
  add_kind parent path value family held kind is =
      let place = need-ok (above parent path) _ _ family is in
      let told = above_is (side parent.path path) parent.value place.0 place.1 in
      add_by-kind parent place.0 path value (case_of (node_side place.0.node place.0.on) path) family
      (IsOf-after_add longest digest parent.path path place.0.on place.0.node value digests told.0
      (subst (IsOf longest parent.path) told.1 held) kind)
      place.2

  evict_kind : (parent child after : Entry) → IsKind longest parent → IsKind longest child → evict_under digest parent child ≡ Ok after → IsKind longest after
  evict_kind parent child after held kind is =
      let place = need-ok (above parent child.path) _ _ after is in
      let told = above_is (side parent.path child.path) parent.value place.0 place.1 in
      let pointer = node_side place.0.node place.0.on in
      let led = test-ok (not (leads_to pointer child.path)) _ _ after place.2 in
      let lone = test-ok (has_kid child) _ _ after led.1 in
      let right = test-ok (holds_wrong child.hold (kid_of parent place.0.on) (is_deferred pointer)) _ _ after lone.1 in
      IfOk-at_ok (IsKind longest) right.1
      (IsOf-after_evict longest digest parent.path child.path place.0.on place.0.node child.value digests told.0
      (subst (IsOf longest parent.path) told.1 held) kind)

  defer_kind : (parent child after : Entry) → IsKind longest parent → defer_under parent child ≡ Ok after → IsKind longest after
  defer_kind parent child after held is =
      let place = need-ok (above parent child.path) _ _ after is in
      let told = above_is (side parent.path child.path) parent.value place.0 place.1 in
      let led = test-ok (not (leads_to (node_side place.0.node place.0.on) child.path)) _ _ after place.2 in
      let lone = test-ok (has_kid child) _ _ after led.1 in
      let right = test-ok (not (is_by_digest child.hold) || not (kid_of parent place.0.on)) _ _ after lone.1 in
      IfOk-at_ok (IsKind longest) right.1
      (IsOf-after_defer longest parent.path place.0.on place.0.node (subst (IsOf longest parent.path) told.1 held))

-- ---- each command

-- the entries of a state are of their kinds, and its clock has 32 bits
pub record IsGood (longest : ℕ) (state : State) : Type 0 where
  pub kinds : AllByRecursion (IsKind longest) state.cache.entries
  pub narrow : IsNarrow state.clock

-- the command has a text, where the stamps of what it adds are in their ranges; and the entries stay of their kinds
pub record Fits (longest : ℕ) (command : Command) (done : Change × State) : Type 0 where
  pub spelled : AllByRecursion IsStamped (added_by done.0) → IsPathCommand longest command
  pub kinds : AllByRecursion (IsKind longest) done.1.cache.entries

module _ (rules : Rules) (digests : GivesDigests rules.scheme.digest) (few : rules.verifiers ≤ 2 ^ 16) where
  abbrev longest : ℕ
  longest = rules.scheme.format.longest

  abbrev digest : Digest
  digest = rules.scheme.digest

  module _ (state : State) (good : IsGood longest state) (done : Change × State) where
    abbrev xs : List Entry
    xs = state.cache.entries

    -- the path of an entry that is found isn't too long
    short : (path : List Bool) (entry : Entry) → entry_of path xs ≡ Some entry → IsPath path
    short path entry found =
        subst (λ (p : List Bool). IsPath p) (entry_of-path path xs entry found)
        (length-IsOf longest entry.path entry.value (found_has (IsKind longest) path xs entry good.kinds found))

    fits_add_m : (path : List Bool) (value : Value) (parent : List Bool) → IsOf longest path value
        → add_m digest state path value parent ≡ Ok done → Fits longest (AddM path value parent) done
    fits_add_m path value parent kind is =
        let inner = test-ok (is_root path) _ _ done is in
        let fresh = test-ok (is_some (entry_of path xs)) _ _ done inner.1 in
        let room = test-ok (is_full state) _ _ done fresh.1 in
        let holder = need-ok (entry_of parent xs) _ _ done room.1 in
        let family = and_then-ok (add_under digest holder.0 path value) _ done holder.2 in
        let kinds = add_kind longest digest digests holder.0 path value family.0 (found_has (IsKind longest) parent xs holder.0 good.kinds holder.1) kind family.1 in
        IfOk-at_ok (Fits longest (AddM path value parent)) family.2 (record {
          spelled = λ stamps. (kind, short parent holder.0 holder.1);
          kinds = every-append (IsKind longest) (replaced family.0.parent xs) (family.0.child ∷ [])
              (every-replaced (IsKind longest) family.0.parent xs kinds.0 good.kinds) (kinds.1, tt);
        })

    fits_evict_m : (path parent : List Bool) → evict_m digest state path parent ≡ Ok done → Fits longest (EvictM path parent) done
    fits_evict_m path parent is =
        let inner = test-ok (is_root path) _ _ done is in
        let child = need-ok (entry_of path xs) _ _ done inner.1 in
        let holder = need-ok (entry_of parent xs) _ _ done child.2 in
        let after = and_then-ok (evict_under digest holder.0 child.0) _ done holder.2 in
        let kind = evict_kind longest digest digests holder.0 child.0 after.0
        (found_has (IsKind longest) parent xs holder.0 good.kinds holder.1)
        (found_has (IsKind longest) path xs child.0 good.kinds child.1) after.1 in
        IfOk-at_ok (Fits longest (EvictM path parent)) after.2 (record {
          spelled = λ stamps. (short path child.0 child.1, short parent holder.0 holder.1);
          kinds = every-without (IsKind longest) path (replaced after.0 xs)
              (every-replaced (IsKind longest) after.0 xs kind good.kinds);
        })

    fits_add_b : (path : List Bool) (value : Value) (stamp : Stamp) (verifier : ℕ) → IsOf longest path value
        → add_b rules.verifiers state path value stamp verifier ≡ Ok done → Fits longest (AddB path value stamp verifier) done
    fits_add_b path value stamp verifier kind is =
        let inner = test-ok (is_root path) _ _ done is in
        let fresh = test-ok (is_some (entry_of path xs)) _ _ done inner.1 in
        let room = test-ok (is_full state) _ _ done fresh.1 in
        let known = test-ok (nat_le rules.verifiers verifier) _ _ done room.1 in
        let clock = timed-ok (received state.clock stamp) _ done known.1 in
        let below : verifier < rules.verifiers = under rules.verifiers verifier known.0 in
        IfOk-at_ok (Fits longest (AddB path value stamp verifier)) clock.2 (record {
          spelled = λ stamps. (kind, stamps.0, omega (arith, below, few));
          kinds = every-append (IsKind longest) xs (new_entry path value B ∷ []) good.kinds (kind, tt);
        })
      where
        under : (a b : ℕ) → nat_le a b ≡ false → b < a
        under a b not_within = grind (arith, nat_tests)

    fits_evict_b : (path : List Bool) (stamp : Stamp) → evict_b rules.number state path stamp ≡ Ok done → Fits longest (EvictB path stamp) done
    fits_evict_b path stamp is =
        let inner = test-ok (is_root path) _ _ done is in
        let child = need-ok (entry_of path xs) _ _ done inner.1 in
        let lone = test-ok (has_kid child.0) _ _ done child.2 in
        let held = test-ok (not (is_by_stamp child.0.hold)) _ _ done lone.1 in
        let clock = timed-ok (sent state.clock stamp) _ done held.1 in
        IfOk-at_ok (Fits longest (EvictB path stamp)) clock.2 (record {
          spelled = λ stamps. (short path child.0 child.1, sent_stamp state.clock clock.0 stamp good.narrow clock.1);
          kinds = every-without (IsKind longest) path xs good.kinds;
        })

    fits_evict_bm : (path parent : List Bool) (stamp : Stamp) → evict_bm rules.number state path parent stamp ≡ Ok done
        → Fits longest (EvictBM path parent stamp) done
    fits_evict_bm path parent stamp is =
        let inner = test-ok (is_root path) _ _ done is in
        let child = need-ok (entry_of path xs) _ _ done inner.1 in
        let holder = need-ok (entry_of parent xs) _ _ done child.2 in
        let after = and_then-ok (defer_under holder.0 child.0) _ done holder.2 in
        let clock = timed-ok (sent state.clock stamp) _ done after.2 in
        let kind = defer_kind longest digest digests holder.0 child.0 after.0
        (found_has (IsKind longest) parent xs holder.0 good.kinds holder.1) after.1 in
        IfOk-at_ok (Fits longest (EvictBM path parent stamp)) clock.2 (record {
          spelled = λ stamps. (
            short path child.0 child.1,
            short parent holder.0 holder.1,
            sent_stamp state.clock clock.0 stamp good.narrow clock.1,
          );
          kinds = every-without (IsKind longest) path (replaced after.0 xs)
              (every-replaced (IsKind longest) after.0 xs kind good.kinds);
        })

    fits_get : (path : List Bool) (value : Value) → get state path value ≡ Ok done → Fits longest (Get path value) done
    fits_get path value is =
        let entry = need-ok (entry_of path xs) _ _ done is in
        let at_data = test-ok (not (is_data path)) _ _ done entry.2 in
        let same = test-ok (not (same_value entry.0.value value)) _ _ done at_data.1 in
        let held = found_has (IsKind longest) path xs entry.0 good.kinds entry.1 in
        IfOk-at_ok (Fits longest (Get path value)) same.1 (record {
          spelled = λ stamps.
              subst (IsOf longest path) (same_value-true entry.0.value value (not-false (same_value entry.0.value value) same.0))
              (subst (λ (p : List Bool). IsOf longest p entry.0.value) (entry_of-path path xs entry.0 entry.1) held);
          kinds = good.kinds;
        })

    fits_put : (path : List Bool) (value : Value) → IsOf longest path value → put state path value ≡ Ok done → Fits longest (Put path value) done
    fits_put path value kind is =
        let entry = need-ok (entry_of path xs) _ _ done is in
        let at_data = test-ok (not (is_data path)) _ _ done entry.2 in
        let new : Entry = record entry.0 { value = value } in
        IfOk-at_ok (Fits longest (Put path value)) at_data.1 (record {
          spelled = λ stamps. kind;
          kinds = every-replaced (IsKind longest) new xs
              (subst (λ (p : List Bool). IsOf longest p value) (sym (entry_of-path path xs entry.0 entry.1)) kind) good.kinds;
        })

    fits_absent : (path parent : List Bool) → absent state path parent ≡ Ok done → Fits longest (Absent path parent) done
    fits_absent path parent is =
        let at_data = test-ok (not (is_data path)) _ _ done is in
        let holder = need-ok (entry_of parent xs) _ _ done at_data.1 in
        let entry = and_then-ok (absent_under holder.0 path) _ done holder.2 in
        IfOk-at_ok (Fits longest (Absent path parent)) entry.2 (record {
          spelled = λ stamps. (data-path path (is-data path (not-false (is_data path) at_data.0)), short parent holder.0 holder.1);
          kinds = good.kinds;
        })

    fits : (command : Command) → IsPathTyped longest command → transition rules state command ≡ Ok done → Fits longest command done
    fits (AddM path value parent) typed is = fits_add_m path value parent typed is
    fits (EvictM path parent) typed is = fits_evict_m path parent is
    fits (AddB path value stamp verifier) typed is = fits_add_b path value stamp verifier typed is
    fits (EvictB path stamp) typed is = fits_evict_b path stamp is
    fits (EvictBM path parent stamp) typed is = fits_evict_bm path parent stamp is
    fits (Get path value) typed is = fits_get path value is
    fits (Put path value) typed is = fits_put path value typed is
    fits NextEpoch typed is =
        let turn = timed-ok (advanced state.clock) _ done is in
        IfOk-at_ok (Fits longest NextEpoch) turn.2 (record { spelled = λ stamps. tt; kinds = good.kinds })
    fits (Absent path parent) typed is = fits_absent path parent is

    good_after : (command : Command) → IsPathTyped longest command → transition rules state command ≡ Ok done → IsGood longest done.1
    good_after command typed is = record {
      kinds = (fits command typed is).kinds;
      narrow = narrow_after state.clock done.1.clock done.0 good.narrow (ticks_step rules state command done is);
    }

  -- ---- commands

  -- Typed commands that are accepted from a good state on have texts, where the stamps of what they add are in their ranges.
  pub accepted_spelled : (number index : ℕ) (state : State) (commands : List Command) → IsGood longest state
      → AllByRecursion (IsPathTyped longest) commands → refusal_from (path_machinery_under rules) state commands ≡ None
      → AllByRecursion IsStamped (added_among (events_from (path_machinery_under rules) number index state commands))
      → AllByRecursion (IsPathCommand longest) commands
  unfolding refusal_from events_from
  accepted_spelled number index state [] good typed accepted stamped = tt
  accepted_spelled number index state (command ∷ commands) good typed accepted stamped =
      go (transition rules state command) refl (λ after. accepted_spelled number (suc index) after commands) accepted stamped
    where
      go : (step : Step) → transition rules state command ≡ step
          → ((after : State) → IsGood longest after → AllByRecursion (IsPathTyped longest) commands → refusal_from (path_machinery_under rules) after commands ≡ None
          → AllByRecursion IsStamped (added_among (events_from (path_machinery_under rules) number (suc index) after commands))
          → AllByRecursion (IsPathCommand longest) commands)
          → refusal_behind step (λ after. refusal_from (path_machinery_under rules) after commands) ≡ None
          → AllByRecursion IsStamped (added_among (events_behind (path_machinery_under rules) number index step (λ after. events_from (path_machinery_under rules) number (suc index) after commands)))
          → AllByRecursion (IsPathCommand longest) (command ∷ commands)
      go (Ok done) is further accepted stamped = (
        (fits state good done command typed.0 is).spelled
            (every-first IsStamped (added_by done.0) (added_among (events_from (path_machinery_under rules) number (suc index) done.1 commands)) stamped),
        further done.1 (good_after state good done command typed.0 is) typed.1 accepted
            (every-second IsStamped (added_by done.0) (added_among (events_from (path_machinery_under rules) number (suc index) done.1 commands)) stamped),
      )
      go (Err refusal) is further accepted stamped = absurd (none-some refusal (sym accepted))
