-- A request that is served at a hot place: its access is done where the key's value is held.
use Rattle.std.proofs.Common.{◌≡◌, ◌⊎◌, ℕ, suc, Bool, true, List, ◌∷◌, get_or, set, Option, Some, refl, sym, ◌∙◌, ap, subst, inl, inr}
use Rattle.std.specs.List.{AllByRecursion}
use Rattle.std.proofs.lemmas.Bool.{cases_eq}
use Rattle.tree_keys.specs.Path.{key_path}
use Rattle.lamport_clocks.specs.declared.stamp.Stamp.{Stamp}
use Rattle.lamport_clocks.specs.Stamp.{IsLater}
use Rattle.lamport_clocks.specs.Reading.{Reading}
use Rattle.lamport_clocks.specs.Clock.{is_open}
use Rattle.record_text.specs.declared.request.Request.{Request}
use Rattle.record_text.specs.Longest.{longest_of}
use Rattle.verifier_commands.specs.Change.{Change}
use Rattle.soundness.specs.StateHistory.{rules_under}
use Rattle.host_shard.specs.declared.content.HotRecord.{HotRecord}
use Rattle.host_shard.specs.Shard.{key_path_in}
use Rattle.host_shard.specs.Content.{Content, cold, hot, vacant, hot_path, pending, pending_hot}
use Rattle.host_shard.specs.Mirrors.{IsKeyOf, HasKeyOf}
use Rattle.host_plan.specs.Plan.{Owns, content_after, value_found}
use Rattle.host_plan.specs.Request.{served_hot}
use Rattle.host_core.specs.Host.{Done, scheme, resting}
use Rattle.host_core.specs.Deeds.{IsOpenElement}
use Rattle.host_core.specs.Clear.{IsNotAfter}
use Rattle.host_laws.specs.Served.{IsWithin, PlanRuns, waiting}
use Rattle.protection_moves.specs.Stage.{hot_records}
use Rattle.move_laws.specs.Stages.{StageMirrors, IsOne}
use Rattle.move_laws.proofs.PlaceLaws.{AreApart, one_of-all}
use Rattle.move_laws.proofs.DescentLaws.{apart_by_number}
use Rattle.move_laws.proofs.TransferLaws.{hot_own}
use Rattle.host_holds.specs.Holding.{hot_record_of, stamp_or, held_value, held_since, stored_after}
use Rattle.host_holds.proofs.HeldLaws.{hot_served}
use Rattle.host_holds.proofs.HotLaws.{hot-found, own-set, others-set}
use Rattle.shipped_host.specs.Planned.{IsPlanned}
use Rattle.shipped_host.specs.Seated.{IsHotPlace, SeatsMirror}
use Rattle.shipped_host.proofs.PlaceLaws.{place_there}
use Rattle.shipped_host.proofs.SeatLaws.{stage_at, stage_mirrors}
use Rattle.host_fits.proofs.Keeping.{Setting, ranged}
use Rattle.host_fits.proofs.ClearLemmas.{not_after, renewing-rises}
use Rattle.host_fits.proofs.ServeLemmas.{Serves, asked_so, planned, runs, logged, there, small, takes_in, accessed}
use Rattle.host_fits.proofs.FitLemmas.{all-weaker}
use Rattle.host_fits.proofs.AccessLemmas.{own_shard, OneAccess, since_hot, same_since}

-- a hot place that owns a key has its record
hot_owner : (longest : ℕ) (content : Content) (key : ℕ) → IsHotPlace content → Owns longest content key → (record' : HotRecord) × (content ≡ hot record') × (record'.key ≡ key)
hot_owner longest (cold shard) key alone own = absurd alone
hot_owner longest (hot record') key alone own = (record', refl, own)
hot_owner longest vacant key alone own = absurd own

-- at a hot place
module _ (setting : Setting) (worker : ℕ) (clock : Reading) (s k : ℕ) (contents : List Content) (request : Request) (found : Done Content)
    (serves : Serves setting worker clock s (suc k) contents request found) where
  abbrev seats : SeatsMirror (longest_of setting.settings.header) setting.functions.digest contents
  seats = serves.ready.mirrored.mirrors

  abbrev places : List Content
  places = seats.places

  abbrev plan : IsPlanned setting.settings.absent setting.functions.digest worker clock (get_or contents (suc k) vacant) request found
  plan = planned setting worker clock s (suc k) contents request found serves

  abbrev ran : PlanRuns (rules_under (scheme (ranged setting)) setting.settings.header worker) (resting (ranged setting) worker clock) (get_or contents (suc k) vacant) found.after request plan.plan found.clock
  ran = runs setting worker clock s (suc k) contents request found serves

  owner : (record' : HotRecord) × (get_or places k vacant ≡ hot record') × (record'.key ≡ request.key)
  owner =
      hot_owner (longest_of setting.settings.header) (get_or places k vacant) request.key (place_there places k seats.hot_alone)
      (subst (λ (cs : List Content). Owns (longest_of setting.settings.header) (get_or cs (suc k) vacant) request.key) seats.is
      (there setting worker clock s (suc k) contents request found serves).own)

  abbrev old : HotRecord
  old = owner.0

  abbrev new : HotRecord
  new = served_hot worker old request clock

  content_is : get_or contents (suc k) vacant ≡ hot old
  content_is = ap (λ (cs : List Content). get_or cs (suc k) vacant) seats.is ∙ owner.1

  after_is : found.after ≡ hot new
  after_is = plan.is.content ∙ ap (λ (c : Content). content_after setting.settings.absent setting.functions.digest worker c plan.is.links request clock) content_is

  then_is : set contents (suc k) found.after ≡ cold seats.shard ∷ set places k (hot new)
  then_is = ap (λ (c : Content). set contents (suc k) c) after_is ∙ ap (λ (cs : List Content). set cs (suc k) (hot new)) seats.is

  stage_there : StageMirrors (longest_of setting.settings.header) setting.functions.digest (stage_at seats.shard places clock)
  stage_there = stage_mirrors (longest_of setting.settings.header) setting.functions.digest contents clock seats

  apart : AreApart (hot_records places)
  apart = apart_by_number (longest_of setting.settings.header) setting.functions.digest worker (stage_at seats.shard places clock) stage_there

  set_there : IsOne (hot_records places) old × (hot_record_of old.key (set places k (hot new)) ≡ Some new)
  set_there = own-set places k old new owner.1 refl apart

  has_key : HasKeyOf seats.shard old
  has_key = one_of-all (HasKeyOf seats.shard) (hot_records places) old seats.in_range set_there.0

  owned : IsKeyOf seats.shard (key_path_in seats.shard request.key)
  owned =
      subst (λ (key : ℕ). IsKeyOf seats.shard (key_path_in seats.shard key)) owner.2
      (subst (λ (wide : Bool). IsKeyOf seats.shard (key_path wide old.key)) has_key.tree
      (one_of-all (λ r. IsKeyOf seats.shard (hot_path r)) (hot_records places) old
      (hot_own (longest_of setting.settings.header) setting.functions.digest (stage_at seats.shard places clock) stage_there) set_there.0))

  old_since : held_since (cold seats.shard ∷ places) request.key ≡ old.stamp
  old_since = subst (λ (key : ℕ). held_since (cold seats.shard ∷ places) key ≡ old.stamp) owner.2
      (since_hot old.key seats.shard places old (hot-found places old set_there.0 apart))

  new_since : held_since (cold seats.shard ∷ set places k (hot new)) request.key ≡ new.stamp
  new_since = subst (λ (key : ℕ). held_since (cold seats.shard ∷ set places k (hot new)) key ≡ new.stamp) owner.2
      (since_hot old.key seats.shard (set places k (hot new)) new set_there.1)

  opens_now : is_open clock old.stamp.epoch ≡ true
  opens_now = (subst (λ (c : Content). AllByRecursion (IsOpenElement (ranged setting) clock) (waiting (pending c))) content_is
      (takes_in setting worker clock s (suc k) contents request found serves)).0.1

  within : AllByRecursion (λ (one : Stamp × Change). IsWithin (Some (pending_hot old)) (Some (pending_hot new)) one.0) ran.told
  within =
      subst (λ (c : Content). AllByRecursion (λ (one : Stamp × Change). IsWithin (Some (pending_hot old)) (pending c) one.0) ran.told) after_is
      (subst (λ (c : Content). AllByRecursion (λ (one : Stamp × Change). IsWithin (pending c) (pending found.after) one.0) ran.told) content_is ran.within)

  rises_there : (key : ℕ) → IsNotAfter (held_since (cold seats.shard ∷ places) key) (held_since (cold seats.shard ∷ set places k (hot new)) key)
  rises_there key = go (cases_eq key request.key)
    where
      go : (key ≡ request.key) ⊎ (key ≡ request.key → ⊥) → IsNotAfter (held_since (cold seats.shard ∷ places) key) (held_since (cold seats.shard ∷ set places k (hot new)) key)
      go (inl same) =
          subst (λ (j : ℕ). IsNotAfter (held_since (cold seats.shard ∷ places) j) (held_since (cold seats.shard ∷ set places k (hot new)) j)) (sym same)
          (subst (λ (at : Stamp). IsNotAfter at (held_since (cold seats.shard ∷ set places k (hot new)) request.key)) (sym old_since)
          (subst (λ (at : Stamp). IsNotAfter old.stamp at) (sym new_since) (renewing-rises clock old.stamp opens_now)))
      go (inr other) =
          subst (λ (o : Option HotRecord). IsNotAfter (held_since (cold seats.shard ∷ places) key) (stamp_or o seats.shard.stamp))
          (sym (others-set places k old new key owner.1 refl (λ same. other (same ∙ owner.2)))) (same_since (held_since (cold seats.shard ∷ places) key))

  pub hot_access : OneAccess setting worker (resting (ranged setting) worker clock) (resting (ranged setting) worker found.clock) found.commands ran.told s
      contents (set contents (suc k) found.after) request plan.plan.answer
  hot_access = record {
    runs_so = logged setting worker clock s (suc k) contents request found serves;
    access = accessed setting worker clock s (suc k) contents request found serves;
    in_range = small setting worker clock s (suc k) contents request found serves;
    asked = asked_so request (value_found setting.settings.absent (get_or contents (suc k) vacant) plan.is.links request) plan.plan.answer plan.is.answer;
    own = own_shard setting s contents request.key serves.ready.mirrored seats owned;
    held = λ key in_range.
        subst (λ (cs : List Content). held_value cs key ≡ stored_after request (held_value contents) key) (sym then_is)
        (subst (λ (cs : List Content). held_value (cold seats.shard ∷ set places k (hot new)) key ≡ stored_after request (held_value cs) key) (sym seats.is)
        (hot_served (longest_of setting.settings.header) setting.functions.digest worker (stage_at seats.shard places clock) stage_there request clock k old owner.1 owner.2 key));
    behind =
        subst (λ (cs : List Content). AllByRecursion (λ (one : Stamp × Change). IsLater one.0 (held_since cs request.key)) ran.told) (sym seats.is)
        (subst (λ (at : Stamp). AllByRecursion (λ (one : Stamp × Change). IsLater one.0 at) ran.told) (sym old_since)
        (all-weaker (IsWithin (Some (pending_hot old)) (Some (pending_hot new))) (λ stamp. IsLater stamp old.stamp) (λ stamp is. is.0) ran.told within));
    up_to =
        subst (λ (cs : List Content). AllByRecursion (λ (one : Stamp × Change). IsNotAfter one.0 (held_since cs request.key)) ran.told) (sym then_is)
        (subst (λ (at : Stamp). AllByRecursion (λ (one : Stamp × Change). IsNotAfter one.0 at) ran.told) (sym new_since)
        (all-weaker (IsWithin (Some (pending_hot old)) (Some (pending_hot new))) (λ stamp. IsNotAfter stamp new.stamp) (λ stamp is. not_after stamp new.stamp is.1) ran.told within));
    rises = λ key.
        subst (λ (cs : List Content). IsNotAfter (held_since cs key) (held_since (set contents (suc k) found.after) key)) (sym seats.is)
        (subst (λ (cs : List Content). IsNotAfter (held_since (cold seats.shard ∷ places) key) (held_since cs key)) (sym then_is) (rises_there key));
  }
