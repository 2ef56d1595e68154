-- A request that is served at a shard: its access is done where the key's value is held.
use Rattle.std.proofs.Common.{◌≡◌, ℕ, ◌^◌, ◌<◌, Bool, true, List, [], ◌∷◌, get_or, set, Option, Some, None, sym, ◌∙◌, ap, subst}
use Rattle.std.specs.List.{AllByRecursion}
use Rattle.tree_keys.specs.Path.{key_bits}
use Rattle.lamport_clocks.specs.declared.stamp.Stamp.{Stamp}
use Rattle.lamport_clocks.specs.Stamp.{IsLater}
use Rattle.lamport_clocks.specs.Reading.{Reading}
use Rattle.lamport_clocks.specs.Clock.{is_open}
use Rattle.record_text.specs.declared.request.Request.{Request}
use Rattle.record_text.specs.Longest.{longest_of}
use Rattle.record_text.specs.Tree.{wide_of}
use Rattle.log_codec.specs.declared.command.Command.{Command}
use Rattle.verifier_commands.specs.Change.{Change}
use Rattle.soundness.specs.StateHistory.{rules_under}
use Rattle.host_shard.specs.declared.content.HotRecord.{HotRecord}
use Rattle.host_shard.specs.Shard.{Shard, wide_in, key_path_in, pending_shard}
use Rattle.host_shard.specs.Content.{Content, cold, vacant, pending}
use Rattle.host_shard.specs.Mirrors.{IsKeyOf}
use Rattle.host_plan.specs.Plan.{Owns, AreLinks, value_found}
use Rattle.host_core.specs.Host.{Done, scheme, resting}
use Rattle.host_core.specs.Deeds.{IsOpenElement}
use Rattle.host_core.specs.Clear.{IsNotAfter}
use Rattle.host_laws.specs.Running.{run}
use Rattle.host_laws.specs.Served.{IsWithin, PlanRuns, access_for, waiting}
use Rattle.host_laws.specs.Mirroring.{IsCold}
use Rattle.protection_moves.specs.Stage.{hot_records, hot_paths}
use Rattle.move_laws.proofs.PlaceLaws.{HasNone}
use Rattle.host_holds.specs.Holding.{hot_record_of, stamp_or, held_value, held_since, stored_after}
use Rattle.host_holds.proofs.HeldLaws.{shard_served}
use Rattle.host_holds.proofs.HotLaws.{none_hot, hot-none}
use Rattle.shipped_host.specs.Planned.{IsPlanned}
use Rattle.shipped_host.specs.Seated.{SeatsMirror}
use Rattle.shipped_host.proofs.SeatLaws.{stage_at, stage_mirrors}
use Rattle.host_fits.proofs.Keeping.{Setting, ranged}
use Rattle.host_fits.proofs.PlaceLemmas.{shard_tree}
use Rattle.host_fits.proofs.ClearLemmas.{not_after, renewing-rises}
use Rattle.host_fits.proofs.ServeLemmas.{Serves, asked_so, there, small, takes_in}
use Rattle.host_fits.proofs.FitLemmas.{all-weaker, shard_plan, shard_left, shard_behind, shard_did}
use Rattle.host_fits.proofs.AccessLemmas.{own_shard, OneAccess, since_cold, same_since}

module _ (setting : Setting) (worker : ℕ) (clock : Reading) (s : ℕ) (contents : List Content) (request : Request) (found : Done Content)
    (serves : Serves setting worker clock s 0 contents request found) where
  abbrev seats : SeatsMirror (longest_of setting.settings.header) setting.functions.digest contents
  seats = serves.ready.mirrored.mirrors

  abbrev shard : Shard
  shard = seats.shard

  abbrev now : Shard
  now = shard_left setting worker clock s contents request found serves

  abbrev plan : IsPlanned setting.settings.absent setting.functions.digest worker clock (get_or contents 0 vacant) request found
  plan = shard_plan setting worker clock s contents request found serves

  abbrev ran : PlanRuns (rules_under (scheme (ranged setting)) setting.settings.header worker) (resting (ranged setting) worker clock) (cold shard) (cold now) request plan.plan found.clock
  ran = shard_did setting worker clock s contents request found serves

  tree : wide_in shard ≡ wide_of setting.settings.header
  tree = shard_tree setting s contents serves.ready.mirrored seats

  owned : IsKeyOf shard (key_path_in shard request.key)
  owned = (subst (λ (cs : List Content). Owns (longest_of setting.settings.header) (get_or cs 0 vacant) request.key) seats.is
      (there setting worker clock s 0 contents request found serves).own).1

  cold_key : HasNone request.key (hot_records seats.places)
  cold_key = none_hot shard request.key seats.places seats.in_range
      (subst (λ (cs : List Content). IsCold (hot_paths seats.places) (get_or cs 0 vacant) request.key) seats.is
      (there setting worker clock s 0 contents request found serves).cold_there)

  not_hot : hot_record_of request.key seats.places ≡ None
  not_hot = hot-none request.key seats.places cold_key

  in_tree : (key : ℕ) → key < 2 ^ key_bits (wide_of setting.settings.header) → key < 2 ^ key_bits (wide_in shard)
  in_tree key in_range = subst (λ (wide : Bool). key < 2 ^ key_bits wide) (sym tree) in_range

  opens_now : is_open clock shard.stamp.epoch ≡ true
  opens_now = (subst (λ (cs : List Content). AllByRecursion (IsOpenElement (ranged setting) clock) (waiting (pending (get_or cs 0 vacant)))) seats.is
      (takes_in setting worker clock s 0 contents request found serves)).0.1

  rises_there : (key : ℕ) → IsNotAfter (held_since (cold shard ∷ seats.places) key) (held_since (cold now ∷ seats.places) key)
  rises_there key = go (hot_record_of key seats.places)
    where
      go : (o : Option HotRecord) → IsNotAfter (stamp_or o shard.stamp) (stamp_or o now.stamp)
      go None = renewing-rises clock shard.stamp opens_now
      go (Some record') = same_since record'.stamp

  pub shard_access : OneAccess setting worker (resting (ranged setting) worker clock) (resting (ranged setting) worker found.clock) found.commands ran.told s
      contents (set contents 0 found.after) request plan.plan.answer
  shard_access = record {
    runs_so = ap (λ (commands : List Command). run (rules_under (scheme (ranged setting)) setting.settings.header worker) (resting (ranged setting) worker clock) commands) plan.logged ∙ ran.runs;
    access = ran.access ∙ ap (λ (wide : Bool). access_for wide request plan.plan.answer ∷ []) tree;
    in_range = small setting worker clock s 0 contents request found serves;
    asked = asked_so request (value_found setting.settings.absent (get_or contents 0 vacant) plan.is.links request) plan.plan.answer plan.is.answer;
    own = own_shard setting s contents request.key serves.ready.mirrored seats owned;
    held = λ key in_range.
        subst (λ (cs : List Content). held_value cs key ≡ stored_after request (held_value contents) key) (sym (shard_behind setting worker clock s contents request found serves))
        (subst (λ (cs : List Content). held_value (cold now ∷ seats.places) key ≡ stored_after request (held_value cs) key) (sym seats.is)
        (shard_served (longest_of setting.settings.header) setting.functions.digest worker (stage_at shard seats.places clock)
        (stage_mirrors (longest_of setting.settings.header) setting.functions.digest contents clock seats)
        setting.settings.absent request clock plan.is.links (in_tree request.key (small setting worker clock s 0 contents request found serves))
        (subst (λ (cs : List Content). IsCold (hot_paths seats.places) (get_or cs 0 vacant) request.key) seats.is
        (there setting worker clock s 0 contents request found serves).cold_there)
        (subst (λ (cs : List Content). AreLinks (get_or cs 0 vacant) request.key plan.is.links) seats.is plan.is.way) key (in_tree key in_range)));
    behind =
        subst (λ (cs : List Content). AllByRecursion (λ (one : Stamp × Change). IsLater one.0 (held_since cs request.key)) ran.told) (sym seats.is)
        (subst (λ (at : Stamp). AllByRecursion (λ (one : Stamp × Change). IsLater one.0 at) ran.told) (sym (since_cold request.key shard seats.places not_hot))
        (all-weaker (IsWithin (Some (pending_shard shard)) (Some (pending_shard now))) (λ stamp. IsLater stamp shard.stamp) (λ stamp is. is.0) ran.told ran.within));
    up_to =
        subst (λ (cs : List Content). AllByRecursion (λ (one : Stamp × Change). IsNotAfter one.0 (held_since cs request.key)) ran.told)
        (sym (shard_behind setting worker clock s contents request found serves))
        (subst (λ (at : Stamp). AllByRecursion (λ (one : Stamp × Change). IsNotAfter one.0 at) ran.told) (sym (since_cold request.key now seats.places not_hot))
        (all-weaker (IsWithin (Some (pending_shard shard)) (Some (pending_shard now))) (λ stamp. IsNotAfter stamp now.stamp) (λ stamp is. not_after stamp now.stamp is.1) ran.told ran.within));
    rises = λ key.
        subst (λ (cs : List Content). IsNotAfter (held_since cs key) (held_since (set contents 0 found.after) key)) (sym seats.is)
        (subst (λ (cs : List Content). IsNotAfter (held_since (cold shard ∷ seats.places) key) (held_since cs key))
        (sym (shard_behind setting worker clock s contents request found serves)) (rises_there key));
  }
