-- A move that runs, as its events.
use Rattle.std.proofs.Common.{◌≡◌, ℕ, Bool, true, List, [], ◌∷◌, length, Some, sym, ◌∙◌, ap, subst, inl, inr, arith}
use Rattle.std.specs.List.{AllByRecursion}
use Rattle.lamport_clocks.specs.declared.stamp.Stamp.{Stamp}
use Rattle.lamport_clocks.specs.Stamp.{IsLater}
use Rattle.log_codec.specs.declared.command.Command.{Command}
use Rattle.verifier_cache.specs.Cache.{Held}
use Rattle.verifier_commands.specs.Change.{Change}
use Rattle.verifier_commands.specs.Transition.{Rules}
use Rattle.soundness.specs.History.{Event}
use Rattle.soundness.specs.Certified.{operations_in, sealed_count}
use Rattle.soundness.specs.Timed.{added_among, evicted_among}
use Rattle.soundness.specs.Permutation.{count_of}
use Rattle.soundness.specs.Clash.{LastEvicted, first_clash}
use Rattle.soundness.specs.World.{changes_in, last_evicted_behind}
use Rattle.host_core.specs.Clear.{IsKept, IsNotAfter, touching}
use Rattle.host_shard.specs.Shard.{pending_shard}
use Rattle.host_laws.specs.Running.{Told, as_events, IsHistory}
use Rattle.host_laws.specs.Carried.{carried, carries}
use Rattle.host_laws.specs.Served.{IsFrom, IsWithin}
use Rattle.host_laws.proofs.RunLaws.{run-history}
use Rattle.protection_moves.specs.Stage.{Stage}
use Rattle.move_laws.specs.Moved.{MoveRuns, at_stage}
use Rattle.move_laws.specs.Deed.{events, IsMoveDeed, IsClearMove}
use Rattle.move_laws.proofs.EventLemmas.{run-state, added-events, evicted-events, sealed-events, operations-events, touching-changes, touching-all, untouched, IsClean, carried_clean}

-- a later stamp is not before
later_after : (s t : Stamp) → IsLater t s → IsNotAfter s t
later_after s t (inl later) = inl later
later_after s t (inr later) = inr (omega arith, omega arith)

from_after : (s t : Stamp) → IsFrom t s → IsNotAfter s t
from_after s t (inl later) = later_after s t later
from_after s t (inr same) = inr (ap (λ (x : Stamp). x.epoch) (sym same), omega (arith, ap (λ (x : Stamp). x.counter) same))

module _ (rules : Rules) (cache : Held) (old new : Stage) (commands : List Command) (is : MoveRuns rules cache old new commands) where
  history : IsHistory rules (at_stage cache old) commands is.told
  history = run-history rules (at_stage cache old) (at_stage cache new) commands is.told is.runs

  -- its events are what is told
  are_told : (number index : ℕ) → events rules cache old new commands number index ≡ as_events number index is.told
  are_told number index = history.events number index

  pub move_deed : IsMoveDeed rules cache old new commands
  move_deed = record {
    accepted = history.accepted;
    rests = run-state rules (at_stage cache old) (at_stage cache new) commands is.told is.runs;
    added = λ number index x.
        ap (count_of x) (ap added_among (are_told number index) ∙ added-events number index is.told) ∙ is.added x;
    evicted = λ number index x.
        ap (count_of x) (ap evicted_among (are_told number index) ∙ evicted-events number index is.told) ∙ is.evicted x;
    unanswered = λ number index. ap operations_in (are_told number index) ∙ operations-events number index is.told is.no_access;
    unsealed = λ number index.
        ap sealed_count (are_told number index) ∙ ap (λ (epochs : List ℕ). length epochs) (sealed-events number index is.told ∙ is.unsealed);
  }

  -- what touches a path is what carries its record
  touch : (number index : ℕ) (path : List Bool) → changes_in (touching path (events rules cache old new commands number index)) ≡ carried path is.told
  touch number index path =
      ap (λ (all : List Event). changes_in (touching path all)) (are_told number index) ∙ touching-changes path number index is.told

  clean : (path : List Bool) (last : LastEvicted) → IsKept last path (old.shard.records path)
      → IsClean last path (new.shard.records path) (carried path is.told)
  clean path last kept =
      carried_clean path (old.shard.records path) (new.shard.records path) (carried path is.told) last (is.kept path) kept

  -- a fact of the stamps of what carries a path's record, of the events that touch it
  of_touching : (P : Stamp → Type 0) → ((at : Stamp) → IsWithin (Some (pending_shard old.shard)) (Some (pending_shard new.shard)) at → P at)
      → (number index : ℕ) (path : List Bool)
      → AllByRecursion (λ (event : Event). P event.at) (touching path (events rules cache old new commands number index))
  of_touching P step number index path =
      subst (λ (all : List Event). AllByRecursion (λ (event : Event). P event.at) (touching path all)) (sym (are_told number index))
      (touching-all P path number index is.told (each is.told (is.within path)))
    where
      each : (told : Told)
          → AllByRecursion (λ (one : Stamp × Change). carries path one.1 ≡ true → IsWithin (Some (pending_shard old.shard)) (Some (pending_shard new.shard)) one.0) told
          → AllByRecursion (λ (one : Stamp × Change). carries path one.1 ≡ true → P one.0) told
      each [] all = tt
      each (one ∷ told) all = (λ carrying. step one.0 (all.0 carrying), each told all.1)

  pub clear_move : IsClearMove rules cache old new commands
  clear_move = record {
    apart = λ number index path not_below.
        ap (λ (all : List Event). touching path all) (are_told number index) ∙ untouched path number index is.told (is.own path not_below);
    clear = λ number index path last kept.
        ap (λ (changes : List Change). first_clash last changes) (touch number index path) ∙ (clean path last kept).clear;
    keeps = λ number index path last kept.
        subst (λ (changes : List Change). IsKept (last_evicted_behind last changes) path (new.shard.records path)) (sym (touch number index path)) (clean path last kept).keeps;
    behind = of_touching (λ at. IsLater at old.shard.stamp) (λ at within. within.0);
    up_to = of_touching (λ at. IsNotAfter at new.shard.stamp) (λ at within. from_after at new.shard.stamp within.1);
    rises = later_after old.shard.stamp new.shard.stamp is.rises;
  }
