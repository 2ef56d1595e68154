-- A move as a machine sees it that knows the events of its commands.
use Rattle.std.specs.Prelude.{◌≡◌, ℕ, Bool, List, [], None}
use Rattle.std.specs.List.{AllByRecursion}
use Rattle.tree_keys.specs.Path.{IsBelow}
use Rattle.lamport_clocks.specs.Stamp.{IsLater}
use Rattle.log_codec.specs.declared.command.Command.{Command}
use Rattle.verifier_cache.specs.Cache.{Held}
use Rattle.verifier_commands.specs.Transition.{Rules}
use Rattle.soundness.specs.History.{Event}
use Rattle.soundness.specs.StateHistory.{events_from}
use Rattle.soundness.specs.PathHistory.{path_machinery_under}
use Rattle.soundness.specs.Certified.{operations_in, sealed_count}
use Rattle.soundness.specs.Timed.{added_among, evicted_among}
use Rattle.soundness.specs.Clash.{LastEvicted, first_clash}
use Rattle.soundness.specs.World.{changes_in, last_evicted_behind}
use Rattle.host_core.specs.Accepted.{state_from, IsAccepted}
use Rattle.host_core.specs.Deeds.{AreSame}
use Rattle.host_core.specs.Clear.{IsKept, IsNotAfter, touching}
use Rattle.protection_moves.specs.Stage.{Stage}
use Rattle.move_laws.specs.Moved.{waiting_in, at_stage}

module _ (rules : Rules) (cache : Held) (old new : Stage) (commands : List Command) where
  -- what the verifier of this number does from its log's index on
  abbrev pub events : ℕ → ℕ → List Event
  events number index = events_from (path_machinery_under rules) number index (at_stage cache old) commands

  -- The commands are accepted and the verifier is at rest behind them. They add what waited in the old stage, evict what
  -- waits in the new one, do no operation and seal no epoch.
  pub record IsMoveDeed : Type 0 where
    pub accepted : IsAccepted (path_machinery_under rules) (at_stage cache old) commands
    pub rests : state_from (path_machinery_under rules) (at_stage cache old) commands ≡ at_stage cache new
    pub added : (number index : ℕ) → AreSame (added_among (events number index)) (waiting_in old)
    pub evicted : (number index : ℕ) → AreSame (evicted_among (events number index)) (waiting_in new)
    pub unanswered : (number index : ℕ) → operations_in (events number index) ≡ []
    pub unsealed : (number index : ℕ) → sealed_count (events number index) ≡ 0

  -- Each record below the frontier comes in with the value that is kept of it, and what is kept then is what it left with;
  -- no other record is touched. All that is done after the frontier's old stamp, up to its new one.
  pub record IsClearMove : Type 0 where
    pub apart : (number index : ℕ) (path : List Bool) → (IsBelow old.shard.frontier path → ⊥) → touching path (events number index) ≡ []
    pub clear : (number index : ℕ) (path : List Bool) (last : LastEvicted) → IsKept last path (old.shard.records path)
        → first_clash last (changes_in (touching path (events number index))) ≡ None
    pub keeps : (number index : ℕ) (path : List Bool) (last : LastEvicted) → IsKept last path (old.shard.records path)
        → IsKept (last_evicted_behind last (changes_in (touching path (events number index)))) path (new.shard.records path)
    pub behind : (number index : ℕ) (path : List Bool) → AllByRecursion (λ event. IsLater event.at old.shard.stamp) (touching path (events number index))
    pub up_to : (number index : ℕ) (path : List Bool) → AllByRecursion (λ event. IsNotAfter event.at new.shard.stamp) (touching path (events number index))
    pub rises : IsNotAfter old.shard.stamp new.shard.stamp
