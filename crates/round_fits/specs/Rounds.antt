-- The round of a rolling host, from its setup on, as its workers and its places tell it, and what it was.
use Rattle.std.specs.Prelude.{◌≡◌, ℕ, suc, ◌≤◌, ◌==◌, true, false, List, get_or}
use Rattle.std.specs.List.{AllByRecursion}
use Rattle.lamport_clocks.specs.Clock.{last_epoch}
use Rattle.host_core.specs.Host.{Host}
use Rattle.host_core.specs.World.{World, shard_at, epoch_of, set_up}
use Rattle.host_core.specs.WorldEvent.{run_events}
use Rattle.host_order.specs.Close.{IsToClose}
use Rattle.host_shard.specs.Content.{Content, vacant}
use Rattle.round_order.specs.Turn.{Turn}
use Rattle.round_order.specs.Told.{AreTold, HasOneOrder, IsWholeRound, EndsWhole, whole_events, RoundStop, IsStopTold, AreOfOthers, EndsStopped}

module _ {C R : Type 0} (host : Host C R) (top : ℕ) (finals : ℕ → ℕ) (lists : List (List (Turn C R))) (pasts : List (List (List (Turn C R)))) where
  -- it is told from the setup on, up to an epoch that is not past that of the last phase, nor past the last that there is
  pub record IsToldFromSetup : Type 0 where
    pub told : AreTold host true (set_up host) top finals lists pasts
    pub from : host.header.first ≤ top
    pub within : top ≤ epoch_of host (set_up host)
    pub last : top ≤ last_epoch

  -- It was one list of enabled events. Where it is whole, and there is an epoch to come, its close may begin behind it; and where
  -- clocks ended, the stops stand behind the turns.
  pub record IsOneRound : Type 0 where
    pub order : HasOneOrder host (set_up host) host.header.first top finals lists pasts
    pub whole : IsWholeRound host (set_up host) top finals lists pasts → (top == last_epoch) ≡ false
        → EndsWhole host (set_up host) host.header.first top finals lists pasts
        × IsToClose host (run_events host (set_up host) (whole_events (set_up host) finals top host.header.first lists))
    pub stopped : (list : List RoundStop) → AllByRecursion (IsStopTold host (set_up host) finals lists) list → AreOfOthers list
        → EndsStopped host (set_up host) host.header.first top finals lists pasts list

-- the seats of a shard but the first are vacant
abbrev pub AreOthersVacant : List Content → Type 0
AreOthersVacant contents = (seat : ℕ) → get_or contents (suc seat) vacant ≡ vacant

-- so are those of every shard: no record is hot
abbrev pub HasNothingHot : World Content → Type 0
HasNothingHot world = (s : ℕ) → AreOthersVacant (shard_at world s).contents
