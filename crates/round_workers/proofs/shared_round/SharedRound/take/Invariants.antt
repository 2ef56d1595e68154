use Rattle.host_epochs.specs.Hands.{IsFree}
use Rattle.host_epochs.specs.Table.{table}
use Rattle.round_workers.specs.Placed.{HasWaited}
use Rattle.round_workers.proofs.shared_round.SharedRound.take.Given as goal

-- the hand is free, and noted nothing more than losses
abbrev pub invariant-loop : goal.invariant-loop
invariant-loop g l = record {
  free : IsFree (table l.self.epochs.now) l.hand;
  waited : HasWaited l.initial.hand l.hand;
}
