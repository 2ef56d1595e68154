use Rattle.std.proofs.Common.{◌≡◌, ℕ, ◌+◌, ◌<◌}
use Rattle.host_epochs.specs.Table.{table, terms}
use Rattle.host_epochs.specs.Calls.{HasReached}
use Rattle.host_epochs.specs.Hands.{entered, left, worker_of}
use Rattle.host_epochs.specs.Terms.{first_epoch, owner}
use Rattle.table_tests.specs.declared.round_workers.RoundEnd.TheVariants.{Going}
use Rattle.table_tests.specs.Rounds.{GoesOn, Works}
use Rattle.table_tests.proofs.round_workers.RoundWorker.scan_all.Given as goal

abbrev pub invariant-loop-place : goal.invariant-loop-place
invariant-loop-place g l = record {
  goes : GoesOn (terms g.D.Digests.functions l.epochs) (table l.epochs) l.initial.self l.self;
  going : l.self.end ≡ Going;
  all : (q : ℕ) → q < l.place → owner (terms g.D.Digests.functions l.epochs) q ≡ worker_of l.self.hand
      → HasReached (left l.self.hand) q (first_epoch (terms g.D.Digests.functions l.epochs) + entered l.self.hand);
}
