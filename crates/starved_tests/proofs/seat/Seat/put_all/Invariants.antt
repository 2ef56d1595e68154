use Rattle.host_shard.specs.Shown.{shown_content}
use Rattle.starved_tests.specs.Fit.{IsFit}
use Rattle.starved_tests.proofs.seat.Seat.put_all.Given as goal

abbrev pub invariant-loop-put : goal.invariant-loop-put
invariant-loop-put l = IsFit (shown_content l.self.cold)
