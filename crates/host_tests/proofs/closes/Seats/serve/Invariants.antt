use Rattle.std.proofs.Common.{◌≡◌, length}
use Rattle.host_shard.specs.Shown.{shown_content}
use Rattle.host_tests.specs.Owned.{IsFit}
use Rattle.host_tests.proofs.closes.Seats.serve.Given as goal

abbrev pub invariant-loop-index : goal.invariant-loop-index
invariant-loop-index g l = record { fit : IsFit (shown_content l.self.cold); four : length l.self.hot ≡ 4 }
