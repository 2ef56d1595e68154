use Rattle.std.proofs.Common.{length}
use Rattle.protection_moves.proofs.renewing.+log_renewals.Given as goal

abbrev pub decreases-log_renewals : goal.decreases-log_renewals
decreases-log_renewals l = length l.records.now
