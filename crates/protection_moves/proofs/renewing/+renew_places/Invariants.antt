use Rattle.std.proofs.Common.{length}
use Rattle.protection_moves.proofs.renewing.+renew_places.Given as goal

abbrev pub decreases-renew_places : goal.decreases-renew_places
decreases-renew_places l = length l.records.now
