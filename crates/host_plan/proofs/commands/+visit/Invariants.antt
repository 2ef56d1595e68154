use Rattle.std.proofs.Common.{length}
use Rattle.host_plan.proofs.commands.+visit.Given as goal

abbrev pub decreases-visit : goal.decreases-visit
decreases-visit l = length l.links.now
