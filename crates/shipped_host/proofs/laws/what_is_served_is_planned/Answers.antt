use Rattle.shipped_host.proofs.PlannedLaws.{served_is_planned}
use Rattle.shipped_host.proofs.laws.what_is_served_is_planned.Goals as goal

pub returns : goal.returns
returns c = record { planned = served_is_planned }
