use Rattle.host_core.proofs.EventLaws.{enabled-append, run-append}
use Rattle.host_core.proofs.laws.events_go_on.Goals as goal

pub returns : goal.returns
returns g c = record { enabled = enabled-append; run = run-append }
