use Rattle.host_laws.proofs.RequestLaws.{plan_runs}
use Rattle.host_laws.proofs.laws.a_plan_runs.Goals as goal

pub returns : goal.returns
returns c = record { runs = plan_runs }
