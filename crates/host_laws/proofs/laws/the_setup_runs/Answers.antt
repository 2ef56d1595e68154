use Rattle.host_laws.proofs.SetUpLaws.{setup_runs}
use Rattle.host_laws.proofs.laws.the_setup_runs.Goals as goal

pub returns : goal.returns
returns c = record { runs = setup_runs }
