use Rattle.host_laws.proofs.RunLaws.{run-history}
use Rattle.host_laws.proofs.laws.a_run_is_the_history.Goals as goal

pub returns : goal.returns
returns c = record { history = run-history }
