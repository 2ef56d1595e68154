use Rattle.verifier_run.proofs.TraceLemmas.{log_comes_to_its_course}
use Rattle.verifier_run.proofs.laws.logs_come_to_their_course.Goals as goal

pub returns : goal.returns
returns g c = record { course = log_comes_to_its_course g.T.Kept.keeps }
