use Rattle.verifier_run.proofs.HandOutLemmas.{fed_goes_on, ended_goes_on}
use Rattle.verifier_run.proofs.laws.runs_go_on.Goals as goal

pub returns : goal.returns
returns g c = record { fed = fed_goes_on g.T.Kept.keeps g.T.Kept.epoch g.met.T.Kept.of_epoch; ended = ended_goes_on g.T.Kept.epoch }
