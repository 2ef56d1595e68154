use Rattle.verifier_run.proofs.CourseLemmas.{fed-joined, fed-weight}
use Rattle.verifier_run.proofs.laws.pieces_do_not_matter.Goals as goal

pub returns : goal.returns
returns g c = record { joined = fed-joined g.T.Kept.keeps; weight = fed-weight g.T.Kept.keeps }
