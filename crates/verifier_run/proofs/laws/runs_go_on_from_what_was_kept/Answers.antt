use Rattle.verifier_run.specs.Kept.{keeps_operations}
use Rattle.verifier_run.proofs.KeptRunLaws.{kept-like, opening-under, fed-under}
use Rattle.verifier_run.proofs.laws.runs_go_on_from_what_was_kept.Goals as goal

pub returns : goal.returns
returns c = record {
  like = kept-like c.slots_are_made_again.ensures.again;
  opening = opening-under;
  fed = λ scheme number header run piece under. fed-under keeps_operations scheme number header run piece under;
}
