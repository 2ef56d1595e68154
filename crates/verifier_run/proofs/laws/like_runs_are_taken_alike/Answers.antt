use Rattle.verifier_run.proofs.LikenessLaws.{left-like}
use Rattle.verifier_run.proofs.laws.like_runs_are_taken_alike.Goals as goal

pub returns : goal.returns
returns c = record { left = λ run other through like. left-like through run other like }
