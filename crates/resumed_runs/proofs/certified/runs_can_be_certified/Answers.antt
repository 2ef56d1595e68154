use Rattle.resumed_runs.proofs.BaseLaws.{can-read, can-frames, can-turn, can-alike}
use Rattle.resumed_runs.proofs.JudgedLaws.{can-judge, can-epochs, can-in_order}
use Rattle.resumed_runs.proofs.certified.runs_can_be_certified.Goals as goal

pub returns : goal.returns
returns c = record {
  read = can-read;
  frames = λ epoch number runs scheme frames can. can-frames epoch scheme number runs frames can;
  turned = can-turn;
  alike = can-alike;
  judged = can-judge;
  epochs = can-epochs;
  in_order = can-in_order;
}
