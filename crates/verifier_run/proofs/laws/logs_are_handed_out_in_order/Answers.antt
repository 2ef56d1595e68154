use Rattle.verifier_commands.specs.Machine.{opening_machine}
use Rattle.verifier_run.proofs.HandOutLemmas.{fed_out, log_out, clock_of_fed}
use Rattle.verifier_run.proofs.laws.logs_are_handed_out_in_order.Goals as goal

pub returns : goal.returns
returns g c = record {
  fed = λ scheme number header bytes. fed_out g.T.Kept.keeps g.T.Kept.epoch g.met.T.Kept.of_epoch scheme (opening_machine number header) bytes;
  log = λ scheme number header log. log_out g.T.Kept.keeps g.T.Kept.epoch g.met.T.Kept.of_epoch scheme (opening_machine number header) log;
  clock = λ scheme number header bytes some. clock_of_fed g.T.Kept.keeps g.T.Kept.epoch g.met.T.Kept.of_epoch scheme number header bytes some;
}
