use Rattle.log_codec.proofs.LogLaws.{read_log-empty, read_log-step, read_log-fault, log_up_to-read}
use Rattle.log_codec.proofs.laws.logs_go_by_commands.Goals as goal

pub returns : goal.returns
returns c = record {
  empty = read_log-empty;
  step = read_log-step;
  fault = read_log-fault;
  count = log_up_to-read;
}
