use Rattle.log_codec.proofs.LogLaws.{AreBytes-from_all, read_is_log, log_is_read, read_log-text}
use Rattle.log_codec.proofs.laws.logs_are_read_as_spelled.Goals as goal

pub returns : goal.returns
returns c = record {
  spelled = λ format bytes fits. read_is_log format bytes (AreBytes-from_all bytes fits);
  read = log_is_read;
  written = read_log-text;
}
