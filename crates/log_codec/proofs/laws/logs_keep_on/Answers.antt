use Rattle.log_codec.proofs.LogLaws.{read_log-more, read_log-whole, read_log-malformed}
use Rattle.log_codec.proofs.laws.logs_keep_on.Goals as goal

pub returns : goal.returns
returns c = record {
  more = read_log-more;
  whole = read_log-whole;
  malformed = read_log-malformed;
}
