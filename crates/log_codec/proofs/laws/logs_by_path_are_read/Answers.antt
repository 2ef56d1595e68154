use Rattle.log_codec.proofs.LogLaws.{log_text-by_path, read_log-path_text}
use Rattle.log_codec.proofs.laws.logs_by_path_are_read.Goals as goal

pub returns : goal.returns
returns c = record { text = log_text-by_path; read = read_log-path_text }
