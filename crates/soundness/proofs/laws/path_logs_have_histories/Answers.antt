use Rattle.merkle_records.specs.Scheme.{scheme_of}
use Rattle.soundness.proofs.PathHistoryLaws.{path_log_timely, path_log_history, path_logs_histories}
use Rattle.soundness.proofs.laws.path_logs_have_histories.Goals as goal

pub returns : goal.returns
returns c = record {
  timely = λ functions header. path_log_timely (scheme_of functions header) header;
  history = λ functions header. path_log_history (scheme_of functions header) header;
  all_histories = λ functions header. path_logs_histories (scheme_of functions header) header 0;
}
