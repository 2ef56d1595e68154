use Rattle.merkle_records.specs.Scheme.{scheme_of}
use Rattle.soundness.proofs.LogHistoryLemmas.{log_timely, log_history, logs_timely, logs_histories}
use Rattle.soundness.proofs.RisingLaws.{log_own}
use Rattle.soundness.proofs.laws.logs_have_histories.Goals as goal

pub returns : goal.returns
returns c = record {
  own = λ functions header. log_own (scheme_of functions header) header;
  timely = λ functions header. log_timely (scheme_of functions header) header;
  history = λ functions header. log_history (scheme_of functions header) header;
  all_timely = λ functions header. logs_timely (scheme_of functions header) header 0;
  all_histories = λ functions header. logs_histories (scheme_of functions header) header 0;
}
