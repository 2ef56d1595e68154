use Rattle.merkle_records.specs.Scheme.{scheme_of}
use Rattle.soundness.proofs.SlotHistoryLemmas.{slot_log_timely, slot_log_history}
use Rattle.soundness.proofs.laws.slot_logs_have_histories.Goals as goal

pub returns : goal.returns
returns c = record {
  timely = λ functions header. slot_log_timely (scheme_of functions header) header;
  history = λ functions header. slot_log_history (scheme_of functions header) header;
}
