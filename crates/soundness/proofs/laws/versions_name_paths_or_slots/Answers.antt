use Rattle.soundness.proofs.VersionLaws.{log_events-by_path, log_refusal-by_path, log_events-by_slot, log_refusal-by_slot, histories-by_path}
use Rattle.soundness.proofs.laws.versions_name_paths_or_slots.Goals as goal

pub returns : goal.returns
returns c = record {
  paths = log_events-by_path;
  path_refusal = log_refusal-by_path;
  slots = log_events-by_slot;
  slot_refusal = log_refusal-by_slot;
  path_histories = λ scheme header. histories-by_path scheme header 0;
}
