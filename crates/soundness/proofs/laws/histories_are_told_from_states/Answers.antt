use Rattle.soundness.proofs.StateHistoryLemmas.{history-from_state}
use Rattle.soundness.proofs.laws.histories_are_told_from_states.Goals as goal

pub returns : goal.returns
returns c = record { told = history-from_state }
