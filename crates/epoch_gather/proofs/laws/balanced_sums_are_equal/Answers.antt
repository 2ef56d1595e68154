use Rattle.epoch_gather.proofs.VerdictLaws.{verdict_of-Balanced}
use Rattle.epoch_gather.proofs.laws.balanced_sums_are_equal.Goals as goal

pub returns : goal.returns
returns c = record { balanced = verdict_of-Balanced }
