use Rattle.soundness.proofs.WholeLaws.{histories_part}
use Rattle.soundness.proofs.laws.merged_order_keeps_each_log.Goals as goal

pub returns : goal.returns
returns c = record { part = histories_part }
