use Rattle.soundness.proofs.WholeLaws.{order_scheduled}
use Rattle.soundness.proofs.laws.even_epochs_are_scheduled.Goals as goal

pub returns : goal.returns
returns c = record { scheduled = order_scheduled }
