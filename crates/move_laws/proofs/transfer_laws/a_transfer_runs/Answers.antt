use Rattle.move_laws.proofs.TransferLaws.{transfer_runs}
use Rattle.move_laws.proofs.transfer_laws.a_transfer_runs.Goals as goal

pub returns : goal.returns
returns c = record { runs = transfer_runs }
