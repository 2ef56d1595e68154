use Rattle.move_laws.proofs.TransferLaws.{transfer_mirrors}
use Rattle.move_laws.proofs.transfer_laws.a_transfer_mirrors.Goals as goal

pub returns : goal.returns
returns c = record { mirrors = transfer_mirrors }
