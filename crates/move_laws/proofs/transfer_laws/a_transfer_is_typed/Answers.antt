use Rattle.host_shard.specs.Shard.{wide_in}
use Rattle.host_laws.proofs.DepthLaws.{own_tree}
use Rattle.move_laws.proofs.TransferLaws.{transfer_typed}
use Rattle.move_laws.proofs.transfer_laws.a_transfer_is_typed.Goals as goal

pub returns : goal.returns
returns c = record {
  typed = λ longest digest stage transfer links mirrors fit chain.
      transfer_typed (wide_in stage.shard) longest digest stage transfer links (own_tree stage.shard.frontier mirrors.shard.fits.below_root) mirrors fit chain;
}
