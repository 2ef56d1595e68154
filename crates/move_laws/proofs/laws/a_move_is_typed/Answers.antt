use Rattle.tree_keys.specs.Path.{tree_of}
use Rattle.host_laws.proofs.DepthLaws.{own_tree}
use Rattle.move_laws.proofs.MoveLaws.{move_typed}
use Rattle.move_laws.proofs.laws.a_move_is_typed.Goals as goal

pub returns : goal.returns
returns c = record {
  typed = λ longest digest worker threshold old new commands digests some mirrors is.
      move_typed (tree_of old.shard.frontier) longest digest worker threshold old new commands
      (own_tree old.shard.frontier mirrors.shard.fits.below_root) digests some mirrors is;
}
