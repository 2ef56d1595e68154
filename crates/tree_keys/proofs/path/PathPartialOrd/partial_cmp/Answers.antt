use Rattle.std.proofs.Common.{arith}
use Rattle.std.proofs.lemmas.Grind.{common_steps}
use Rattle.tree_keys.proofs.BitsLaws.{path_view}
use Rattle.tree_keys.proofs.path.PathPartialOrd.partial_cmp.Goals as goal

pub returns : goal.returns
returns c = grind (arith, common_steps, path_view)
