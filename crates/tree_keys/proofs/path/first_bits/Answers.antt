use Rattle.tree_keys.proofs.BitsLaws.{first_below}
use Rattle.tree_keys.proofs.path.first_bits.Goals as goal

pub returns-else-front-eq0-clause-below : goal.returns-else-front-eq0-clause-below
returns-else-front-eq0-clause-below c = first_below c.args.bits c.args.len c.args.front c.requires.within c.requires.small
