use Rattle.std.proofs.Common.{◌+◌, refl, ◌∙◌, arith}
use Rattle.path_index.proofs.IndexLemmas.{turned_up, turned_elsewhere, seen-at}
use Rattle.path_index.proofs.index.turn_block_up.Goals as goal

pub returns-clause-moved : goal.returns-clause-moved
returns-clause-moved c = λ i low high.
    c.write.ensures.others (i + 1) (omega (arith, low)) ∙ seen-at _ _ _ (i + 1) i (turned_up _ c.args.block _ i c.requires.within refl low high)

pub returns-clause-others : goal.returns-clause-others
returns-clause-others c = λ i apart.
    c.write.ensures.others i (omega (arith, apart)) ∙ seen-at _ _ _ i i (turned_elsewhere _ c.args.block _ i apart)
