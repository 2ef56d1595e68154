use Rattle.path_index.proofs.IndexLemmas.{written-here, written-elsewhere}
use Rattle.path_index.proofs.index.write.Goals as goal

pub returns-clause-here : goal.returns-clause-here
returns-clause-here c = written-here _ _ _ _ _ c.lies.ensures.value c.requires.blocks c.requires.within

pub returns-clause-others : goal.returns-clause-others
returns-clause-others c = λ i apart. written-elsewhere _ _ _ _ _ i c.lies.ensures.value apart
