use Rattle.std.proofs.Common.{rules}
use Rattle.std.proofs.lemmas.List.Edits.{map_over_more}
use Rattle.certified_epochs.specs.Turn.{ended_fed}
use Rattle.certified_epochs.proofs.FedLemmas.{ended-all}
use Rattle.certified_epochs.proofs.certifier.end_all.Goals as goal

pub loop-fed-preserved : goal.loop-fed-preserved
loop-fed-preserved c = search (rules, map_over_more ended_fed)

pub returns-clause-ended : goal.returns-clause-ended
returns-clause-ended c = ended-all _ _ _ c.loop-fed-test.false c.loop-fed.invariant
