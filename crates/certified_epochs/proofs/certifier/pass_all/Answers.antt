use Rattle.std.proofs.Common.{rules}
use Rattle.std.proofs.lemmas.List.Edits.{map_over_more}
use Rattle.certified_epochs.specs.Turn.{left_fed}
use Rattle.certified_epochs.proofs.FedLemmas.{changed-length, left-all, fed-left}
use Rattle.certified_epochs.proofs.certifier.pass_all.Goals as goal

pub loop-fed-preserved : goal.loop-fed-preserved
loop-fed-preserved c =
    let len = changed-length (left_fed c.args.epoch) c.args.runs.now c.loop-fed.runs c.loop-fed.fed-index c.loop-fed.invariant in
    search (rules, map_over_more (left_fed c.args.epoch))

pub returns-clause-left : goal.returns-clause-left
returns-clause-left c = left-all _ _ _ _ c.loop-fed-test.false c.loop-fed.invariant

pub returns-clause-fed : goal.returns-clause-fed
returns-clause-fed c = λ fed. fed-left c.args.epoch _ _ _ c.loop-fed-test.false c.loop-fed.invariant fed
