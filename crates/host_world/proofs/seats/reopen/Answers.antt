use Rattle.std.proofs.Common.{rules}
use Rattle.std.proofs.lemmas.List.Edits.{map_over_more}
use Rattle.host_world.proofs.WorldLemmas.{reopened, reopened-all}
use Rattle.host_world.proofs.seats.reopen.Goals as goal

pub loop-seats-preserved : goal.loop-seats-preserved
loop-seats-preserved c = search (rules, map_over_more reopened)

pub returns : goal.returns
returns c = record { reopened = reopened-all _ _ _ c.loop-seats-test.false c.loop-seats.invariant }
