use Rattle.check_core.proofs.JudgingLemmas.{gather_more, gather_all}
use Rattle.check_core.proofs.judging.gather.Goals as goal

pub loop-run-preserved : goal.loop-run-preserved
loop-run-preserved g c =
    gather_more _ _ _ c.run-item.result _ _ _ c.loop-run-test.true c.run-item.is c.in_ok-append_part.ensures.items c.loop-run.invariant

pub returns : goal.returns
returns g c = record { parts = gather_all _ _ _ _ _ c.loop-run-test.false c.loop-run.invariant }
