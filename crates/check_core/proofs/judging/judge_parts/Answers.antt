use Rattle.std.proofs.Common.{◌∙◌}
use Rattle.check_core.proofs.JudgingLemmas.{judge_balanced, judge_unbalanced, judge_missing, judge_all}
use Rattle.check_core.proofs.judging.judge_parts.Goals as goal

pub loop-count-preserved : goal.loop-count-preserved
loop-count-preserved g c =
    judge_balanced _ _ _ _ _ _ _ _ c.loop-count-test.true c.index-parts-count.is
    (c.deref.ensures.value ∙ c.in_ok-gather.ensures.parts) c.verdict.ensures.verdict c.loop-count.invariant c.in-Balanced.is

pub returns-in-Unbalanced : goal.returns-in-Unbalanced
returns-in-Unbalanced g c = record {
  judged = c.stopped.ensures.value ∙ judge_unbalanced _ _ _ _ _ _ _ _ _ _ c.loop-count-test.true c.index-parts-count.is
      (c.deref.ensures.value ∙ c.in_ok-gather.ensures.parts) c.verdict.ensures.verdict c.loop-count.invariant c.in-Unbalanced.is;
}

pub returns-in-Missing : goal.returns-in-Missing
returns-in-Missing g c = record {
  judged = judge_missing _ _ _ _ _ _ _ _ _ c.loop-count-test.true c.index-parts-count.is
      (c.deref.ensures.value ∙ c.in_ok-gather.ensures.parts) c.verdict.ensures.verdict c.loop-count.invariant c.in-Missing.is;
}

pub returns : goal.returns
returns g c = record { judged = judge_all _ _ _ _ _ c.loop-count-test.false c.loop-count.auto.count-end c.loop-count.invariant }
