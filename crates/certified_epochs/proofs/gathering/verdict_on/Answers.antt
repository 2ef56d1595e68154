use Rattle.std.proofs.Common.{◌∙◌}
use Rattle.certified_epochs.proofs.TurnLemmas.{gathered-verdict}
use Rattle.certified_epochs.proofs.gathering.verdict_on.Goals as goal

pub returns : goal.returns
returns c = record {
  verdict =
      gathered-verdict c.args.runs.now c.args.epoch c.deref.result.now c.verdict.result (c.deref.ensures.value ∙ c.in_ok-gather.ensures.parts)
      c.verdict.ensures.verdict;
}
