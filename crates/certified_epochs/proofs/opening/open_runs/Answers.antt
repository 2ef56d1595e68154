use Rattle.std.proofs.Common.{◌+◌, ◌∙◌, ℕ, ap, refl}
use Rattle.certified_epochs.proofs.OpeningLemmas.{runs_one_more, fed_one_more}
use Rattle.certified_epochs.proofs.opening.open_runs.Goals as goal

pub loop-number-preserved : goal.loop-number-preserved
loop-number-preserved c = record {
  len = c.in_ok-push.ensures.len ∙ ap (λ (n : ℕ). n + 1) c.loop-number.invariant.len;
  fed = fed_one_more c.loop-number.runs.items c.push.new.self.items c.in_ok-new.field-0 c.in_ok-push.ensures.items c.loop-number.invariant.fed c.in_ok-new.ensures.not_starved;
  runs = runs_one_more c.args.header.now c.loop-number.number c.args.header.now.verifiers (c.loop-number.number + 1) c.loop-number.runs.items c.push.new.self.items
      c.in_ok-new.field-0 c.loop-number-test.true refl c.in_ok-push.ensures.items c.in_ok-new.ensures.opening c.loop-number.invariant.runs;
}
