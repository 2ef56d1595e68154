use Rattle.std.proofs.Common.{◌≡◌, ℕ, ◌+◌, List, get_or, subst, arith}
use Rattle.bundle_frames.specs.Bundle.{Frame}
use Rattle.certified_epochs.specs.declared.fed_run.FedRun.{FedRun}
use Rattle.check_core.specs.Feeding.{Reads}
use Rattle.check_core.proofs.FeedingLemmas.{all_take}
use Rattle.check_core.proofs.feeding.feed_batch.Goals as goal

pub returns : goal.returns
returns g c =
    let functions = g.D.Digests.functions c.args.d.now in
    let frames = c.args.batch.now in
    let olds = c.args.runs.now in
    let news = c.for_each_mut.new.s in
    record {
      taken = all_take functions 0 frames olds news c.for_each_mut.auto.s
          (λ i d within.
          let k = (c.for_each_mut.ensures i d within).1 in
          let first : i ≡ 0 + i = omega arith in
          subst (λ (n : ℕ). Reads functions n frames (get_or olds i d) (get_or news i d)) first
          (subst (λ (new : FedRun). Reads functions i frames (get_or olds i d) new) k.left
          (subst (λ (old : FedRun). Reads functions i frames old k.after_call.now) k.argument_is
          (subst (λ (fs : List Frame). Reads functions i fs k.argument.now k.after_call.now) c.holders-holders.ensures.frames k.call))));
    }
