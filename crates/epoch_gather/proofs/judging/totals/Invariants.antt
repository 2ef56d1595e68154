use Rattle.std.proofs.Common.{◌≡◌, take}
use Rattle.epoch_gather.specs.Parts.{of_epoch, total}
use Rattle.epoch_gather.proofs.judging.totals.Given as goal

abbrev pub invariant-loop-part : goal.invariant-loop-part
invariant-loop-part l = record {
  added : l.added ≡ total (λ part. part.added) (of_epoch l.epoch (take l.part-index l.parts));
  evicted : l.evicted ≡ total (λ part. part.evicted) (of_epoch l.epoch (take l.part-index l.parts));
}
