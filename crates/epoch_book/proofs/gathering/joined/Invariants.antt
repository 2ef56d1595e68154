use Rattle.std.proofs.Common.{◌≡◌, take}
use Rattle.epoch_gather.specs.Parts.{total}
use Rattle.epoch_book.specs.Passes.{parts_of}
use Rattle.epoch_book.proofs.gathering.joined.Given as goal

abbrev pub invariant-loop-pass : goal.invariant-loop-pass
invariant-loop-pass l = record {
  added : l.added ≡ total (λ part. part.added) (parts_of (take l.pass-index l.passes));
  evicted : l.evicted ≡ total (λ part. part.evicted) (parts_of (take l.pass-index l.passes));
}
