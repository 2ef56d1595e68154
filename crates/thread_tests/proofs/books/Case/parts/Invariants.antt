use Rattle.std.proofs.Common.{◌<◌, ◌^◌, All}
use Rattle.std.specs.List.{IsDistinct}
use Rattle.epoch_gather.specs.Parts.{is_same_part}
use Rattle.thread_tests.proofs.books.Case.parts.Given as goal

abbrev pub invariant-loop-verifier : goal.invariant-loop-verifier
invariant-loop-verifier l = record {
  numbers : All (λ part. part.verifier < l.verifier) l.parts.items;
  once : IsDistinct is_same_part l.parts.items;
  counts : All (λ part. (part.added.count < 2 ^ 25) × (part.evicted.count < 2 ^ 25)) l.parts.items;
}
