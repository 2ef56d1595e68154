use Rattle.std.proofs.Common.{◌≡◌, drop, map}
use Rattle.std.specs.Vec.Iter.{into_iter_items}
use Rattle.host_rounds.specs.WithPasses.{run_in}
use Rattle.host_rounds.proofs.DealingLemmas.{TakesPass}
use Rattle.host_rounds.proofs.ChangedLemmas.{Changed}
use Rattle.host_rounds.proofs.with_passes.deal.Given as goal

-- the verifiers so far have taken their passes, and the passes of the others are left
abbrev pub invariant-loop-one : goal.invariant-loop-one
invariant-loop-one l = record {
  left : drop l.one-index l.fn.passes.items ≡ into_iter_items l.passes;
  runs : map run_in l.all ≡ map run_in l.fn.all;
  dealt : Changed (TakesPass l.fn.passes.items) l.one-index l.fn.all l.all;
}
