use Rattle.std.proofs.Common.{◌≡◌, map}
use Rattle.std.specs.Vec.Iter.{into_iter_items}
use Rattle.host_rounds.specs.WithPasses.{run_in, passes_in}
use Rattle.host_rounds.proofs.with_passes.apart.Given as goal

-- the halves so far are apart
abbrev pub invariant-loop-one : goal.invariant-loop-one
invariant-loop-one l = record {
  runs : l.runs.items ≡ map run_in l.yielded;
  passes : map into_iter_items l.passes.items ≡ map passes_in l.yielded;
}
