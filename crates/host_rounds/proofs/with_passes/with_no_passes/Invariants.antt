use Rattle.std.proofs.Common.{◌≡◌, [], map}
use Rattle.std.specs.List.{AllByRecursion}
use Rattle.host_rounds.specs.WithPasses.{run_in, passes_in}
use Rattle.host_rounds.proofs.with_passes.with_no_passes.Given as goal

-- the runs so far have no pass
abbrev pub invariant-loop-run : goal.invariant-loop-run
invariant-loop-run l = record {
  runs : map run_in l.all.items ≡ l.yielded;
  none : AllByRecursion (λ one. passes_in one ≡ []) l.all.items;
}
