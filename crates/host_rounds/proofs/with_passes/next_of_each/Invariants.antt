use Rattle.std.proofs.Common.{◌≡◌, length}
use Rattle.host_rounds.proofs.DealingLemmas.{GivesPass}
use Rattle.host_rounds.proofs.ChangedLemmas.{Changed}
use Rattle.host_rounds.proofs.with_passes.next_of_each.Given as goal

-- the verifiers so far have given their next passes
abbrev pub invariant-loop-one : goal.invariant-loop-one
invariant-loop-one l = record {
  count : length l.passes.items ≡ l.one-index;
  given : Changed (GivesPass l.passes.items) l.one-index l.fn.all l.all;
}
