use Rattle.std.proofs.Common.{◌≡◌, ◌≤◌}
use Rattle.verifier_threads.specs.declared.runner.NextCall.TheVariants as calls
use Rattle.verifier_threads.specs.Runners.{Stands, next_call_of, rounds_left}
use Rattle.verifier_threads.proofs.serving.serve.Given as goal

-- the runner stands before a round or at the end
abbrev pub invariant-rounds : goal.invariant-rounds
invariant-rounds g l = record {
  stands : Stands l.fn.account g.D.Digests.functions (g.D.Digests.functions l.d) l.settings l.requests l.runner
      (record { vault = g.V.Sink.held l.fn.vault; vault_after = g.V.Sink.held l.vault; out = g.O.Sink.held l.fn.out; out_after = g.O.Sink.held l.out });
  call : next_call_of l.runner ≡ calls.Close → ⊥;
  vault_counts : g.V.Sink.faults l.fn.vault ≤ g.V.Sink.faults l.vault;
  out_counts : g.O.Sink.faults l.fn.out ≤ g.O.Sink.faults l.out;
  name : g.V.Sink.name l.vault ≡ g.V.Sink.name l.fn.vault;
}

abbrev pub decreases-rounds : goal.decreases-rounds
decreases-rounds g l = rounds_left l.runner
