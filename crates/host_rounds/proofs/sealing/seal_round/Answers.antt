use Rattle.std.proofs.Common.{◌≤◌, arith}
use Rattle.verifier_run.specs.Progress.{weight}
use Rattle.host_rounds.proofs.SealingLemmas.{one-of, taken-all, taken-few}
use Rattle.host_rounds.proofs.sealing.seal_round.Goals as goal

pub seal_epochs-requires-clause-ready : goal.seal_epochs-requires-clause-ready
seal_epochs-requires-clause-ready g c κs within = λ number default there.
    let logged = c.in_ok-all.ensures.each number (omega (arith, there, c.requires.each)) in
    record {
      there = omega (arith, there, c.requires.each);
      room = let few = one-of (λ fed. weight fed.run ≤ c.args.bytes.now) c.args.runs.items number default there c.requires.few in omega (arith, few, logged.1);
      parts = c.requires.parts number default there;
    }

pub returns-clause-taken : goal.returns-clause-taken
returns-clause-taken g c =
    taken-all (g.D.Digests.functions c.args.d.now) c.args.logs.now c.args.runs.items c.in_ok-left.left.0.items c.requires.each c.in_ok-left.ensures.taken

pub returns-clause-few : goal.returns-clause-few
returns-clause-few g c =
    taken-few (g.D.Digests.functions c.args.d.now) c.args.logs.now c.args.runs.items c.in_ok-left.left.0.items c.requires.each c.in_ok-left.ensures.taken
    c.args.bytes.now c.in_ok-all.all c.requires.few (λ number within. (c.in_ok-all.ensures.each number within).0)
