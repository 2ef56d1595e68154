use Rattle.std.proofs.Common.{◌-◌, length}
use Rattle.verifier_run.proofs.FollowLemmas.{HasRead}
use Rattle.merkle_records.specs.Scheme.{scheme_of}
use Rattle.verifier_run.proofs.run.follow.Given as goal

abbrev pub invariant-loop-window : goal.invariant-loop-window
invariant-loop-window g l = HasRead g.T.Kept.keeps (scheme_of (g.D.Digests.functions l.d) l.fn.tracer.machine.header) l.fn.tracer l.bytes l.taken l.tracer

abbrev pub decreases-loop-window : goal.decreases-loop-window
decreases-loop-window g l = length l.bytes - l.taken
