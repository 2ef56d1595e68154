use Rattle.std.proofs.Common.{◌≡◌, ◌<◌, drop, None}
use Rattle.record_text.specs.Format.{format_of}
use Rattle.command_window.specs.Window.{AreReadOf}
use Rattle.merkle_records.specs.Scheme.{scheme_of}
use Rattle.verifier_run.proofs.FollowLemmas.{HasRead}
use Rattle.verifier_run.proofs.run.follow_window.Given as goal

-- so many bytes are read, behind the first command some are, and the rest begins with the commands that are left
abbrev pub invariant-loop-place : goal.invariant-loop-place
invariant-loop-place g l = record {
  so_far : HasRead g.T.Kept.keeps (scheme_of (g.D.Digests.functions l.d) l.fn.tracer.machine.header) l.fn.tracer l.bytes l.taken l.tracer;
  read : AreReadOf (format_of l.fn.tracer.machine.header) (drop l.taken l.bytes) (drop l.place l.window.commands);
  some : 0 < l.place → 0 < l.taken;
  going : l.place ≡ 0 → l.tracer.refused ≡ None;
}
