use Rattle.std.proofs.Common.{ap, ◌∙◌}
use Rattle.lamport_clocks.specs.declared.header.Header.{Header}
use Rattle.verifier_run.specs.Progress.{fed}
use Rattle.verifier_run.proofs.CourseLemmas.{header_in}
use Rattle.verifier_commands.specs.Machine.{opening_machine}
use Rattle.verifier_run.proofs.TraceLemmas.{whole_log_run}
use Rattle.merkle_records.specs.Scheme.{scheme_of}
use Rattle.verifier_run.proofs.logs.run_log.Goals as goal

pub returns-clause-course : goal.returns-clause-course
returns-clause-course g c =
    whole_log_run g.T.Kept.keeps (scheme_of (g.D.Digests.functions c.args.d.now) c.args.header.now) (opening_machine c.args.number c.args.header.now) c.args.log.now
    c.in_ok-run.run' c.feed.new.self c.end.new.self c.in_ok-run.ensures.opening
    (c.in-Ok.ensures.ok ∙ ap (λ (header : Header). fed g.T.Kept.keeps (scheme_of (g.D.Digests.functions c.args.d.now) header) c.in_ok-run.run' c.args.log.now) (ap header_in c.in_ok-run.ensures.opening)) c.end.ensures.ended
