use Rattle.record_text.specs.Format.{format_of}
use Rattle.verifier_run.proofs.PieceLemmas.{between-held}
use Rattle.verifier_run.proofs.run.Run.new.Goals as goal

pub invariant_of-result : goal.invariant_of-result
invariant_of-result g c = between-held (format_of c.in_ok-tracer.tracer.machine.header) c.in_ok-tracer.tracer c.new-3.result.items c.new-3.ensures
