use Rattle.record_text.specs.Format.{format_of}
use Rattle.verifier_run.proofs.PieceLemmas.{between-held}
use Rattle.verifier_run.proofs.sealed.Run+Operation.of_state.Goals as goal

pub invariant_of-result : goal.invariant_of-result
invariant_of-result c = between-held (format_of c.in_ok-tracer.tracer.machine.header) c.in_ok-tracer.tracer c.new-2.result.items c.new-2.ensures
