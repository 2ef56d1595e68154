use Rattle.record_text.specs.Format.{format_of}
use Rattle.verifier_run.proofs.PieceLemmas.{between-held}
use Rattle.verifier_run.proofs.run.Run.end.Goals as goal

pub invariant_of-self : goal.invariant_of-self
invariant_of-self g c = between-held (format_of c.refuse.new.self.machine.header) c.refuse.new.self c.clear.new.self.items c.clear.ensures
