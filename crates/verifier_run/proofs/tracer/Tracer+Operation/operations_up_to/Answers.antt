use Rattle.std.proofs.Common.{ap, ◌∙◌}
use Rattle.record_text.specs.declared.operation.Operation.{Operation}
use Rattle.verifier_run.specs.Course.{Course}
use Rattle.verifier_run.specs.Taken.{taken_by}
use Rattle.verifier_run.proofs.TakenLemmas.{taken_front}
use Rattle.verifier_run.proofs.tracer.Tracer+Operation.operations_up_to.Goals as goal

pub returns : goal.returns
returns c =
    let course : Course Operation = record {
      machine = c.self.inside.verifier;
      items = c.self.inside.items.items;
      parts = c.self.inside.parts.items;
      refused = c.self.inside.refused;
    } in
    record {
      value =
          c.up_to.ensures.value
          ∙ (taken_front c.args.through course c.self.invariant ∙ ap (taken_by c.args.through) c.self.view_is);
    }
