use Rattle.std.proofs.Common.{◌++◌, ◌∷◌, [], ap, subst, ◌∙◌}
use Rattle.slice_queue.specs.Waiting.{Waiting}
use Rattle.record_text.specs.declared.operation.Operation.{Operation}
use Rattle.operation_queue.specs.Heads.{FitsBlob}
use Rattle.operation_queue.proofs.HeadLemmas.{pushed, pushed_whole}
use Rattle.operation_queue.proofs.queue.OperationQueue.push_reserved.Goals as goal

pub invariant_of-self : goal.invariant_of-self
invariant_of-self c =
    rw (c.push_reserved.ensures.items, c.of.ensures.value, c.extend_reserved.ensures.items, c.value_bytes.ensures.value, c.value.ensures.value)
    (pushed_whole c.self.inside.heads.items c.self.inside.bytes.items c.args.operation.now c.self.invariant
    (subst FitsBlob c.of.ensures.value c.of.ensures.fits))

pub returns-clause-items : goal.returns-clause-items
returns-clause-items c =
    rw (c.push_reserved.ensures.items, c.of.ensures.value, c.extend_reserved.ensures.items, c.value_bytes.ensures.value, c.value.ensures.value)
    (pushed c.self.inside.heads.items c.self.inside.bytes.items c.args.operation.now c.self.invariant.whole
    ∙ ap (λ (waiting : Waiting Operation). waiting.items ++ c.args.operation.now ∷ []) c.self.view_is)
