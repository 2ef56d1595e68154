use Rattle.std.proofs.Common.{ap, ◌∙◌, List, take_while, nat_le}
use Rattle.slice_queue.specs.Waiting.{Waiting}
use Rattle.record_text.specs.declared.operation.Operation.{Operation}
use Rattle.operation_queue.specs.declared.head.Head.{Head}
use Rattle.operation_queue.specs.Heads.{spelled}
use Rattle.operation_queue.proofs.HeadLemmas.{front_spelled, fronts}
use Rattle.operation_queue.proofs.queue.OperationQueue.up_to.Goals as goal

pub new-requires : goal.new-requires
new-requires c = record {
  spelled =
      front_spelled c.heads_through-count.result c.as_slice-heads.result.now c.as_slice.result.now
      (rw (c.as_slice-heads.ensures.value, c.as_slice.ensures.value) c.self.invariant);
}

pub returns : goal.returns
returns c = record {
  value =
      c.new.ensures.value
      ∙ (fronts c.args.through c.heads_through-count.result c.as_slice-heads.result.now c.as_slice.result.now c.heads_through-count.ensures.value
      ∙ ap (λ (operations : List Operation). take_while (λ operation. nat_le operation.stamp.epoch c.args.through) operations)
      (ap (λ (heads : List Head). spelled heads c.as_slice.result.now) c.as_slice-heads.ensures.value
      ∙ (ap (spelled c.self.inside.heads.items) c.as_slice.ensures.value
      ∙ ap (λ (waiting : Waiting Operation). waiting.items) c.self.view_is)));
}
