use Rattle.std.proofs.Common.{List, length, drop, take_while, nat_le, ap, ◌∙◌}
use Rattle.slice_queue.specs.Waiting.{Waiting}
use Rattle.record_text.specs.declared.operation.Operation.{Operation}
use Rattle.operation_queue.specs.declared.head.Head.{Head}
use Rattle.operation_queue.proofs.HeadLemmas.{front_spelled, behinds, behind_whole}
use Rattle.operation_queue.proofs.queue.OperationQueue.pass.Goals as goal

pub values_len-len-requires : goal.values_len-len-requires
values_len-len-requires c =
    rw (c.as_slice-heads.ensures.value, c.as_slice.ensures.value)
    (record { within = (front_spelled c.heads_through-count.result c.self.inside.heads.items c.self.inside.bytes.items c.self.invariant).within })

-- and the bytes of their values
pub pass-requires-2 : goal.pass-requires-2
pass-requires-2 c =
    rw (c.values_len-len.ensures.value, c.as_slice-heads.ensures.value)
    (record { within = (front_spelled c.heads_through-count.result c.self.inside.heads.items c.self.inside.bytes.items c.self.invariant).within })

pub invariant_of-self : goal.invariant_of-self
invariant_of-self c =
    rw (c.pass.ensures.items, c.pass-2.ensures.items, c.values_len-len.ensures.value, c.as_slice-heads.ensures.value)
    (behind_whole c.heads_through-count.result c.self.inside.heads.items c.self.inside.bytes.items c.self.invariant)

pub returns-clause-items : goal.returns-clause-items
returns-clause-items c =
    rw (c.pass.ensures.items, c.pass-2.ensures.items, c.values_len-len.ensures.value, c.as_slice-heads.ensures.value)
    (behinds c.args.through c.heads_through-count.result c.self.inside.heads.items c.self.inside.bytes.items
    (c.heads_through-count.ensures.value
    ∙ ap (λ (heads : List Head). length (take_while (λ head. nat_le head.stamp.epoch c.args.through) heads)) c.as_slice-heads.ensures.value)
    ∙ ap (λ (waiting : Waiting Operation).
    drop (length (take_while (λ operation. nat_le operation.stamp.epoch c.args.through) waiting.items)) waiting.items) c.self.view_is)
