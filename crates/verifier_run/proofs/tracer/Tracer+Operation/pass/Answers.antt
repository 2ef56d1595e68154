use Rattle.std.proofs.Common.{List, length, drop, nat_le, refl, sym, ap, subst, ◌∙◌}
use Rattle.std.specs.Prelude.{take_while}
use Rattle.multiset_sum.specs.declared.part.Part.{Part}
use Rattle.record_text.specs.declared.operation.Operation.{Operation}
use Rattle.verifier_run.specs.Course.{Course}
use Rattle.verifier_run.specs.Order.{operation_epoch, part_epoch, StandsInOrder}
use Rattle.verifier_run.specs.Taken.{left_behind}
use Rattle.verifier_run.proofs.OrderLemmas.{counted}
use Rattle.verifier_run.proofs.TakenLemmas.{left_queues, in_order-dropped}
use Rattle.verifier_run.proofs.tracer.Tracer+Operation.pass.Goals as goal

pub invariant_of-self : goal.invariant_of-self
invariant_of-self c =
    let clock = c.self.inside.verifier.state.clock in
    let operations = c.self.inside.items.items in
    let parts = c.self.inside.parts.items in
    let some = length (take_while (λ (operation : Operation). nat_le operation.stamp.epoch c.args.through) operations) in
    subst (λ (ops : List Operation). StandsInOrder operation_epoch clock ops c.pass-2.new.self.items) (sym c.pass.ensures.items)
    (subst (λ (kept : List Part). StandsInOrder operation_epoch clock (drop some operations) kept) (sym c.pass-2.ensures.items)
    (in_order-dropped clock some c.parts_through-parts.result operations parts c.self.invariant))

pub returns-clause-left : goal.returns-clause-left
returns-clause-left c =
    let course : Course Operation = record {
      machine = c.self.inside.verifier;
      items = c.self.inside.items.items;
      parts = c.self.inside.parts.items;
      refused = c.self.inside.refused;
    } in
    let some = length (take_while (λ (operation : Operation). nat_le operation.stamp.epoch c.args.through) c.self.inside.items.items) in
    let others = c.parts_through-parts.result in
    let count = counted operation_epoch c.args.through some c.self.inside.items.items c.self.inside.items.items refl refl in
    let number = counted part_epoch c.args.through others c.as_slice.result.now c.self.inside.parts.items c.parts_through-parts.ensures.value c.as_slice.ensures.value in
    ap (λ (ops : List Operation). record course { items = ops; parts = c.pass-2.new.self.items }) c.pass.ensures.items
    ∙ (ap (λ (parts : List Part). record course { items = drop some c.self.inside.items.items; parts = parts }) c.pass-2.ensures.items
    ∙ (left_queues c.args.through some others course c.self.invariant count number ∙ ap (left_behind c.args.through) c.self.view_is))
