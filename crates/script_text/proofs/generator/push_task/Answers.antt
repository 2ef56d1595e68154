use Rattle.std.proofs.Common.{◌+◌, ◌∙◌, ap, sym}
use Rattle.script_text.specs.declared.task.Line.TheVariants as said
use Rattle.script_text.specs.Script.{then_line}
use Rattle.script_text.proofs.GeneratorLemmas.{phases-due, phases-open}
use Rattle.script_text.proofs.generator.push_task.Goals as goal

pub returns-in_ok-push-2 : goal.returns-in_ok-push-2
returns-in_ok-push-2 c = record {
  added = λ lines are.
      c.in_ok-push-2.ensures.added
      ∙ ap (λ phases. then_line phases said.Epoch) (c.in_ok-push.ensures.added ∙ ap (λ phases. then_line phases (said.Task c.args.task)) are)
      ∙ sym (phases-due c.args.shape.now (c.args.number + 1) lines (said.Task c.args.task) (sym c.closes_behind.ensures.value ∙ c.if-closes_behind.true));
}

pub returns-else-closes_behind : goal.returns-else-closes_behind
returns-else-closes_behind c = record {
  added = λ lines are.
      c.in_ok-push.ensures.added
      ∙ ap (λ phases. then_line phases (said.Task c.args.task)) are
      ∙ sym (phases-open c.args.shape.now (c.args.number + 1) lines (said.Task c.args.task) (sym c.closes_behind.ensures.value ∙ c.if-closes_behind.false));
}
