use Rattle.std.proofs.Common.{◌+◌, ◌∙◌, ◌∷◌, ◌++◌, ap, sym}
use Rattle.script_text.specs.declared.task.Line.TheVariants as said
use Rattle.script_text.specs.Script.{phases_of}
use Rattle.script_text.specs.Generator.{lines_made, close_behind}
use Rattle.script_text.proofs.GeneratorLemmas.{made-nothing, state-nothing, made-more, state-more}
use Rattle.script_text.proofs.generator.generate.Goals as goal

pub loop-number-init : goal.loop-number-init
loop-number-init c = record {
  made = c.new-requests.ensures.value ∙ sym (made-nothing c.args.x c.args.shape.now);
  state = sym (state-nothing c.args.x);
}

pub loop-number-preserved : goal.loop-number-preserved
loop-number-preserved c =
    let x = c.args.x in
    let shape = c.args.shape.now in
    let number = c.loop-number.number in
    let first = c.next_draw-first.ensures.value in
    let second = c.next_draw-second.ensures.value in
    let lines = lines_made x shape number in
    record {
      made = c.in_ok-push_task.ensures.added lines c.loop-number.invariant.made
          ∙ ap (λ task. phases_of (lines ++ said.Task task ∷ close_behind shape (number + 1))) c.task_for.ensures.value
          ∙ ap phases_of (sym (made-more x shape number _ _ c.loop-number.state c.loop-number.invariant.state first second));
      state = state-more x number _ _ c.loop-number.state c.loop-number.invariant.state first second;
    }
