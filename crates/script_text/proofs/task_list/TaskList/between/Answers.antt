use Rattle.std.proofs.Common.{◌∙◌, ap}
use Rattle.std.specs.List.{slice_range}
use Rattle.script_text.proofs.HeadLemmas.{between_tasks}
use Rattle.script_text.proofs.task_list.TaskList.between.Goals as goal

pub returns : goal.returns
returns c = record {
  value =
      c.new.ensures.value
      ∙ rw (c.deref.ensures.value, c.deref-2.ensures.value)
      (between_tasks c.self.inside.bytes.items c.self.inside.heads.items c.args.begin c.args.end)
      ∙ ap (λ tasks. slice_range tasks c.args.begin c.args.end) c.self.view_is;
}
