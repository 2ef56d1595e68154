use Rattle.std.proofs.Common.{◌∙◌, ap, List, ◌++◌, ◌∷◌, []}
use Rattle.script_text.specs.declared.task.Task.{Task}
use Rattle.script_text.proofs.HeadLemmas.{pushed}
use Rattle.script_text.proofs.task_list.TaskList.push.Goals as goal

pub returns-clause-added : goal.returns-clause-added
returns-clause-added c =
    let count = c.len.ensures ∙ c.self.inside.bytes.ok.0 in
    rw (c.push_reserved.ensures.items, c.reserve.ensures.items, c.in_ok-extend_from_slice.ensures.items, c.value_bytes.ensures.value, c.new-head.ensures.value, count)
    (pushed c.self.inside.bytes.items c.self.inside.heads.items c.args.task.now c.self.invariant
    ∙ ap (λ (tasks : List Task). tasks ++ c.args.task.now ∷ []) c.self.view_is)
