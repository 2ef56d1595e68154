use Rattle.std.proofs.Common.{◌∙◌, ap, sym, List, map, drop, ◌++◌, ◌∷◌, []}
use Rattle.std.proofs.lemmas.Result.{on_ok_weaker}
use Rattle.script_text.specs.declared.task.Line.TheVariants as said
use Rattle.script_text.specs.declared.task.Task.{Task}
use Rattle.script_text.specs.Extents.{phase_at}
use Rattle.script_text.specs.Script.{then_line}
use Rattle.script_text.proofs.ExtentLemmas.{task_joins}
use Rattle.script_text.proofs.requests.Requests.push.Goals as goal

pub returns-in-Task-clause-added : goal.returns-in-Task-clause-added
returns-in-Task-clause-added c =
    let closed = c.self.inside.closed.items in
    let last = c.self.inside.last in
    on_ok_weaker c.push.result (λ added.
    ap (λ (tasks : List Task). map (phase_at tasks) closed ++ drop last tasks ∷ []) added
    ∙ task_joins c.self.inside.tasks c.in-Task.task closed last c.self.invariant.0 c.self.invariant.1
    ∙ ap (λ (phases : List (List Task)). then_line phases (said.Task c.in-Task.task)) c.self.view_is
    ∙ ap (then_line c.args.self.now) (sym c.in-Task.is)) c.push.ensures.added
