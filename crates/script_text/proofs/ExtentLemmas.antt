-- What the phases of a script are once there is one task more.
use Rattle.std.proofs.Common.{◌≡◌, ℕ, ◌≤◌, List, [], ◌∷◌, ◌++◌, length, drop, map, refl, ap, sym, ◌∙◌}
use Rattle.std.specs.List.{AllByRecursion}
use Rattle.std.proofs.lemmas.List.{drop-append-le}
use Rattle.script_text.specs.declared.extent.Extent.{Extent}
use Rattle.script_text.specs.declared.task.Task.{Task}
use Rattle.script_text.specs.declared.task.Line.TheVariants as said
use Rattle.script_text.specs.Extents.{phase_at, IsAmong}
use Rattle.script_text.specs.Script.{then_line}
use Rattle.script_text.proofs.HeadLemmas.{slice_in_front}
use Rattle.script_text.proofs.ScriptLemmas.{then_line-last}

-- closed phases are as before
closed_before : (tasks : List Task) (task : Task) (closed : List Extent) → AllByRecursion (IsAmong (length tasks)) closed
    → map (phase_at (tasks ++ task ∷ [])) closed ≡ map (phase_at tasks) closed
closed_before tasks task [] all = refl
closed_before tasks task (extent ∷ closed) all =
    ap (λ (phase : List Task). phase ∷ map (phase_at (tasks ++ task ∷ [])) closed)
    (slice_in_front tasks (task ∷ []) extent.begin extent.end all.0.order all.0.within)
    ∙ ap (λ (phases : List (List Task)). phase_at tasks extent ∷ phases) (closed_before tasks task closed all.1)

-- A task behind all others joins the last phase.
pub task_joins : (tasks : List Task) (task : Task) (closed : List Extent) (last : ℕ) → AllByRecursion (IsAmong (length tasks)) closed → last ≤ length tasks
    → map (phase_at (tasks ++ task ∷ [])) closed ++ drop last (tasks ++ task ∷ []) ∷ [] ≡ then_line (map (phase_at tasks) closed ++ drop last tasks ∷ []) (said.Task task)
task_joins tasks task closed last all within =
    ap (λ (phases : List (List Task)). phases ++ drop last (tasks ++ task ∷ []) ∷ []) (closed_before tasks task closed all)
    ∙ ap (λ (phase : List Task). map (phase_at tasks) closed ++ phase ∷ []) (drop-append-le last tasks (task ∷ []) within)
    ∙ sym (then_line-last (map (phase_at tasks) closed) (drop last tasks) task)
