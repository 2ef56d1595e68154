use Rattle.std.proofs.Common.{◌∙◌, ◌++◌, List, ℕ, [], ◌∷◌, take, ap, sym}
use Rattle.std.specs.List.{flat_map}
use Rattle.std.proofs.lemmas.List.{take_more, flat_map_more}
use Rattle.seals.specs.Run.{run_text}
use Rattle.seals.specs.Kept.{kept_in}
use Rattle.seals.proofs.writing.write_runs.Goals as goal

pub loop-run-preserved : goal.loop-run-preserved
loop-run-preserved c =
    c.in_ok-write_run.ensures.text
    ∙ (ap (λ (t : List ℕ). t ++ run_text (kept_in c.run-item.result)) c.loop-run.invariant
    ∙ (flat_map_more (λ run. run_text (kept_in run)) c.args.text.now.items (take c.loop-run.run-index c.args.runs.now) c.run-item.result
    ∙ ap (λ xs. c.args.text.now.items ++ flat_map (λ run. run_text (kept_in run)) xs)
    (ap (λ y. take c.loop-run.run-index c.args.runs.now ++ y ∷ []) c.run-item.is ∙ sym (take_more c.args.runs.now c.loop-run.run-index c.run-item.result c.loop-run-test.true))))
