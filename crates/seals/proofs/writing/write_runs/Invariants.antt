use Rattle.std.proofs.Common.{◌≡◌, ◌++◌, take}
use Rattle.std.specs.List.{flat_map}
use Rattle.seals.specs.Run.{run_text}
use Rattle.seals.specs.Kept.{kept_in}
use Rattle.seals.proofs.writing.write_runs.Given as goal

abbrev pub invariant-loop-run : goal.invariant-loop-run
invariant-loop-run l = l.text.items ≡ l.initial.text.items ++ flat_map (λ run. run_text (kept_in run)) (take l.run-index l.runs)
