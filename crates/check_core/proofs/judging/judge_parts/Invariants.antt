use Rattle.std.proofs.Common.{◌≡◌, length, map, drop}
use Rattle.bundle_report.specs.Judged.{judged_from}
use Rattle.bundle_report.proofs.SoFarLaws.{behind}
use Rattle.check_core.proofs.judging.judge_parts.Given as goal

-- the epochs so far are certified, and those that are left come behind them
abbrev pub invariant-loop-count : goal.invariant-loop-count
invariant-loop-count g l =
    judged_from (length l.runs) 0 l.parts (map (λ run. run.course) l.runs)
    ≡ behind l.count (judged_from (length l.runs) l.count (drop l.count l.parts) (map (λ run. run.course) l.runs))
