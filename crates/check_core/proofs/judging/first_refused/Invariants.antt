use Rattle.std.proofs.Common.{◌≡◌, map, drop}
use Rattle.bundle_report.specs.Judged.{refused_log}
use Rattle.check_core.proofs.judging.first_refused.Given as goal

-- none of the runs so far is refused, so those that are left tell
abbrev pub invariant-loop-number : goal.invariant-loop-number
invariant-loop-number g l =
    refused_log 0 (map (λ run. run.course) l.runs)
    ≡ refused_log l.number (map (λ run. run.course) (drop l.number l.runs))
