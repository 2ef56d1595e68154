use Rattle.std.proofs.Common.{◌≡◌, ◌++◌, map, drop}
use Rattle.bundle_report.specs.RunReport.{parts_at}
use Rattle.check_core.proofs.judging.gather.Given as goal

-- what was gathered, and with what the runs that are left have handed in it is all
abbrev pub invariant-loop-run : goal.invariant-loop-run
invariant-loop-run g l =
    l.gathered.items ++ parts_at l.index (map (λ run. run.course) (drop l.run-index l.runs))
    ≡ parts_at l.index (map (λ run. run.course) l.runs)
