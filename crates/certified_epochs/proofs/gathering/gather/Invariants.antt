use Rattle.std.proofs.Common.{◌≡◌, ◌++◌, map, drop}
use Rattle.bundle_report.specs.RunReport.{parts_at}
use Rattle.certified_epochs.proofs.gathering.gather.Given as goal

-- what was gathered, and with what the runs that are left have handed in it is all
abbrev pub invariant-loop-fed : goal.invariant-loop-fed
invariant-loop-fed l =
    l.gathered.items ++ parts_at l.index (map (λ fed. fed.run.course) (drop l.fed-index l.runs))
    ≡ parts_at l.index (map (λ fed. fed.run.course) l.runs)
