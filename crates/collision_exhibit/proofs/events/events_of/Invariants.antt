use Rattle.std.proofs.Common.{◌≡◌, ◌++◌, map}
use Rattle.collision_exhibit.specs.Audited.{audit_events_among}
use Rattle.collision_exhibit.proofs.events.events_of.Given as goal

-- what was taken of runs, and what the others have kept
abbrev pub invariant-loop-run : goal.invariant-loop-run
invariant-loop-run l =
    l.audited.items ++ audit_events_among (map (λ run. run.course) l.run-iterator.rest.items)
    ≡ audit_events_among (map (λ run. run.course) l.fn.runs.items)
