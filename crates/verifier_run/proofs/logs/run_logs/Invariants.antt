use Rattle.std.proofs.Common.{◌≡◌, ◌++◌, map, drop}
use Rattle.merkle_records.specs.Scheme.{scheme_of}
use Rattle.verifier_run.specs.LogCourse.{courses_keeping}
use Rattle.verifier_run.proofs.logs.run_logs.Given as goal

-- the courses so far and those of the logs that are left are the courses of all logs
abbrev pub invariant-loop-number : goal.invariant-loop-number
invariant-loop-number g l =
    map (λ run. run.course) l.runs.items
    ++ courses_keeping g.T.Kept.keeps (scheme_of (g.D.Digests.functions l.d) l.header) l.header l.number (map (λ log. log.items) (drop l.number l.logs))
    ≡ courses_keeping g.T.Kept.keeps (scheme_of (g.D.Digests.functions l.d) l.header) l.header 0 (map (λ log. log.items) l.logs)
