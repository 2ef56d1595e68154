use Rattle.std.proofs.Common.{map, ◌∙◌}
use Rattle.std.proofs.lemmas.List.{length-map}
use Rattle.merkle_records.specs.Scheme.{scheme_of}
use Rattle.check_core.proofs.ConcludingLemmas.{few_held, judged_held}
use Rattle.check_core.proofs.concluding.conclude_logs.Goals as goal

pub conclude_runs-requires-clause-few : goal.conclude_runs-requires-clause-few
conclude_runs-requires-clause-few g c =
    few_held (λ run. run.course) g.T.Kept.keeps (scheme_of (g.D.Digests.functions c.args.d.now) c.args.header.now) c.args.header.now
    (map (λ log. log.items) c.deref.result.now) c.requires.header
    (length-map c.deref.result.now (λ log. log.items) ∙ c.deref.ensures.len ∙ c.requires.count)
    c.deref-2.result.now c.in_ok-runs.runs.items c.deref-2.ensures.value c.in_ok-runs.ensures.courses

pub conclude_runs-requires-clause-parts : goal.conclude_runs-requires-clause-parts
conclude_runs-requires-clause-parts g c =
    judged_held (λ run. run.course) g.T.Kept.keeps (scheme_of (g.D.Digests.functions c.args.d.now) c.args.header.now) c.args.header.now
    (map (λ log. log.items) c.deref.result.now) c.requires.header
    (length-map c.deref.result.now (λ log. log.items) ∙ c.deref.ensures.len ∙ c.requires.count)
    c.deref-2.result.now c.in_ok-runs.runs.items c.deref-2.ensures.value c.in_ok-runs.ensures.courses
