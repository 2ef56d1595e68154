use Rattle.std.proofs.Common.{◌∙◌, arith}
use Rattle.report_text.proofs.PassLaws.{Passes-then, Passes-stop, on_err}
use Rattle.load_summary.specs.declared.tally.Tally.{Tally}
use Rattle.load_summary.proofs.SummaryLemmas.{workers_step}
use Rattle.load_summary.proofs.summary.write_workers.Goals as goal

-- what a place past the end reads
blank : Tally
blank = record { gets = 0; none = 0; puts = 0; dels = 0 }

pub returns-in_err-write-clause-front : goal.returns-in_err-write-clause-front
returns-in_err-write-clause-front g c =
    on_err _ (Passes-stop _ _ _ _ _ _ _ _ c.loop-worker.invariant.passes c.in_err-write.ensures.front c.loop-worker.invariant.left)

pub loop-worker-preserved : goal.loop-worker-preserved
unfolding blank
loop-worker-preserved g c = record {
  text = _;
  passes = Passes-then _ _ _ _ _ _ _ _ c.loop-worker.invariant.passes c.in_ok-write.ensures.whole;
  left = workers_step _ _ blank _ _ _ c.loop-worker-test.true (c.as_slice.ensures.value ∙ c.worker_line.ensures.text) c.loop-worker.invariant.left;
  name = c.in_ok-write.ensures.name ∙ c.loop-worker.invariant.name;
  faults = omega (arith, c.loop-worker.invariant.faults, c.in_ok-write.ensures.counts.never_falls);
}
