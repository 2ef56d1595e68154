use Rattle.std.proofs.Common.{◌∙◌, map, ap}
use Rattle.std.proofs.lemmas.List.{map-append}
use Rattle.seals.specs.Kept.{kept_in}
use Rattle.seals.specs.Run.{run_at}
use Rattle.seals.proofs.FrontLemmas.{handed_on, runs-fault, runs-next}
use Rattle.seals.proofs.reading.read_runs.Goals as goal

pub returns-in_err-run : goal.returns-in_err-run
returns-in_err-run c =
    let head = c.args.head.now in record {
      reads = handed_on kept_in (λ made. map kept_in made.items) c.from_residual.result c.in_err-run.field-0.0 _ _ (run_at c.args.head.now.header c.args.head.now.certified c.args.head.now.taken c.loop-number.number c.loop-number.reader) _
          (λ fault is. runs-fault _ _ _ _ _ _ _ _ fault c.loop-number.invariant c.loop-number-test.true is) c.from_residual.ensures.1 c.in_err-run.ensures.reads;
    }

pub loop-number-preserved : goal.loop-number-preserved
loop-number-preserved c =
    runs-next _ _ _ _ _ _ _ _ _ _ _ c.loop-number.invariant c.loop-number-test.true c.in_ok-run.ensures.reads
    (ap (map kept_in) c.in_ok-push.ensures.items ∙ map-append kept_in c.loop-number.runs.items _)
