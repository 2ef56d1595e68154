use Rattle.std.proofs.Common.{◌≡◌, ℕ, List, take, Result, Ok, Err, ap, ◌∙◌}
use Rattle.std.specs.Prelude.{OnOk, IfErr}
use Rattle.merkle_records.specs.Scheme.{Scheme}
use Rattle.record_text.specs.declared.operation.Operation.{Operation}
use Rattle.verifier_run.specs.Kept.{keeps_operations}
use Rattle.verifier_run.specs.declared.run.FeedStop.{FeedStop}
use Rattle.verifier_run.specs.Progress.{Progress, fed}
use Rattle.verifier_run.proofs.RunLaws.{fed_goes_on}
use Rattle.certified_epochs.proofs.fed_run.FedRun.feed.Goals as goal

-- a run keeps its header, however much of the piece it took
header_kept : {A : Type 0} (scheme : Scheme) (old new : Progress Operation) (piece : List ℕ) (result : Result A FeedStop)
    → OnOk result (new ≡ fed keeps_operations scheme old piece) → IfErr result (λ stop. new ≡ fed keeps_operations scheme old (take stop.taken piece))
    → new.course.machine.header ≡ old.course.machine.header
header_kept scheme old new piece (Ok done) all front = ap (λ (run : Progress Operation). run.course.machine.header) all ∙ (fed_goes_on scheme old piece).header
header_kept scheme old new piece (Err stop) all front =
    ap (λ (run : Progress Operation). run.course.machine.header) front ∙ (fed_goes_on scheme old (take stop.taken piece)).header

pub returns-then-is_err-clause-header : goal.returns-then-is_err-clause-header
returns-then-is_err-clause-header g c = header_kept _ _ _ _ c.feed.result c.feed.ensures.ok c.feed.ensures.stop

pub returns-else-is_err-clause-header : goal.returns-else-is_err-clause-header
returns-else-is_err-clause-header g c = header_kept _ _ _ _ c.feed.result c.feed.ensures.ok c.feed.ensures.stop
