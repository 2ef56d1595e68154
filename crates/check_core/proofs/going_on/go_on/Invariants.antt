use Rattle.std.proofs.Common.{◌≡◌, ◌-◌, ◌≤◌, ℕ, List, Option, Some, length, map}
use Rattle.std.specs.List.{AllByRecursion}
use Rattle.bundle_frames.specs.Extent.{IsDue}
use Rattle.bundle_frames.specs.Progress.{position}
use Rattle.bundle_frames.specs.Reading.{HasRead}
use Rattle.verifier_run.specs.Progress.{weight}
use Rattle.bundle_report.specs.Report.{operations_told}
use Rattle.certified_epochs.specs.Telling.{text_by}
use Rattle.certified_epochs.specs.Turn.{CanCertify}
use Rattle.check_core.specs.Stream.{HasCome, AreChecked, lines_counted}
use Rattle.check_core.proofs.GoingOnLemmas.{HasTold, HasMade}
use Rattle.check_core.proofs.going_on.go_on.Given as goal

-- Of whatever logs the runs had taken, they have taken more now: what came was taken by them, the lines that they certify behind those that
-- were counted are written, and their operations added.
abbrev pub invariant-batches : goal.invariant-batches
invariant-batches g l = record {
  logs_now : List (List ℕ) → List (List ℕ);
  told : (logs : List (List ℕ)) → AreChecked (g.D.Digests.functions l.d) l.header logs l.fn.certifier l.fn.runs
      → HasTold (text_by g.D.Digests.functions l.telling) (g.D.Digests.functions l.d) l.header logs (logs_now logs) l.fn.certifier l.certifier l.runs
      (g.O.Sink.held l.fn.out) (g.O.Sink.held l.out);
  folded : (logs : List (List ℕ)) → AreChecked (g.D.Digests.functions l.d) l.header logs l.fn.certifier l.fn.runs
      → HasMade g.F.OperationFold.step (g.F.OperationFold.state l.fn.folded) (g.F.OperationFold.state l.folded)
      (lines_counted operations_told (g.D.Digests.functions l.d) l.header logs l.fn.certifier)
      (lines_counted operations_told (g.D.Digests.functions l.d) l.header (logs_now logs) l.certifier);
  come : (left : Option (List ℕ)) (faults more : ℕ) (logs : List (List ℕ))
      → HasCome left faults more logs l.fn.reader (g.S.Source.left l.fn.source) (g.S.Source.faults l.fn.source)
      → HasCome left faults more (logs_now logs) l.reader (g.S.Source.left l.source) (g.S.Source.faults l.source);
  can : CanCertify l.certifier (map (λ fed. fed.run) l.runs);
  headers : AllByRecursion (λ fed. fed.run.course.machine.header ≡ l.header) l.runs;
  weights : AllByRecursion (λ fed. weight fed.run ≤ l.reader.progress.offset) l.runs;
  few : length l.runs ≤ 64;
  having_read : HasRead (l.reader.taken - l.fn.reader.taken) (g.S.Source.left l.fn.source) (g.S.Source.left l.source);
  rises : l.fn.reader.taken ≤ l.reader.taken;
  read_faults : g.S.Source.faults l.fn.source ≤ g.S.Source.faults l.source;
  known : l.reader.progress.header ≡ Some l.header;
  due : IsDue l.reader.progress;
  limit : l.reader.limit ≡ l.fn.reader.limit;
  within : l.reader.taken ≤ l.reader.limit;
  split : position l.reader.progress ≤ l.reader.taken;
  faults : g.O.Sink.faults l.fn.out ≤ g.O.Sink.faults l.out;
}

-- how many bytes may still come
abbrev pub decreases-batches : goal.decreases-batches
decreases-batches g l = l.reader.limit - l.reader.progress.offset
