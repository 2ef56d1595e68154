use Rattle.std.proofs.Common.{◌≡◌, ℕ, ◌+◌, ◌-◌, ◌≤◌, List, [], length, map, None}
use Rattle.std.specs.List.{fold}
use Rattle.lamport_clocks.specs.declared.header.Header.{Header}
use Rattle.merkle_records.specs.Scheme.{Scheme}
use Rattle.record_text.specs.declared.operation.Operation.{Operation}
use Rattle.report_text.specs.Page.{Passes}
use Rattle.bundle_report.specs.Report.{operations_told}
use Rattle.bundle_report.specs.RunReport.{courses_of}
use Rattle.bundle_report.specs.SoFar.{HaveRead, lines_from}
use Rattle.certified_epochs.specs.Telling.{text_by}
use Rattle.certified_epochs.specs.Turn.{AreFed, CanCertify, parts_left}
use Rattle.certified_epochs.proofs.GoingOnLemmas.{AreBehind}
use Rattle.certified_epochs.proofs.certifier.Certifier.certify.Given as goal

-- so many epochs are certified, their lines are written or wait on the page, and their operations are added
abbrev pub invariant-epochs : goal.invariant-epochs
invariant-epochs g l = record {
  text : List ℕ;
  passes : Passes (g.O.Sink.held l.fn.out) [] text (g.O.Sink.held l.out) l.page;
  even : l.self.unbalanced ≡ None;
  can : CanCertify l.fn.self (map (λ fed. fed.run) l.fn.runs);
  behind : AreBehind (can.first + l.fn.self.count) (l.self.count - l.fn.self.count) (map (λ fed. fed.run) l.fn.runs) (map (λ fed. fed.run) l.runs);
  taken : (scheme : Scheme) (header : Header) (logs : List (List ℕ))
      → HaveRead scheme header logs l.fn.self (map (λ fed. fed.run) l.fn.runs)
      → HaveRead scheme header logs l.self (map (λ fed. fed.run) l.runs);
  lines : (scheme : Scheme) (header : Header) (logs : List (List ℕ))
      → HaveRead scheme header logs l.fn.self (map (λ fed. fed.run) l.fn.runs)
      → text ≡ lines_from (text_by g.D.Digests.functions l.fn.telling) (courses_of scheme header logs) (header.first + l.fn.self.count) (l.self.count - l.fn.self.count);
  operations : List Operation;
  operations_are : (scheme : Scheme) (header : Header) (logs : List (List ℕ))
      → HaveRead scheme header logs l.fn.self (map (λ fed. fed.run) l.fn.runs)
      → operations ≡ lines_from operations_told (courses_of scheme header logs) (header.first + l.fn.self.count) (l.self.count - l.fn.self.count);
  folded : g.T.OperationFold.state l.folded ≡ fold g.T.OperationFold.step (g.T.OperationFold.state l.fn.folded) operations;
  counted : l.fn.self.count ≤ l.self.count;
  fed_before : AreFed l.fn.runs;
  fed : AreFed l.runs;
  few : length l.runs ≤ 64;
  len : length l.runs ≡ length l.fn.runs;
  faults : g.O.Sink.faults l.fn.out ≤ g.O.Sink.faults l.out;
}

abbrev pub decreases-epochs : goal.decreases-epochs
decreases-epochs g l = parts_left l.runs
