use Rattle.std.proofs.Common.{◌≡◌, ◌≤◌, List, ◌++◌, length}
use Rattle.std.specs.List.{fold}
use Rattle.record_text.specs.declared.operation.Operation.{Operation}
use Rattle.report_text.specs.Page.{Passes}
use Rattle.certified_epochs.specs.Pieces.{lines_of}
use Rattle.certified_epochs.proofs.one_epoch.tell_groups.Given as goal

-- some operations were told, with those that are left they are all; and the count of faults hasn't fallen
abbrev pub invariant-groups : goal.invariant-groups
invariant-groups g l = record {
  told : List Operation;
  all : told ++ l.operations ≡ l.fn.operations;
  passes : Passes (g.O.Sink.held l.fn.out) l.fn.page (lines_of g.D.Digests.functions l.telling told) (g.O.Sink.held l.out) l.page;
  folded : g.T.OperationFold.state l.folded ≡ fold g.T.OperationFold.step (g.T.OperationFold.state l.fn.folded) told;
  faults : g.O.Sink.faults l.fn.out ≤ g.O.Sink.faults l.out;
}

abbrev pub decreases-groups : goal.decreases-groups
decreases-groups g l = length l.operations
