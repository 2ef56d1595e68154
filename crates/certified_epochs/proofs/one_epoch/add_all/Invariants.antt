use Rattle.std.proofs.Common.{◌≡◌, take}
use Rattle.std.specs.List.{fold}
use Rattle.certified_epochs.proofs.one_epoch.add_all.Given as goal

-- the operations so far are added
abbrev pub invariant-loop-operation : goal.invariant-loop-operation
invariant-loop-operation g l =
    g.T.OperationFold.state l.folded ≡ fold g.T.OperationFold.step (g.T.OperationFold.state l.fn.folded) (take l.operation-index l.operations)
