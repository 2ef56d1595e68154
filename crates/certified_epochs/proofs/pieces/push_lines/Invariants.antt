use Rattle.std.proofs.Common.{◌≡◌, ◌++◌, take}
use Rattle.certified_epochs.specs.Pieces.{lines_of}
use Rattle.certified_epochs.proofs.pieces.push_lines.Given as goal

-- the lines of the operations so far are there
abbrev pub invariant-loop-operation : goal.invariant-loop-operation
invariant-loop-operation g l =
    l.text.items ≡ l.fn.text.items ++ lines_of g.D.Digests.functions l.telling (take l.operation-index l.operations)
