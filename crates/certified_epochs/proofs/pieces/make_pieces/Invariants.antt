use Rattle.std.proofs.Common.{◌-◌, vec_len}
use Rattle.std.specs.Bool.{⊤}
use Rattle.certified_epochs.proofs.pieces.make_pieces.Given as goal

abbrev pub invariant-loop-alloc : goal.invariant-loop-alloc
invariant-loop-alloc l = ⊤

abbrev pub decreases-loop-alloc : goal.decreases-loop-alloc
decreases-loop-alloc l = l.wanted - vec_len l.pieces
