use Rattle.seals.proofs.RowLaws.{IsSoFar}
use Rattle.seals.proofs.item.read_row.Given as goal

-- what is read of the row so far
abbrev pub invariant-items : goal.invariant-items
invariant-items g l = IsSoFar (g.T.Item.may_follow l.bounds) (g.T.Item.read_as l.bounds) l.count l.initial.reader l.items.items l.counter l.reader
