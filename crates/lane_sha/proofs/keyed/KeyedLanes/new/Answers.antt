use Rattle.std.proofs.Common.{[]}
use Rattle.lane_sha.proofs.keyed.KeyedLanes.new.Goals as goal

pub invariant_of-result : goal.invariant_of-result
invariant_of-result c =
    let start = c.new-start.ensures.behind in (
      rw c.masked.ensures.value at (c.after.ensures.behind [] start),
      rw c.masked-2.ensures.value at (c.after-2.ensures.behind [] start),
    )
