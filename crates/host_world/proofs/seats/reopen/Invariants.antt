use Rattle.std.proofs.Common.{◌≡◌, ◌++◌, map, take, drop}
use Rattle.host_world.proofs.WorldLemmas.{reopened}
use Rattle.host_world.proofs.seats.reopen.Given as goal

-- the seats so far are not moved, and the others are as they were
abbrev pub invariant-loop-seats : goal.invariant-loop-seats
invariant-loop-seats l = l.shards ≡ map reopened (take l.seats-index l.fn.shards) ++ drop l.seats-index l.fn.shards
