use Rattle.std.proofs.Common.{◌-◌, ◌<◌}
use Rattle.arrayvec.specs.ArrayVec.{array_vec_len}
use Rattle.command_window.proofs.hashing.fill_up.Given as goal

-- some are there
abbrev pub invariant-loop-places : goal.invariant-loop-places
invariant-loop-places l = 0 < array_vec_len l.places

abbrev pub decreases-loop-places : goal.decreases-loop-places
decreases-loop-places l = 8 - array_vec_len l.places
