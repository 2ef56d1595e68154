use Rattle.std.proofs.Common.{◌<◌}
use Rattle.arrayvec.specs.ArrayVec.{array_vec_len}
use Rattle.command_window.specs.Window.{GoesOn}
use Rattle.command_window.proofs.hashing.hash_group.Given as goal

-- more is known of the texts, and there is room for a place
abbrev pub invariant-loop-place : goal.invariant-loop-place
invariant-loop-place g l = record {
  goes_on : GoesOn (g.D.Digests.functions l.d) l.initial.asked l.asked;
  room : array_vec_len l.places < 8;
}
