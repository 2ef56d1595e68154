use Rattle.std.proofs.Common.{◌≡◌, ◌+◌, ◌*◌, ◌++◌, take}
use Rattle.std.specs.List.{flat_map}
use Rattle.std.specs.Int.{w64, to_be_bytes}
use Rattle.arrayvec.specs.ArrayVec.{array_vec_len}
use Rattle.seals.proofs.parts.push_lanes.Given as goal

abbrev pub invariant-loop-lane : goal.invariant-loop-lane
invariant-loop-lane g l = record {
  text : l.items.items ≡ l.initial.items.items ++ flat_map (to_be_bytes w64) (take l.lane-index l.lanes);
  len : array_vec_len l.items ≡ array_vec_len l.initial.items + 8 * l.lane-index;
}
