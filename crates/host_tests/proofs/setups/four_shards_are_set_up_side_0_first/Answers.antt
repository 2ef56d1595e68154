use Rattle.std.proofs.Common.{refl, arith}
use Rattle.host_tests.proofs.setups.four_shards_are_set_up_side_0_first.Goals as goal

pub setup-requires : goal.setup-requires
setup-requires g c = record { shards = record { bits = 2; some = omega arith; most = omega arith; power = refl } }
