use Rattle.std.proofs.Common.{refl}
use Rattle.tree_keys.specs.Bits as bits
use Rattle.host_world.proofs.laws.clocks_end_as_worked_out.Goals as goal

pub returns : goal.returns
unfolding bits.number_of bits.bits_of
returns c = record { request = λ functions script. refl; close = λ functions script. refl; epoch = λ functions script. refl }
