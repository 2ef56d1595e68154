use Rattle.std.proofs.Common.{refl}
use Rattle.tree_keys.specs.Bits as bits
use Rattle.host_world.proofs.round_laws.clocks_end_in_rounds_as_worked_out.Goals as goal

pub returns : goal.returns
unfolding bits.number_of bits.bits_of
returns c = record { close = λ functions. refl; stop = λ functions. refl; scan = λ functions. refl }
