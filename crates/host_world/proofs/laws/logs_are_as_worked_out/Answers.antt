use Rattle.std.proofs.Common.{refl}
use Rattle.tree_keys.specs.Bits as bits
use Rattle.host_world.proofs.laws.logs_are_as_worked_out.Goals as goal

pub returns : goal.returns
unfolding bits.number_of bits.bits_of
returns c = record {
  empty = λ functions. refl;
  five = λ functions script. refl;
  stopped = λ functions script. refl;
  between = λ functions script. refl;
  before = λ functions script. refl;
  behind = λ functions script. refl;
  apart = λ functions script. refl;
  deleted = λ functions script. refl;
  parted = λ functions script. refl;
  four = λ functions script. refl;
}
