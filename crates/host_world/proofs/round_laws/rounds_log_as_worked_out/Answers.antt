use Rattle.std.proofs.Common.{refl}
use Rattle.tree_keys.specs.Bits as bits
use Rattle.host_world.proofs.round_laws.rounds_log_as_worked_out.Goals as goal

pub returns : goal.returns
unfolding bits.number_of bits.bits_of
returns c = record {
  two_epochs = λ functions. refl;
  unasked = λ functions. refl;
  three_workers = λ functions. refl;
  no_line = λ functions. refl;
  one_line = λ functions. refl;
  above = λ functions. refl;
  beside = λ functions. refl;
  last_epoch = λ functions. refl;
  past_last = λ functions. refl;
  ending_scan = λ functions. refl;
  between = λ functions. refl;
  before = λ functions. refl;
  behind = λ functions. refl;
}
