use Rattle.log_codec.proofs.LogCommandLaws.{command_begins, command_again}
use Rattle.log_codec.proofs.LogLaws.{AreBytes-from_all}
use Rattle.log_codec.proofs.laws.commands_are_read_as_spelled.Goals as goal

pub returns : goal.returns
returns c = record {
  spelled = λ format bytes command rest fits read.
      let begins = command_begins format bytes command rest (AreBytes-from_all bytes fits) read in
      (begins.0.parts, begins.1);
  read = command_again;
}
