use Rattle.log_codec.proofs.GrammarLaws.{front_of}
use Rattle.log_codec.proofs.LogCommandLaws.{log_grammar, log_exact, keeps_on-command, command_shorter}
use Rattle.log_codec.proofs.laws.commands_keep_on.Goals as goal

pub returns : goal.returns
returns c = record {
  more = keeps_on-command;
  shorter = command_shorter;
  front = λ format. front_of (log_grammar format) (log_exact format);
}
