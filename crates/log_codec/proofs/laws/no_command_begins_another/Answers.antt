use Rattle.log_codec.proofs.GrammarLaws.{one_of}
use Rattle.log_codec.proofs.LogCommandLaws.{log_grammar, log_exact}
use Rattle.log_codec.proofs.laws.no_command_begins_another.Goals as goal

pub returns : goal.returns
returns c = record { one = λ format. one_of (log_grammar format) (log_exact format) }
