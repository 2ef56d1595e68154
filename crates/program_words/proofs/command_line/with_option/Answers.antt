use Rattle.program_words.proofs.WordsLemmas.{local_with}
use Rattle.program_words.proofs.command_line.with_option.Goals as goal

pub returns-clause-local : goal.returns-clause-local
returns-clause-local c = local_with c.arg.result c.args.command c.option.result c.option.ensures.local c.arg.ensures
