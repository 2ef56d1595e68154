use Rattle.program_words.proofs.WordsLemmas.{local_with}
use Rattle.program_words.proofs.command_line.with_flag.Goals as goal

pub returns-clause-local : goal.returns-clause-local
returns-clause-local c = local_with c.arg.result c.args.command c.flag.result c.flag.ensures.local c.arg.ensures
