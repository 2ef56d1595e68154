use Rattle.program_words.proofs.CommandLemmas.{load_options, local_behind}
use Rattle.program_words.proofs.command_line.gen_command.Goals as goal

pub returns-clause-app : goal.returns-clause-app
returns-clause-app c = load_options c.with_host_options.result c.in_ok-load.load c.in_ok-load-2.load c.in_ok-load-3.load c.in_ok-load-4.load c.in_ok-load-5.load
    c.in_ok-load.ensures.app c.in_ok-load-2.ensures.app c.in_ok-load-3.ensures.app c.in_ok-load-4.ensures.app c.in_ok-load-5.ensures.app
    c.with_host_options.ensures.app

pub returns-clause-local : goal.returns-clause-local
returns-clause-local c = local_behind c.with_host_options.result c.in_ok-load-5.load (c.in_ok-load-5.ensures.local (c.in_ok-load-4.ensures.local
    (c.in_ok-load-3.ensures.local (c.in_ok-load-2.ensures.local c.in_ok-load.ensures.local)))) c.with_host_options.ensures.local
