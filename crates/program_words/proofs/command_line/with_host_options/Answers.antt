use Rattle.program_words.proofs.CommandLemmas.{host_options, stays_local}
use Rattle.program_words.proofs.command_line.with_host_options.Goals as goal

pub returns-clause-app : goal.returns-clause-app
returns-clause-app c = host_options c.with_option-6.result c.args.command c.in_ok-host.host c.in_ok-host-2.host c.in_ok-host-3.host c.in_ok-host-4.host c.in_ok-host-5.host
    c.in_ok-host.ensures.app c.in_ok-host-2.ensures.app c.in_ok-host-3.ensures.app c.in_ok-host-4.ensures.app c.in_ok-host-5.ensures.app c.with_option-6.ensures.app

pub returns-clause-local : goal.returns-clause-local
returns-clause-local c = stays_local c.with_option-6.result _ _
    (λ local. c.in_ok-host-5.ensures.local (c.in_ok-host-4.ensures.local (c.in_ok-host-3.ensures.local
    (c.in_ok-host-2.ensures.local (c.in_ok-host.ensures.local local))))) c.with_option-6.ensures.local
