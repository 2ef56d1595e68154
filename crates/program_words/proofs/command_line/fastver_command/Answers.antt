use Rattle.std.specs.Prelude.{codes}
use Rattle.program_words.proofs.CommandLemmas.{added, added_if_ok}
use Rattle.program_words.specs.CommandLine.{check_app, command_with_key, gen_app, run_app, sign_app}
use Rattle.program_words.proofs.command_line.fastver_command.Goals as goal

pub returns : goal.returns
returns c =
    let check = added c.check_command.result _ _ _ check_app c.in_ok-program.ensures.adds c.check_command.ensures.local c.check_command.ensures.app c.bare_command-program.ensures.app in
    let audit = added c.command_with_key.result _ _ _ (command_with_key (codes "audit")) c.in_ok-program-2.ensures.adds c.command_with_key.ensures.local
    c.command_with_key.ensures.app check in
    let run = added c.run_command.result _ _ _ run_app c.in_ok-program-3.ensures.adds c.run_command.ensures.local c.run_command.ensures.app audit in
    let load = added c.gen_command.result _ _ _ gen_app c.in_ok-program-4.ensures.adds c.gen_command.ensures.local c.gen_command.ensures.app run in
    let accept = added c.command_with_key-2.result _ _ _ (command_with_key (codes "accept")) c.in_ok-program-5.ensures.adds c.command_with_key-2.ensures.local
    c.command_with_key-2.ensures.app load in
    let follow = added c.command_with_key-3.result _ _ _ (command_with_key (codes "follow")) c.in_ok-program-6.ensures.adds c.command_with_key-3.ensures.local
    c.command_with_key-3.ensures.app accept in
    let upgrade = added c.command_with_key-4.result _ _ _ (command_with_key (codes "upgrade")) c.in_ok-program-7.ensures.adds c.command_with_key-4.ensures.local
    c.command_with_key-4.ensures.app follow in
    let resume = added c.command_with_key-5.result _ _ _ (command_with_key (codes "resume")) c.in_ok-program-8.ensures.adds c.command_with_key-5.ensures.local
    c.command_with_key-5.ensures.app upgrade in
    record {
      app = added_if_ok c.with_command-9.result c.sign_command.result _ _ sign_app c.with_command-9.ensures.adds
          c.sign_command.ensures.local c.sign_command.ensures.app resume;
    }
