use Rattle.std.proofs.Common.{◌≡◌, sym, subst, arith}
use Rattle.std.proofs.lemmas.Grind.{common_steps}
use Rattle.std.specs.List.{AllByRecursion}
use Rattle.record_text.specs.Longest.{longest_blob}
use Rattle.log_codec.specs.Command.{IsPathCommand}
use Rattle.host_plan.specs.Setup.{setup_commands}
use Rattle.host_plan.proofs.SetupLemmas.{setup_typed}
use Rattle.host_plan.proofs.starting.all_set_up.Goals as goal

pub returns-clause-typed : goal.returns-clause-typed
returns-clause-typed c =
    let commands : c.of.result ≡ setup_commands c.args.wide c.args.first c.args.bits = grind (arith, common_steps) in
    subst (AllByRecursion (IsPathCommand longest_blob)) (sym commands) (setup_typed c.args.wide c.args.first c.args.bits c.ranges.first.fits c.requires.few)
