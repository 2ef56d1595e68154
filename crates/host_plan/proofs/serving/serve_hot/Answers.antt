use Rattle.std.proofs.Common.{◌∷◌, [], subst, sym}
use Rattle.std.specs.List.{AllByRecursion}
use Rattle.record_text.specs.Longest.{longest_blob}
use Rattle.log_codec.specs.Command.{IsPathCommand}
use Rattle.host_plan.proofs.TypedLemmas.{one_typed, between_typed}
use Rattle.host_plan.proofs.serving.serve_hot.Goals as goal

pub returns-clause-typed : goal.returns-clause-typed
returns-clause-typed c =
    subst (AllByRecursion (IsPathCommand longest_blob)) (sym c.in_ok-commands.ensures.commands)
    (between_typed longest_blob c.pending.result c.at.result (c.command_of-command.result ∷ []) c.pending.ensures.kind c.pending.ensures.stamp c.pending.ensures.verifier c.in_ok-commands.ensures.stamp
    (one_typed longest_blob c.command_of-command.result c.command_of-command.ensures.typed))
