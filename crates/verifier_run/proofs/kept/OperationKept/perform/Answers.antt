use Rattle.merkle_records.specs.Scheme.{scheme_of}
use Rattle.verifier_commands.proofs.TraceLaws.{was_refused}
use Rattle.verifier_run.proofs.PerformLemmas.{answer_yields}
use Rattle.verifier_run.proofs.kept.OperationKept.perform.Goals as goal

pub returns-in-Ok-clause-yields : goal.returns-in-Ok-clause-yields
returns-in-Ok-clause-yields g c =
    answer_yields (scheme_of (g.D.Digests.functions c.args.d.now) c.args.verifier.now.header) c.args.verifier.now c.args.command.now
    c.in-Ok.effect c.step_any.new.self c.args.store.now.items c.keep_operation.new.queue.items c.keep_operation.result
    c.in-Ok.ensures.follows c.keep_operation.ensures.items c.keep_operation.ensures.part

pub returns-in-Err-clause-refused : goal.returns-in-Err-clause-refused
returns-in-Err-clause-refused g c = (
  was_refused (scheme_of (g.D.Digests.functions c.args.d.now) c.args.verifier.now.header) c.args.verifier.now c.args.command.now c.in-Err.refusal c.in-Err.ensures.follows.0,
  c.in-Err.ensures.follows.1,
)
