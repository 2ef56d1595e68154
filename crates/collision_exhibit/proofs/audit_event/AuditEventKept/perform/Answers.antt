use Rattle.merkle_records.specs.Scheme.{scheme_of}
use Rattle.verifier_commands.proofs.TraceLaws.{was_refused}
use Rattle.collision_exhibit.proofs.PerformLemmas.{told_yields}
use Rattle.collision_exhibit.proofs.audit_event.AuditEventKept.perform.Goals as goal

pub returns-in-Ok-clause-yields : goal.returns-in-Ok-clause-yields
returns-in-Ok-clause-yields g c =
    told_yields (scheme_of (g.D.Digests.functions c.args.d.now) c.args.verifier.now.header) c.args.verifier.now c.args.command.now
    c.in-Ok.effect c.step_any.new.self c.clock.result c.number-number.result c.accepted-index.result
    c.audit_change_of-change.result c.args.store.now.items c.keep_change.new.queue.items c.part_of.result
    c.in-Ok.ensures.follows c.clock.ensures.value c.number-number.ensures.value c.accepted-index.ensures.value
    c.audit_change_of-change.ensures.value c.keep_change.ensures.items c.part_of.ensures.part

pub returns-in-Err-clause-refused : goal.returns-in-Err-clause-refused
returns-in-Err-clause-refused g c = (
  was_refused (scheme_of (g.D.Digests.functions c.args.d.now) c.args.verifier.now.header) c.args.verifier.now c.args.command.now
      c.in-Err.refusal c.in-Err.ensures.follows.0,
  c.in-Err.ensures.follows.1,
)
