use Rattle.std.proofs.Common.{refl, ◌∙◌, ap}
use Rattle.merkle_records.specs.Scheme.{scheme_of}
use Rattle.verifier_commands.specs.Trace.{done_with}
use Rattle.verifier_commands.proofs.TraceLaws.{was_performed, was_refused}
use Rattle.verifier_run.specs.Kept.{part_in}
use Rattle.bundle_upgrade.proofs.nothing_kept.NothingKeptKept.perform.Goals as goal

pub returns-in-Ok-clause-yields : goal.returns-in-Ok-clause-yields
returns-in-Ok-clause-yields g c =
    let was = was_performed (scheme_of (g.D.Digests.functions c.args.d.now) c.args.verifier.now.header) c.args.verifier.now c.args.command.now
    c.in-Ok.effect c.step_any.new.self c.in-Ok.ensures.follows in (
      done_with c.args.verifier.now was.change was.state,
      was.step,
      refl,
      c.part_of.ensures.part ∙ ap part_in was.effect_is,
    )

pub returns-in-Err-clause-refused : goal.returns-in-Err-clause-refused
returns-in-Err-clause-refused g c = (
  was_refused (scheme_of (g.D.Digests.functions c.args.d.now) c.args.verifier.now.header) c.args.verifier.now c.args.command.now
      c.in-Err.refusal c.in-Err.ensures.follows.0,
  c.in-Err.ensures.follows.1,
)
