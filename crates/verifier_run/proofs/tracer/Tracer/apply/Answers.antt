use Rattle.std.proofs.Common.{◌++◌, List, ap, ◌∙◌, arith}
use Rattle.std.specs.Option.{option_to_list}
use Rattle.merkle_records.specs.Scheme.{scheme_of}
use Rattle.multiset_sum.specs.declared.part.Part.{Part}
use Rattle.verifier_run.proofs.HandOutLemmas.{kept_in_order}
use Rattle.verifier_run.specs.Course.{Course}
use Rattle.verifier_run.proofs.PerformLemmas.{yields-one}
use Rattle.verifier_run.proofs.tracer.Tracer.apply.Goals as goal

pub invariant_of-self-in-Ok : goal.invariant_of-self-in-Ok
invariant_of-self-in-Ok g c =
    let scheme = scheme_of (g.D.Digests.functions c.args.d.now) c.self.inside.verifier.header in
    kept_in_order g.T.Kept.keeps g.T.Kept.epoch g.met.T.Kept.of_epoch scheme c.self.inside.verifier c.perform.new.verifier
    c.args.command.now c.in-Ok.part (g.T.Kept.held c.self.inside.items) (g.T.Kept.held c.reserve.new.store) (g.T.Kept.held c.perform.new.store)
    c.self.inside.parts.items c.keep.new.into.items c.self.invariant c.in-Ok.ensures.yields
    c.reserve.ensures.items
    (c.keep.ensures.items ∙ ap (λ (kept : List Part). kept ++ option_to_list c.in-Ok.part) c.reserve-2.ensures.items)

pub returns-in-Ok-clause-count : goal.returns-in-Ok-clause-count
returns-in-Ok-clause-count g c =
    let scheme = scheme_of (g.D.Digests.functions c.args.d.now) c.self.inside.verifier.header in
    let one = yields-one g.T.Kept.keeps scheme c.self.inside.verifier c.args.command.now c.perform.new.verifier
    (g.T.Kept.held c.reserve.new.store) (g.T.Kept.held c.perform.new.store) c.in-Ok.part c.in-Ok.ensures.yields in
    omega (arith, one, ap (λ (course : Course g.row.T.Denot). course.machine.accepted) c.self.view_is)
