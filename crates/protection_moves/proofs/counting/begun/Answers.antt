use Rattle.std.proofs.Common.{ℕ, ◌<◌, ◌≤◌, IfSome, IfNone, ◌∙◌, ap, subst}
use Rattle.lamport_clocks.specs.Reading.{Reading}
use Rattle.lamport_clocks.specs.Clock.{is_open}
use Rattle.host_plan.specs.Moments.{taking}
use Rattle.protection_moves.specs.Renewing.{renewing_each}
use Rattle.protection_moves.proofs.RenewingLaws.{renewing_each-open, renewing_each-end}
use Rattle.protection_moves.proofs.counting.begun.Goals as goal

pub taken-requires : goal.taken-requires
taken-requires c = record {
  «open» = ap (λ (clock : Reading). is_open clock c.args.stamp.epoch) c.in-Some.ensures.renewed
      ∙ renewing_each-open c.args.clock.now c.args.records.now c.args.stamp.epoch
      ∙ c.requires.open;
}

pub returns-in-Some-clause-within : goal.returns-in-Some-clause-within
returns-in-Some-clause-within c =
    subst (λ (end : ℕ). IfSome c.taken.result (λ later. later.at.counter ≤ end))
    (ap (λ (clock : Reading). clock.end) c.in-Some.ensures.renewed ∙ renewing_each-end c.args.clock.now c.args.records.now) c.taken.ensures.within

pub returns-in-Some-clause-past : goal.returns-in-Some-clause-past
returns-in-Some-clause-past c =
    subst (λ (end : ℕ). IfNone c.taken.result (end < (taking (renewing_each c.args.clock.now c.args.records.now) c.args.stamp).at.counter))
    (renewing_each-end c.args.clock.now c.args.records.now)
    (subst (λ (clock : Reading). IfNone c.taken.result (clock.end < (taking clock c.args.stamp).at.counter)) c.in-Some.ensures.renewed c.taken.ensures.past)
