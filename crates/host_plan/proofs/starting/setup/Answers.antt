use Rattle.std.proofs.Common.{ℕ, Bool, ◌<◌, ◌≤◌, sym, ap, subst, ◌∙◌}
use Rattle.record_text.specs.Tree.{wide_of}
use Rattle.host_plan.specs.Setup.{setup_commands, setup_contents}
use Rattle.host_plan.proofs.SetupLemmas.{exponent}
use Rattle.host_plan.proofs.starting.setup.Goals as goal

pub all_set_up-requires-clause-some : goal.all_set_up-requires-clause-some
all_set_up-requires-clause-some c =
    subst (λ (n : ℕ). 0 < n) (sym (exponent c.args.shards c.ilog2-bits.result c.requires.shards.bits c.requires.shards.power c.ilog2-bits.ensures.power_le c.ilog2-bits.ensures.next_power_gt)) c.requires.shards.some

pub all_set_up-requires-clause-few : goal.all_set_up-requires-clause-few
all_set_up-requires-clause-few c =
    subst (λ (n : ℕ). n ≤ 10) (sym (exponent c.args.shards c.ilog2-bits.result c.requires.shards.bits c.requires.shards.power c.ilog2-bits.ensures.power_le c.ilog2-bits.ensures.next_power_gt)) c.requires.shards.most

pub returns-clause-commands : goal.returns-clause-commands
returns-clause-commands c bits is =
    c.in_ok-all_set_up.ensures.commands
    ∙ ap (λ (wide : Bool). setup_commands wide c.args.header.now.first c.ilog2-bits.result) c.wide_of.ensures.value
    ∙ ap (λ (n : ℕ). setup_commands (wide_of c.args.header.now) c.args.header.now.first n) (exponent c.args.shards c.ilog2-bits.result bits is c.ilog2-bits.ensures.power_le c.ilog2-bits.ensures.next_power_gt)

pub returns-clause-contents : goal.returns-clause-contents
returns-clause-contents c bits is =
    c.in_ok-all_set_up.ensures.contents
    ∙ ap (λ (wide : Bool). setup_contents wide c.args.header.now.first c.ilog2-bits.result) c.wide_of.ensures.value
    ∙ ap (λ (n : ℕ). setup_contents (wide_of c.args.header.now) c.args.header.now.first n) (exponent c.args.shards c.ilog2-bits.result bits is c.ilog2-bits.ensures.power_le c.ilog2-bits.ensures.next_power_gt)
