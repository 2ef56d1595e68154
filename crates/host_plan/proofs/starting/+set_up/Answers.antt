use Rattle.std.proofs.Common.{map}
use Rattle.host_shard.specs.Shown.{shown_content}
use Rattle.host_plan.proofs.SetupLemmas.{visited, come}
use Rattle.host_plan.proofs.starting.+set_up.Goals as goal

pub returns-clause-commands : goal.returns-clause-commands
returns-clause-commands t c =
    visited c.args.first c.args.levels c.args.path.now c.args.parent.now c.child.result c.child-2.result c.initial.result
    c.args.commands.now.items c.push.new.self.items c.set_up.new.commands.items c.set_up-2.new.commands.items c.push-2.new.self.items
    c.if-levels-eq0.false c.initial.ensures.value c.child.ensures.appended c.child-2.ensures.appended
    c.in_ok-push.ensures.items c.in_ok-set_up.ensures.commands c.in_ok-set_up-2.ensures.commands c.in_ok-push-4.ensures.items

pub returns-clause-contents : goal.returns-clause-contents
returns-clause-contents t c =
    come c.args.first c.args.levels c.args.path.now c.child.result c.child-2.result
    (map shown_content c.args.contents.now.items) (map shown_content c.set_up.new.contents.items) (map shown_content c.set_up-2.new.contents.items)
    c.if-levels-eq0.false c.child.ensures.appended c.child-2.ensures.appended c.in_ok-set_up.ensures.contents c.in_ok-set_up-2.ensures.contents
