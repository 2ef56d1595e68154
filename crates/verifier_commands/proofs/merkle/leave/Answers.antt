use Rattle.std.proofs.Common.{false}
use Rattle.verifier_commands.proofs.CacheLemmas.{there_still}
use Rattle.verifier_commands.proofs.merkle.leave.Goals as goal

pub leave_near-requires : goal.leave_near-requires
leave_near-requires c = record {
  there = there_still c.args.path.now c.args.parent.now c.args.cache.now.entries c.link_near.new.self.entries c.args.link.now.on c.args.link.now.pointer false
      c.requires.parent c.requires.child c.requires.apart c.link_near.ensures.entries;
}
