use Rattle.std.proofs.Common.{◌∙◌, ap}
use Rattle.host_world.proofs.BegunLaws.{begun-none}
use Rattle.host_world.proofs.world.World.lend_workers.Goals as goal

pub invariant_of-self : goal.invariant_of-self
invariant_of-self g c =
    record { begun = begun-none c.args.self.now.settings.header c.replace.new.dest.items (ap (λ workers. workers.items) c.replace.ensures.after ∙ c.new.ensures.items) }
