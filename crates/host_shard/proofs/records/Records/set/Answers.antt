use Rattle.host_shard.specs.Records.{record_at}
use Rattle.host_shard.proofs.TouchedLemmas.{noted_kept, same_touches}
use Rattle.host_shard.proofs.records.Records.set.Goals as goal

pub invariant_of-self : goal.invariant_of-self
invariant_of-self c =
    noted_kept c.self.inside.touched c.self.inside.map.entries c.set_at.new.map.entries c.args.path.now _ c.self.invariant c.set_at.ensures.set
    (same_touches (record_at c.self.inside.map.entries c.args.path.now) c.args.value)
