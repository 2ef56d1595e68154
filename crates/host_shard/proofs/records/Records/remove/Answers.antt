use Rattle.std.proofs.Common.{None, ◌∙◌, ap, arith}
use Rattle.host_shard.specs.Records.{Listed, record_at, with_kept}
use Rattle.host_shard.proofs.RecordLemmas.{updated}
use Rattle.host_shard.proofs.TouchedLemmas.{noted_kept}
use Rattle.host_shard.proofs.records.Records.remove.Goals as goal

pub invariant_of-self : goal.invariant_of-self
invariant_of-self c =
    noted_kept c.self.inside.touched c.self.inside.map.entries c.remove.new.self.entries c.args.path.now None c.self.invariant
    (updated c.self.inside.map.entries c.remove.new.self.entries c.args.path.now None c.remove.ensures.updates.0) (λ some. omega (arith, some))

pub returns : goal.returns
returns c = record {
  removed = updated c.self.inside.map.entries c.remove.new.self.entries c.args.path.now None c.remove.ensures.updates.0
      ∙ ap (λ (listed : Listed). with_kept (record_at listed) c.args.path.now None) c.self.view_is;
}
