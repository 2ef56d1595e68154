use Rattle.std.proofs.Common.{◌∙◌, ap}
use Rattle.host_shard.specs.Records.{Listed, record_at}
use Rattle.host_shard.proofs.RecordLemmas.{get_by-record}
use Rattle.host_shard.proofs.records.Records.get.Goals as goal

pub returns : goal.returns
returns c = record {
  value = c.get.ensures.value ∙ get_by-record c.self.inside.map.entries c.args.path.now
      ∙ ap (λ (listed : Listed). record_at listed c.args.path.now) c.self.view_is;
}
