use Rattle.std.proofs.Common.{rules, ◌∙◌, ap}
use Rattle.std.proofs.lemmas.Map.Made.{map_same_pairs}
use Rattle.host_shard.specs.Records.{record_at}
use Rattle.host_shard.proofs.ForgetLemmas.{forgotten, record_at-forgotten}
use Rattle.host_shard.proofs.changing.forget_all.Goals as goal

pub returns : goal.returns
returns c = record {
  forgotten = ap record_at
      (map_same_pairs _ forgotten _ (λ k v b w f' t. search rules) c.args.map.now.entries c.retain.new.self.entries c.retain.ensures.filtered)
      ∙ record_at-forgotten c.args.map.now.entries;
}
