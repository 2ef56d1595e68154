use Rattle.std.proofs.Common.{[], sym, subst, ap, ◌∙◌}
use Rattle.record_text.specs.declared.value.Value.{Value}
use Rattle.record_text.specs.Longest.{longest_blob}
use Rattle.host_shard.specs.Records.{Listed, values_of, touches_of}
use Rattle.host_shard.specs.Shard.{Shard}
use Rattle.host_shard.specs.Mirrors.{IsShard}
use Rattle.host_shard.proofs.ShardLaws.{new_is}
use Rattle.host_shard.proofs.shard.Shard.new.Goals as goal

-- what is made, with these records and this value
made : (c : goal.After-new) → Listed → Value → Shard
made c listed value = record {
  frontier = c.args.frontier;
  value = value;
  records = values_of listed;
  stamp = c.args.stamp;
  evictor = c.args.evictor;
  touches = touches_of listed;
}

pub returns-clause-fits : goal.returns-clause-fits
unfolding made
returns-clause-fits c some short =
    subst (IsShard longest_blob) (sym (ap (λ (listed : Listed). made c listed c.initial.result) c.new.ensures.empty ∙ ap (made c []) c.initial.ensures.value))
    (new_is longest_blob c.args.frontier c.args.stamp c.args.evictor some short)
