use Rattle.std.proofs.Common.{◌∙◌, ap}
use Rattle.host_shard.specs.Records.{Listed, record_at, untouched}
use Rattle.host_shard.proofs.TouchedLemmas.{noted_none}
use Rattle.host_shard.proofs.records.Records.forget_touches.Goals as goal

pub forget_touches-requires : goal.forget_touches-requires
forget_touches-requires c = record { all = c.all.ensures.all c.self.inside.map.entries c.self.invariant }

pub invariant_of-self : goal.invariant_of-self
invariant_of-self c =
    noted_none c.clear.new.self c.forget_touches.new.map.entries (record_at c.self.inside.map.entries) c.forget_touches.ensures.forgotten

pub returns : goal.returns
returns c = record {
  forgotten = c.forget_touches.ensures.forgotten ∙ ap (λ (listed : Listed). untouched (record_at listed)) c.self.view_is;
}
