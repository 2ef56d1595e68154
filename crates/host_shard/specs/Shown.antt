-- What a shard and a content of the code show.
use Rattle.host_shard.specs.declared.shard.Shard as code
use Rattle.host_shard.specs.declared.content.Content as place
use Rattle.host_shard.specs.declared.content.Content.TheVariants as places
use Rattle.host_shard.specs.Shard.{Shard}
use Rattle.host_shard.specs.Content.{Content, cold, hot, vacant}
use Rattle.host_shard.specs.Records.{values_of, touches_of}

-- the shard, with its records as functions of their paths
abbrev pub shown : code.Shard → Shard
shown shard = record {
  frontier = shard.frontier;
  value = shard.value;
  records = values_of shard.records;
  stamp = shard.stamp;
  evictor = shard.evictor;
  touches = touches_of shard.records;
}

-- the content, with its shard so
abbrev pub shown_content : place.Content → Content
shown_content (places.Cold shard) = cold (shown shard)
shown_content (places.Hot record') = hot record'
shown_content places.Vacant = vacant
