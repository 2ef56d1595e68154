-- Contents that requests are served on.
use Rattle.record_text.specs.Longest.{longest_blob}
use Rattle.host_shard.specs.Content.{Content, cold, hot, vacant}
use Rattle.host_shard.specs.Mirrors.{IsShard}

-- the content is a shard, or a hot record of some key, or nothing
abbrev pub IsFit : Content → Type 0
IsFit (cold shard) = IsShard longest_blob shard
IsFit (hot found) = Unit {0}
IsFit vacant = Unit {0}
