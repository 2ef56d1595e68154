use Rattle.host_laws.proofs.FirstLaws.{contents_mirror}
use Rattle.host_laws.proofs.mirror_laws.new_shards_mirror.Goals as goal

pub returns : goal.returns
returns c = record { mirror = contents_mirror }
