use Rattle.host_world.proofs.BehindLaws.{behind_promised, behind_stands, shards_there}
use Rattle.host_world.proofs.laws.worlds_are_as_promised.Goals as goal

pub returns : goal.returns
returns c = record {
  promised = λ functions settings script world digests behind. behind_promised functions settings script digests world behind;
  standing = λ functions settings script world digests behind. behind_stands functions settings script digests world behind;
  shards = λ functions settings script world digests behind. shards_there functions settings script digests world behind;
}
