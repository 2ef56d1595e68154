use Rattle.seals.proofs.SealLaws.{one_seal, one_tag}
use Rattle.seals.proofs.laws.bytes_begin_with_one_seal.Goals as goal

pub returns : goal.returns
returns c = record {
  state = λ functions bytes state other count size whole again. (one_seal functions bytes state other count size whole again).0;
  count = λ functions bytes state other count size whole again. (one_seal functions bytes state other count size whole again).1;
  tag = one_tag;
}
