use Rattle.seals.proofs.HeaderLaws.{all_bytes_fit}
use Rattle.seals.proofs.SealLaws.{whole_tagged}
use Rattle.seals.proofs.laws.whole_seals_are_tagged.Goals as goal

pub returns : goal.returns
returns c = record {
  tagged = λ functions bytes state count fits whole. (whole_tagged functions bytes state count (all_bytes_fit bytes fits) whole).0;
  good = λ functions bytes state count fits whole. (whole_tagged functions bytes state count (all_bytes_fit bytes fits) whole).1;
}
