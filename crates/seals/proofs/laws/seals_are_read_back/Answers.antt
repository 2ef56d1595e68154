use Rattle.seals.proofs.HeaderLaws.{all_bytes_fit}
use Rattle.seals.proofs.SealLaws.{seal_back, seal_spelled, seal_cut, seal_written}
use Rattle.seals.proofs.laws.seals_are_read_back.Goals as goal

pub returns : goal.returns
returns c = record {
  read = seal_back;
  spelled = λ bytes seal tag rest fits is. seal_spelled bytes seal tag rest (all_bytes_fit bytes fits) is;
  cut = seal_cut;
  written = seal_written;
}
