use Rattle.host_fits.proofs.Keeping.{setting_of}
use Rattle.host_fits.proofs.StoringLemmas.{answered_in, certified_in}
use Rattle.host_fits.proofs.laws.the_contents_hold_the_plain_map.Goals as goal

pub returns : goal.returns
returns c = record {
  answered = λ functions settings script. answered_in (setting_of functions settings script);
  certified = λ functions settings script. certified_in (setting_of functions settings script);
}
