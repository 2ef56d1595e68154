use Rattle.soundness.proofs.SpotLemmas.{one_spot}
use Rattle.soundness.proofs.laws.records_have_one_spot.Goals as goal

pub returns : goal.returns
returns c = record {
  spots = λ functions header histories last front back. one_spot functions header histories last front back;
}
