use Rattle.soundness.proofs.SpotLemmas.{absent_behind, absent_spots}
use Rattle.soundness.proofs.laws.absent_keys_have_no_value.Goals as goal

pub returns : goal.returns
returns c = record {
  of_spots = λ digest header events spots. absent_behind digest header events spots;
  absent = λ functions header histories last front back. absent_spots functions header histories last front back;
}
