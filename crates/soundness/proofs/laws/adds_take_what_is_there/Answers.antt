use Rattle.soundness.proofs.SpotLemmas.{takes_next}
use Rattle.soundness.proofs.laws.adds_take_what_is_there.Goals as goal

pub returns : goal.returns
returns c = record {
  takes = λ functions header histories last front event back. takes_next functions header histories last front event back;
}
