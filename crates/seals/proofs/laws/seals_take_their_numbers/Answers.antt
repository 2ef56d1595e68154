use Rattle.seals.proofs.NumberLaws.{seal_numbered}
use Rattle.seals.proofs.laws.seals_take_their_numbers.Goals as goal

pub returns : goal.returns
returns c = record {
  number = seal_numbered;
  good = λ seal number good small.
      record { counter = small; taken = good.taken; header = good.header; first = good.first; certified = good.certified; verifiers = good.verifiers; runs = good.runs };
}
