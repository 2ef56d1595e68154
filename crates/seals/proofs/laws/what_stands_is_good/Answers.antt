use Rattle.seals.proofs.StandingLaws.{stood_is_good}
use Rattle.seals.proofs.laws.what_stands_is_good.Goals as goal

pub returns : goal.returns
returns c = record { run = stood_is_good }
