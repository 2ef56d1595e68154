use Rattle.seals.proofs.RunLaws.{keeps_on-run}
use Rattle.seals.proofs.SealLaws.{keeps_on-seal, whole_more, untagged_more}
use Rattle.seals.proofs.laws.seals_keep_on.Goals as goal

pub returns : goal.returns
returns c = record { seals = keeps_on-seal; runs = keeps_on-run; whole = whole_more; untagged = untagged_more }
