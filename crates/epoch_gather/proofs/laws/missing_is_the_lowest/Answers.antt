use Rattle.epoch_gather.proofs.VerdictLaws.{lowest_missing-is}
use Rattle.epoch_gather.proofs.laws.missing_is_the_lowest.Goals as goal

pub returns : goal.returns
returns c = record { lowest = lowest_missing-is }
