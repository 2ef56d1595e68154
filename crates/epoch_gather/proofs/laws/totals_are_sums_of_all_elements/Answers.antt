use Rattle.epoch_gather.proofs.VerdictLaws.{total-sum_of}
use Rattle.epoch_gather.proofs.laws.totals_are_sums_of_all_elements.Goals as goal

pub returns : goal.returns
returns c = record { total = total-sum_of }
