use Rattle.load_summary.proofs.TallyLemmas.{tally_of-append, each_once}
use Rattle.load_summary.proofs.CountingLaws.{fold-counted}
use Rattle.load_summary.proofs.laws.tallies_add_up.Goals as goal

pub returns : goal.returns
returns c = record { sums = tally_of-append; once = each_once; counted = fold-counted }
