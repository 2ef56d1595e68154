use Rattle.resumed_runs.proofs.KeptLemmas.{all-certified}
use Rattle.resumed_runs.proofs.kept.seals_can_be_certified.Goals as goal

pub returns : goal.returns
returns c = record {
  certified = λ seal good.
      all-certified seal.header seal.certified seal.taken
      (λ number kept is. c.what_is_kept_can_go_on.ensures.certified seal.header seal.certified seal.taken number kept good.header is) 0 seal.runs good.runs;
}
