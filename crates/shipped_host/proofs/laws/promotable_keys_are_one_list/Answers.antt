use Rattle.shipped_host.proofs.PromotableLemmas.{are_promotable, promotable_is}
use Rattle.shipped_host.proofs.laws.promotable_keys_are_one_list.Goals as goal

pub returns : goal.returns
returns c = record { there = are_promotable; only = promotable_is }
