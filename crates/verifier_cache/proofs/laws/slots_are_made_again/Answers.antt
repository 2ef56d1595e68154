use Rattle.std.proofs.Common.{length, arith}
use Rattle.verifier_cache.proofs.ListedLemmas.{with_listed-listed, SlotsRise-listed}
use Rattle.verifier_cache.proofs.laws.slots_are_made_again.Goals as goal

pub returns : goal.returns
returns c = record { again = with_listed-listed; rise = λ slots. SlotsRise-listed 0 (length slots) slots (omega arith) }
