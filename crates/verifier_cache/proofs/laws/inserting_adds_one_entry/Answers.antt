use Rattle.verifier_cache.proofs.EntriesLaws.{entry_of-append, AreDistinct-append}
use Rattle.verifier_cache.proofs.laws.inserting_adds_one_entry.Goals as goal

pub returns : goal.returns
returns c = record { found = entry_of-append; distinct = AreDistinct-append }
