use Rattle.verifier_cache.proofs.EntriesLaws.{entry_of-path}
use Rattle.verifier_cache.proofs.laws.entries_are_found_by_their_paths.Goals as goal

pub returns : goal.returns
returns c = record { path = entry_of-path }
