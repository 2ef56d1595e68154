use Rattle.verifier_cache.proofs.AlikeLaws.{AreDistinct-from_rises}
use Rattle.verifier_cache.proofs.laws.rising_paths_are_distinct.Goals as goal

pub returns : goal.returns
returns c = record { distinct = AreDistinct-from_rises }
