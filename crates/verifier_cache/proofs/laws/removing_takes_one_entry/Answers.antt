use Rattle.tree_keys.proofs.PathLaws.{same_path-apart}
use Rattle.verifier_cache.proofs.EntriesLaws.{entry_of-without, entry_of-without_other, length-without_there, AreDistinct-without}
use Rattle.verifier_cache.proofs.laws.removing_takes_one_entry.Goals as goal

pub returns : goal.returns
returns c = record {
  gone = entry_of-without;
  others = λ j k xs apart. entry_of-without_other j k xs (same_path-apart j k apart);
  len = length-without_there;
  distinct = AreDistinct-without;
}
