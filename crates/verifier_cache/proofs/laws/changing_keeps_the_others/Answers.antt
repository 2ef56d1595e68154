use Rattle.tree_keys.proofs.PathLaws.{same_path-apart}
use Rattle.verifier_cache.proofs.EntriesLaws.{entry_of-changed, entry_of-changed_other, length-changed, AreDistinct-changed, changed-replaced}
use Rattle.verifier_cache.proofs.laws.changing_keeps_the_others.Goals as goal

pub returns : goal.returns
returns c = record {
  found = entry_of-changed;
  others = λ j k f xs keeps apart. entry_of-changed_other j k f xs keeps (same_path-apart j k apart);
  len = length-changed;
  distinct = AreDistinct-changed;
  replaced = changed-replaced;
}
