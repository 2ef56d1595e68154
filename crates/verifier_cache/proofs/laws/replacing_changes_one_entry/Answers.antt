use Rattle.std.proofs.Common.{refl}
use Rattle.tree_keys.proofs.PathLaws.{same_path-apart}
use Rattle.verifier_cache.proofs.EntriesLaws.{entry_of-replaced, entry_of-changed_other, absent-changed, AreDistinct-changed}
use Rattle.verifier_cache.proofs.laws.replacing_changes_one_entry.Goals as goal

pub returns : goal.returns
returns c = record {
  found = entry_of-replaced;
  others = λ k xs new apart. entry_of-changed_other k new.path (λ old. new) xs (λ old is. refl) (same_path-apart k new.path apart);
  absent = λ k xs new none. absent-changed k new.path (λ old. new) xs (λ old is. refl) none;
  distinct = λ xs new distinct. AreDistinct-changed new.path (λ old. new) xs (λ old is. refl) distinct;
}
