use Rattle.soundness.proofs.BehindLemmas.{each_once}
use Rattle.soundness.proofs.laws.caches_hold_each_path_once.Goals as goal

pub returns : goal.returns
returns c = record {
  once = λ functions header logs last front back. each_once functions header logs last front back;
}
