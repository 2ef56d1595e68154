use Rattle.script_text.proofs.KeysLemmas.{key-own}
use Rattle.script_text.proofs.laws.keys_are_of_one_worker.Goals as goal

pub returns : goal.returns
returns c = record { own = key-own }
