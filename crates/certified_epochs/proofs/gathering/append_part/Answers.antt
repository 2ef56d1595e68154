use Rattle.std.proofs.Common.{rules}
use Rattle.std.proofs.lemmas.Option.{slice_get_past}
use Rattle.certified_epochs.proofs.gathering.append_part.Goals as goal

-- past the last part there is none at this index
pub returns-in_default : goal.returns-in_default
returns-in_default c = search (rules, slice_get_past)
