use Rattle.rewriting_laws.proofs.RewritingLaws.{log_rests}
use Rattle.rewriting_laws.proofs.laws.a_log_that_leaves_as_many_entries_comes_to_rest.Goals as goal

pub returns : goal.returns
returns c = record { rests = λ scheme header number commands last is kinds leads few. log_rests scheme header number commands is kinds last leads few }
