use Rattle.record_text.proofs.ValueTextLaws.{initial_value-kind}
use Rattle.record_text.proofs.laws.initial_values_are_of_their_paths.Goals as goal

pub returns : goal.returns
returns c = record { kind = initial_value-kind }
