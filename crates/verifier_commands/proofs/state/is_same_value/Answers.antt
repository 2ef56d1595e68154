use Rattle.record_text.proofs.SameTestLaws.{tells_same_value}
use Rattle.verifier_commands.proofs.state.is_same_value.Goals as goal

pub returns : goal.returns
returns c = record { value = tells_same_value _ _ _ c.is_same.ensures.same; same = c.is_same.ensures.same.0 }
