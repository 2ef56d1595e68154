use Rattle.std.proofs.Common.{ℕ, List, Option, ap, sym, ◌∙◌}
use Rattle.record_text.specs.declared.value.Value.{Value}
use Rattle.record_text.specs.declared.value.Value.TheVariants as values
use Rattle.record_text.specs.Same.{same_value}
use Rattle.verifier_commands.proofs.SlotLemmas.{tells_same_blob}
use Rattle.verifier_commands.proofs.slot_records.is_blob.Goals as goal

pub returns-in-Blob : goal.returns-in-Blob
returns-in-Blob c = record {
  value = tells_same_blob _ _ _ c.is_same.ensures.same ∙ ap (λ (v : Value). same_value v (values.Blob c.args.blob.now)) (sym c.in-Blob.is);
  same = λ is. c.in-Blob.is ∙ ap (λ (x : Option (List ℕ)). values.Blob x) (c.is_same.ensures.same.0 is);
}
