use Rattle.std.proofs.Common.{◌∙◌, ◌++◌, List, ℕ, ap}
use Rattle.seals.proofs.WriteLemmas.{both_joined}
use Rattle.seals.proofs.runs.write_operations.Goals as goal

pub returns : goal.returns
returns c = record {
  text = both_joined c.args.text.now.items _ _ _ _
      (c.in_ok-extend_from_slice.ensures.items ∙ ap (λ (t : List ℕ). c.args.text.now.items ++ t) c.to_be_bytes.ensures)
      c.in_ok-write_row.ensures.text;
}
