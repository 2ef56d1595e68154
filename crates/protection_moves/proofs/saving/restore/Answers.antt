use Rattle.std.proofs.Common.{ℕ, List, Bool, subst, sym, ap, ◌∙◌}
use Rattle.record_text.specs.declared.value.Value.{Value}
use Rattle.host_shard.specs.Records.{values_of, touches_of}
use Rattle.host_shard.specs.Shown.{shown}
use Rattle.host_shard.specs.Shard.{Shard}
use Rattle.host_shard.specs.Tree.{Tree}
use Rattle.protection_moves.specs.declared.saving.SavedRecord.{SavedRecord}
use Rattle.protection_moves.specs.Saving.{CanRestore}
use Rattle.protection_moves.proofs.saving.restore.Goals as goal

pub returns : goal.returns
returns c = record {
  restored = λ was is.
      let now : Shard = shown c.args.shard.now in
      let done = c.restore_each.ensures.restored was.records
      (subst (λ (saved : List SavedRecord). CanRestore was.records now.touches saved now.records) (sym c.as_slice.ensures.value) is.records) in
      ap (λ (value : Value). record now { value = value; records = values_of c.restore_each.new.records; touches = touches_of c.restore_each.new.records }) (c.copy-shard.ensures.value ∙ is.value)
      ∙ ap (λ (tree : Tree). record now { value = was.value; records = tree; touches = touches_of c.restore_each.new.records }) done.0
      ∙ ap (λ (touches : List Bool → ℕ). record now { value = was.value; records = was.records; touches = touches }) done.1
      ∙ is.others;
}
