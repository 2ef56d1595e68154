use Rattle.std.proofs.Common.{◌≡◌, ℕ, List, Bool, None, IsSome, subst, ap, ◌∙◌}
use Rattle.record_text.specs.declared.value.Value.TheVariants as values
use Rattle.host_shard.specs.Records.{values_of, touches_of}
use Rattle.host_shard.specs.Shard.{Shard}
use Rattle.host_shard.specs.Shown.{shown}
use Rattle.host_shard.specs.Tree.{Tree}
use Rattle.host_shard.specs.Content.{hot_path}
use Rattle.protection_moves.specs.Saving.{with_value}
use Rattle.protection_moves.proofs.SavingLemmas.{taken_away}
use Rattle.protection_moves.proofs.demoting.take_away.Goals as goal

pub returns : goal.returns
returns c = record {
  as_before = λ old is was quiet.
      let now : Shard = shown c.args.shard.now in
      let path : List Bool = hot_path c.args.found.now in
      let same = c.path.ensures.path in
      ap (λ (t : Tree). record now { records = t; touches = touches_of c.restore_one.new.records })
      (taken_away old.records now.records (values_of c.restore_one.new.records) path (values.Blob c.args.found.now.value) c.args.was.now
      (ap (λ (s : Shard). s.records) is) was
      (subst (λ (p : List Bool). (IsSome c.args.was.now → IsSome (now.records p)) → values_of c.restore_one.new.records ≡ with_value now.records p c.args.was.now) same
      c.restore_one.ensures.values))
      ∙ ap (λ (touches : List Bool → ℕ). record now { records = old.records; touches = touches })
      (subst (λ (p : List Bool). (c.args.was.now ≡ None → now.touches p ≡ 0) → touches_of c.restore_one.new.records ≡ now.touches) same c.restore_one.ensures.touches
      (λ none. ap (λ (s : Shard). s.touches path) is ∙ quiet none))
      ∙ ap (λ (s : Shard). record s { records = old.records }) is;
}
