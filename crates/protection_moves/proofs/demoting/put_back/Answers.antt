use Rattle.std.proofs.Common.{ℕ, List, Bool, Option, refl, ap, ◌∙◌}
use Rattle.record_text.specs.declared.value.Value.TheVariants as values
use Rattle.host_shard.specs.Records.{record_at, touches_of, new_record}
use Rattle.host_shard.specs.Shard.{Shard}
use Rattle.host_shard.specs.Shown.{shown}
use Rattle.host_shard.specs.Tree.{Tree, with_record}
use Rattle.protection_moves.proofs.SavingLemmas.{opened_values, opened_touches}
use Rattle.protection_moves.proofs.demoting.put_back.Goals as goal

pub returns-clause-back : goal.returns-clause-back
returns-clause-back c =
    let old : Shard = shown c.args.shard.now in
    let path : List Bool = c.path-path.result in
    let kept = record_at c.args.shard.now.records in
    ap (λ (t : Tree). record old { records = t; touches = touches_of c.set.new.self })
    (opened_values kept (record_at c.open.new.self) (record_at c.set.new.self) path (new_record path) (values.Blob c.copy.result) c.in_ok-open.ensures.opened c.set.ensures.set)
    ∙ ap (λ (touches : List Bool → ℕ). record old { records = with_record old.records path (values.Blob c.copy.result); touches = touches })
    (opened_touches kept (record_at c.open.new.self) (record_at c.set.new.self) path (new_record path) (values.Blob c.copy.result) refl c.in_ok-open.ensures.opened c.set.ensures.set)
    ∙ ap (λ (blob : Option (List ℕ)). record old { records = with_record old.records path (values.Blob blob) }) c.copy.ensures.value
    ∙ ap (λ (p : List Bool). record old { records = with_record old.records p (values.Blob c.args.found.now.value) }) c.path-path.ensures.path
