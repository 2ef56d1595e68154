use Rattle.std.proofs.Common.{Some, IsSome, refl, subst, sym, ap, ◌∙◌}
use Rattle.record_text.specs.declared.value.Value.{Value}
use Rattle.host_shard.specs.Records.{record_at, values_of}
use Rattle.protection_moves.specs.Saving.{with_value}
use Rattle.protection_moves.proofs.SavingLemmas.{set_values, set_touches, dropped_values, dropped_touches}
use Rattle.protection_moves.proofs.saving.restore_one.Goals as goal

pub returns-in-Some-clause-values : goal.returns-in-Some-clause-values
returns-in-Some-clause-values c there =
    set_values (record_at c.args.records.now) (record_at c.set.new.self) c.args.path.now c.copy.result c.set.ensures.set
    (there (subst IsSome (sym c.in-Some.is) refl))
    ∙ ap (λ (value : Value). with_value (values_of c.args.records.now) c.args.path.now (Some value)) c.copy.ensures.value
    ∙ ap (with_value (values_of c.args.records.now) c.args.path.now) (sym c.in-Some.is)

pub returns-in-Some-clause-touches : goal.returns-in-Some-clause-touches
returns-in-Some-clause-touches c quiet = set_touches (record_at c.args.records.now) (record_at c.set.new.self) c.args.path.now c.copy.result c.set.ensures.set

pub returns-in-None-clause-values : goal.returns-in-None-clause-values
returns-in-None-clause-values c there =
    dropped_values (record_at c.args.records.now) (record_at c.remove.new.self) c.args.path.now c.remove.ensures.removed
    ∙ ap (with_value (values_of c.args.records.now) c.args.path.now) (sym c.in-None.is)

pub returns-in-None-clause-touches : goal.returns-in-None-clause-touches
returns-in-None-clause-touches c quiet =
    dropped_touches (record_at c.args.records.now) (record_at c.remove.new.self) c.args.path.now c.remove.ensures.removed (quiet c.in-None.is)
