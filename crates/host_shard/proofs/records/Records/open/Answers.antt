use Rattle.std.proofs.Common.{true, false, Some, not, sym, ◌∙◌, ap, arith}
use Rattle.record_text.specs.declared.value.Value.{Value}
use Rattle.host_shard.specs.declared.record.Record.{Record}
use Rattle.host_shard.specs.Records.{Listed, record_at, with_kept, new_record}
use Rattle.host_shard.proofs.RecordLemmas.{updated, kept_same, there, absent, tested}
use Rattle.host_shard.proofs.TouchedLemmas.{noted_kept}
use Rattle.host_shard.proofs.records.Records.open.Goals as goal

pub returns-then-contains_key-clause-new : goal.returns-then-contains_key-clause-new
returns-then-contains_key-clause-new c =
    sym (ap not (tested c.self.inside.map.entries c.args.self.now c.args.path.now c.contains_key.result true c.self.view_is c.contains_key.ensures c.if-contains_key.true))

pub returns-then-contains_key-clause-opened : goal.returns-then-contains_key-clause-opened
returns-then-contains_key-clause-opened c =
    kept_same (record_at c.args.self.now) c.args.path.now _
    (there (record_at c.args.self.now c.args.path.now) (new_record c.args.path.now)
    (tested c.self.inside.map.entries c.args.self.now c.args.path.now c.contains_key.result true c.self.view_is c.contains_key.ensures c.if-contains_key.true))

pub returns-clause-new : goal.returns-clause-new
returns-clause-new c =
    sym (ap not (tested c.self.inside.map.entries c.args.self.now c.args.path.now c.contains_key.result false c.self.view_is c.contains_key.ensures c.if-contains_key.false))

pub returns-clause-opened : goal.returns-clause-opened
returns-clause-opened c =
    let none = absent (record_at c.args.self.now c.args.path.now) (new_record c.args.path.now)
    (tested c.self.inside.map.entries c.args.self.now c.args.path.now c.contains_key.result false c.self.view_is c.contains_key.ensures c.if-contains_key.false) in
    updated c.self.inside.map.entries c.insert.new.self.entries c.args.path.now _ c.in_ok-insert.ensures.updates.0
    ∙ ap (λ (listed : Listed). with_kept (record_at listed) c.args.path.now (Some (record { value = c.initial.result; touches = 0 }))) c.self.view_is
    ∙ ap (λ (value : Value). with_kept (record_at c.args.self.now) c.args.path.now (Some (record { value = value; touches = 0 }))) c.initial.ensures.value
    ∙ ap (λ (now : Record). with_kept (record_at c.args.self.now) c.args.path.now (Some now)) (sym none)

pub invariant_of-self-2 : goal.invariant_of-self-2
invariant_of-self-2 c =
    noted_kept c.self.inside.touched c.self.inside.map.entries c.insert.new.self.entries c.args.path.now _ c.self.invariant
    (updated c.self.inside.map.entries c.insert.new.self.entries c.args.path.now _ c.in_ok-insert.ensures.updates.0) (λ some. omega (arith, some))
