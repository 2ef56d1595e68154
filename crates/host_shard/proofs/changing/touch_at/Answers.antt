use Rattle.std.proofs.Common.{ℕ, refl, sym, ◌∙◌, ap}
use Rattle.std.specs.Option.{option_copied_mut}
use Rattle.std.specs.BTreeMap.{BTreeMap}
use Rattle.tree_keys.specs.declared.path.Path.{Path}
use Rattle.host_shard.specs.declared.record.Record.{Record}
use Rattle.host_shard.specs.Records.{record_at}
use Rattle.host_shard.specs.Shard.{one_more}
use Rattle.host_shard.proofs.RecordLemmas.{set_there, set_none}
use Rattle.host_shard.proofs.TouchedLemmas.{is_touched}
use Rattle.host_shard.proofs.changing.touch_at.Goals as goal

pub returns-in-Some-clause-touched : goal.returns-in-Some-clause-touched
returns-in-Some-clause-touched c =
    let now : Record = record { value = c.in-Some.kept.now.value; touches = c.saturating_add-kept.result } in
    let change : Record → Record = λ r. record { value = r.value; touches = one_more r.touches } in
    set_there c.args.map.now.entries c.args.map.now.entries (c.get_mut.follows.lender now).entries c.args.path.now c.in-Some.kept.now now change refl
    (sym (ap option_copied_mut c.in-Some.is) ∙ c.get_mut.follows.claims.0)
    (ap (λ (touches : ℕ). record { value = c.in-Some.kept.now.value; touches = touches }) c.saturating_add-kept.ensures)
    (λ some. ((c.get_mut.follows.holds now).3 some).0)

pub returns-in-Some-clause-first : goal.returns-in-Some-clause-first
returns-in-Some-clause-first c =
    λ later some. is_touched c.args.map.now.entries c.args.path.now c.in-Some.kept.now (sym (ap option_copied_mut c.in-Some.is) ∙ c.get_mut.follows.claims.0) later

pub returns-in-None-clause-touched : goal.returns-in-None-clause-touched
returns-in-None-clause-touched c =
    ap (λ (map : BTreeMap Path Record). record_at map.entries) c.get_mut.follows.holds-at-none
    ∙ set_none c.args.map.now.entries c.args.map.now.entries c.args.path.now (λ r. record { value = r.value; touches = one_more r.touches }) refl
    (sym (ap option_copied_mut c.in-None.is) ∙ c.get_mut.follows.claims.0)
