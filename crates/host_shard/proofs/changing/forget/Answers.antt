use Rattle.std.proofs.Common.{refl, sym, ◌∙◌, ap}
use Rattle.std.specs.Option.{option_copied_mut}
use Rattle.std.specs.BTreeMap.{BTreeMap}
use Rattle.tree_keys.specs.declared.path.Path.{Path}
use Rattle.host_shard.specs.declared.record.Record.{Record}
use Rattle.host_shard.specs.Records.{record_at}
use Rattle.host_shard.proofs.ForgetLemmas.{forgotten}
use Rattle.host_shard.proofs.RecordLemmas.{set_there, set_none}
use Rattle.host_shard.proofs.changing.forget.Goals as goal

pub returns-in-Some : goal.returns-in-Some
returns-in-Some c =
    let now : Record = record { value = c.in-Some.kept.now.value; touches = 0 } in
    record {
      forgotten = set_there c.args.map.now.entries c.args.map.now.entries (c.get_mut.follows.lender now).entries c.args.path.now c.in-Some.kept.now now forgotten refl
          (sym (ap option_copied_mut c.in-Some.is) ∙ c.get_mut.follows.claims.0) refl (λ some. ((c.get_mut.follows.holds now).3 some).0);
    }

pub returns-in_default : goal.returns-in_default
returns-in_default c = record {
  forgotten = ap (λ (map : BTreeMap Path Record). record_at map.entries) c.get_mut.follows.holds-at-none
      ∙ set_none c.args.map.now.entries c.args.map.now.entries c.args.path.now forgotten refl
      (sym (ap option_copied_mut c.in_default.is) ∙ c.get_mut.follows.claims.0);
}
