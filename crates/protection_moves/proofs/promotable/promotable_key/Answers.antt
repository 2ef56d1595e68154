use Rattle.std.proofs.Common.{Bool, ◌≤◌, map, not, refl, sym, ◌∙◌, ap, arith}
use Rattle.std.specs.Option.{is_none}
use Rattle.std.proofs.lemmas.Bool.{le-ltb}
use Rattle.host_shard.specs.Shown.{shown_content}
use Rattle.protection_moves.specs.Promotable.{key_in}
use Rattle.protection_moves.proofs.PromotableLemmas.{key_found}
use Rattle.protection_moves.proofs.promotable.promotable_key.Goals as goal

pub returns : goal.returns
returns c =
    let often : c.args.least ≤ c.args.kept.now.touches = omega (arith, c.if-kept-from.false, c.from.ensures) in
    record {
      value = key_found c.args.least c.args.shard.now.frontier c.args.path.now (map shown_content c.args.places.now) c.args.kept.now _ _ _ c.key_in.result
          refl (le-ltb c.args.kept.now.touches c.args.least often)
          refl (ap is_none (sym c.side.ensures.value) ∙ ap not c.if-is_none.ensures)
          refl (sym c.is_hot.ensures.value ∙ c.if-is_hot.false)
          (c.key_in.ensures.value ∙ ap (λ (wide : Bool). key_in wide c.args.path.now) c.is_wide.ensures.value);
    }
