use Rattle.std.proofs.Common.{◌≡◌, Err, sym, ap, subst, arith}
use Rattle.seals.specs.declared.placing.Unplaced.TheVariants.{VaultFault}
use Rattle.check_core.specs.Sealing.{IsSealText}
use Rattle.check_core.proofs.PlacingLemmas.{placed, placed_in_part}
use Rattle.check_core.proofs.sealing.place_seal.Goals as goal

pub returns-in-Ok-clause-placed : goal.returns-in-Ok-clause-placed
returns-in-Ok-clause-placed g c = λ bytes read few.
    let functions = g.D.Digests.functions c.args.d.now in
    let is = subst (IsSealText functions bytes) (sym c.deref_mut.ensures.value) (c.in_ok-text.ensures.text bytes read) in
    placed functions _ _ bytes c.seals_take_their_numbers.ensures.number (g.met.D.Digests.tag_shape c.args.d.now) c.deref_mut.result.now is few
    c.in-Ok.number c.place.new.text (omega (arith, c.if-prove.false)) c.in-Ok.ensures.raised c.in-Ok.ensures.numbered c.in-Ok.ensures.written

pub returns-clause-cut : goal.returns-clause-cut
returns-clause-cut g c = λ fault bytes read few.
    let functions = g.D.Digests.functions c.args.d.now in
    let is = subst (IsSealText functions bytes) (sym c.deref_mut.ensures.value) (c.in_ok-text.ensures.text bytes read) in
    let own : c.in-Err.unplaced ≡ VaultFault = cc in
    placed_in_part functions _ _ bytes c.seals_take_their_numbers.ensures.number (g.met.D.Digests.tag_shape c.args.d.now) c.deref_mut.result.now is few
    c.place.new.text (c.in-Err.ensures.cut (ap Err own))
