use Rattle.std.proofs.Common.{List, map, ap, sym, subst, ◌∙◌}
use mathlib.Core.Option.{some}
use Rattle.core.specs.Mem.Slots.{slots_items}
use Rattle.host_shard.specs.declared.content.Content.{Content}
use Rattle.host_epochs.specs.Hands.{row_of}
use Rattle.host_epochs.specs.Plays.{Sat}
use Rattle.host_epochs.specs.Round.{IsRound}
use Rattle.host_epochs.specs.Table.{terms}
use Rattle.host_epochs.proofs.EndLemmas.{closes}
use Rattle.host_epochs.proofs.epochs.Epochs.close.Goals as goal

pub returns : goal.returns
returns g c =
    let t = terms g.D.Digests.functions c.args.self in
    let rows = map row_of c.args.hands.items in
    let last = c.close_with.ensures.values.2 in
    record {
      round = subst (λ (xs : List Content). IsRound t xs rows) (sym c.hand_out.ensures.contents)
          (closes t last.0 c.gather-seat.result.id rows (slots_items c.close_with.result.slots) last.1.0
          (last.1.1 ∙ ap (λ (m : Sat). some m.0) c.gather-seat.ensures.seat.1) c.args.self.making.some last.3 last.4);
    }
