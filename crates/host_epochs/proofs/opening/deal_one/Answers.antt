use Rattle.std.proofs.Common.{ap, sym, subst, ◌∙◌, [], arith}
use Rattle.atomic_table.specs.Table.{Splits}
use Rattle.host_epochs.specs.declared.views.View.{View}
use Rattle.host_epochs.specs.Made.{terms_of}
use Rattle.host_epochs.specs.Plays.{kept_row, dealt_row}
use Rattle.host_epochs.specs.Rule.{IsKept}
use Rattle.host_epochs.proofs.HandLemmas.{deals_one, kept_is}
use Rattle.host_epochs.proofs.opening.deal_one.Goals as goal

pub split_seat-requires : goal.split_seat-requires
split_seat-requires g c =
    let terms = terms_of g.D.Digests.functions c.args.board.now.shared.key in
    let id = c.args.seat.now.id in (
      c.requires.seat.0,
      omega (arith, c.requires.words),
      subst (λ (v : View). Splits (IsKept terms) id v (kept_row v) (dealt_row v)) (sym (ap (λ m. m.0) c.requires.seat.1))
          (deals_one c.args.number c.args.workers c.requires.left terms id),
    )

pub returns-clause-seat : goal.returns-clause-seat
returns-clause-seat g c =
    let did = c.split_seat.ensures in
    let was = c.requires.seat.1 in (
      did.0 ∙ c.requires.seat.0,
      did.2 ∙ (λ i. (kept_row (was i).0, (was i).1)) ∙ ap (λ v. (v, [])) (kept_is c.args.number c.args.workers c.requires.left),
    )
