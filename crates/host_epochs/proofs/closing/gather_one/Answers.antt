use Rattle.std.proofs.Common.{◌≡◌, suc, ◌+◌, ap, sym, subst, ◌∙◌, arith}
use Rattle.atomic_table.specs.Table.{Joins}
use Rattle.host_epochs.specs.declared.views.View.{View}
use Rattle.host_epochs.specs.declared.views.View.TheVariants.{Spent}
use Rattle.host_epochs.specs.Hands.{row_of, losses, left, seen}
use Rattle.host_epochs.specs.Made.{terms_of}
use Rattle.host_epochs.specs.Plays.{rack, rows_in, gathered}
use Rattle.host_epochs.specs.Rule.{IsKept}
use Rattle.host_epochs.proofs.SeatLemmas.{gathers}
use Rattle.host_epochs.proofs.closing.gather_one.Goals as goal

pub join_seat-requires : goal.join_seat-requires
join_seat-requires g c =
    let terms = terms_of g.D.Digests.functions c.args.board.now.shared.key in
    let seat = c.args.seat.now in
    let hand = c.args.hand in
    let next : suc hand.number ≡ hand.number + 1 = omega arith in
    let seat_is = sym (ap (λ m. m.0) c.requires.seat.1 ∙ ap (λ n. rack n (rows_in seat.me.0)) (sym next)) in
    let hand_is = sym (ap (λ m. m.0) c.requires.free.me) in (
      c.requires.seat.0,
      c.requires.free.at,
      ap (λ m. m.1) c.requires.free.me,
      c.requires.words,
      subst (λ (t : View × View). Joins (IsKept terms) seat.id t.0 hand.seat.id t.1 (gathered t.0 t.1) Spent) (λ i. (seat_is i, hand_is i))
          (gathers terms seat.id hand.seat.id hand.number (rows_in seat.me.0) (row_of hand) (losses hand) (left hand) (seen hand)),
    )
