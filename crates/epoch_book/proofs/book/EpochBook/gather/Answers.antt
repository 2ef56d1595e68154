use Rattle.std.proofs.Common.{[], ◌∷◌, ◌++◌, ◌∙◌, length, ap, arith, length-append}
use Rattle.epoch_book.specs.declared.pass.Pass.{Pass}
use Rattle.epoch_book.specs.Passes.{IsPassOf, rows_of}
use Rattle.epoch_book.proofs.StepLemmas.{gathers}
use Rattle.epoch_book.proofs.PassLemmas.{all-front, all-last, rows-gathered}
use Rattle.epoch_book.proofs.book.EpochBook.gather.Goals as goal

pub join_seat-requires : goal.join_seat-requires
join_seat-requires c = (
  c.loop-pass.invariant.book,
  c.into_ticket.ensures.ticket.0 ∙ all-last (λ (p : Pass). IsPassOf c.args.self.now p) _ _ _ c.in-Some-pop.ensures.items c.loop-pass.invariant.others,
  ap (λ m. m.1) c.into_ticket.ensures.ticket.1,
  omega (arith, c.args.self.now.sized),
  gathers _ _ _ _ _,
)

pub loop-pass-preserved : goal.loop-pass-preserved
loop-pass-preserved c =
    let me = c.join_seat.ensures.2 in
    let own = c.into_ticket.ensures.ticket.1 in
    let items = c.in-Some-pop.ensures.items in
    let left = c.pop-in-loop-pass.new.self.items in record {
      book = c.join_seat.ensures.0 ∙ c.loop-pass.invariant.book;
      others = all-front (λ (p : Pass). IsPassOf c.args.self.now p) _ _ _ items c.loop-pass.invariant.others;
      count = omega (arith, ap (λ m. m.0.passes) me, ap (λ m. m.0.passes) own, ap length items, length-append left (c.in-Some-pop.pass ∷ []), c.loop-pass.invariant.count);
      rows = ap (λ m. rows_of left ++ m.0.rows) me
          ∙ ap (λ m. rows_of left ++ (m.0.rows ++ c.loop-pass.ticket.me.0.rows)) own
          ∙ rows-gathered _ left c.in-Some-pop.pass c.loop-pass.ticket.me.0.rows items
          ∙ c.loop-pass.invariant.rows;
      slots = ap (λ m. m.1) me ∙ c.loop-pass.invariant.slots;
    }
