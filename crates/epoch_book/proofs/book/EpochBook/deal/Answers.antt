use Rattle.std.proofs.Common.{◌≡◌, ℕ, None, [], ◌∷◌, length, ap, sym, subst, All, ◌∙◌, arith, length-append}
use Rattle.epoch_book.specs.declared.pass.Pass.{Pass}
use Rattle.epoch_book.specs.Passes.{IsPassOf, number_of, part_of}
use Rattle.std.proofs.lemmas.List.Elements.{All-push}
use Rattle.epoch_book.proofs.StepLemmas.{deals}
use Rattle.epoch_book.proofs.PassLemmas.{dealt-each, one_less}
use Rattle.epoch_book.proofs.book.EpochBook.deal.Goals as goal

pub split_seat-ticket-requires : goal.split_seat-ticket-requires
split_seat-ticket-requires c = (
  c.loop-number.invariant.dealer,
  omega (arith, c.args.self.now.sized),
  deals _ _ _ (let passes = ap (λ m. m.0.passes) c.loop-number.invariant.left in omega arith) (ap (λ m. m.0.rows) c.loop-number.invariant.left),
)

pub loop-number-preserved : goal.loop-number-preserved
loop-number-preserved c =
    let dealt = c.split_seat-ticket.ensures in
    let made = c.new.ensures.pass in
    let items = c.in_ok-push.ensures.items in record {
      dealer = dealt.0 ∙ c.loop-number.invariant.dealer;
      left = dealt.2 ∙ one_less c.args.verifiers c.loop-number.number _ c.loop-number.invariant.left;
      count = omega (arith, ap length items, length-append c.loop-number.passes.items (c.new.result ∷ []), c.loop-number.invariant.count);
      each = dealt-each (λ (k : ℕ) (pass : Pass). (number_of pass ≡ k) × IsPassOf c.args.self.now pass) _ _ _ items c.loop-number.invariant.each (made.0 ∙ sym c.loop-number.invariant.count, made.2 ∙ dealt.3 ∙ c.loop-number.invariant.dealer);
      empty = subst (All (λ (pass : Pass). part_of pass ≡ None)) (sym items) (All-push (λ (pass : Pass). part_of pass ≡ None) c.loop-number.passes.items c.new.result c.loop-number.invariant.empty made.1);
    }
