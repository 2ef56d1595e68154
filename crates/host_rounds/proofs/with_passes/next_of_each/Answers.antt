use Rattle.std.proofs.Common.{◌≡◌, ◌<◌, ◌+◌, suc, ◌∷◌, length, sym, ◌∙◌, ap, arith}
use Rattle.std.specs.Vec.Iter.{into_iter_items}
use Rattle.std.proofs.lemmas.List.{get_or_default}
use Rattle.epoch_book.specs.declared.pass.Pass.{Pass}
use Rattle.host_rounds.proofs.ChangedLemmas.{changed-next, changed-so, more-at, more-last, more-length}
use Rattle.host_rounds.proofs.DealingLemmas.{Passes, GivesPass}
use Rattle.host_rounds.proofs.with_passes.next_of_each.Goals as goal

pub loop-one-preserved : goal.loop-one-preserved
loop-one-preserved c =
    let place = c.loop-one.one-index in
    let so_far = c.loop-one.invariant in
    let passes = c.loop-one.passes.items in
    let later = c.push.new.self.items in
    let next : place + 1 ≡ suc place = omega arith in
    let there : place < length c.loop-one.all = omega (arith, c.loop-one-test.true, c.loop-one.auto.all) in
    let more = c.in_ok-push.ensures.items in
    let before = changed-so (GivesPass passes) (GivesPass later) place c.args.all.now c.loop-one.all so_far.given
    (λ i old new below gives pass. gives pass ∙ ap (λ (p : Pass). p ∷ into_iter_items new) (sym (more-at later passes c.in-Some.pass pass i more (omega (arith, below, so_far.count))))) in
    record {
      count = let size = more-length later passes c.in-Some.pass more in omega (arith, size, so_far.count);
      given =
          changed-next (GivesPass later) place (place + 1) c.args.all.now c.loop-one.all c.next.new.self before next there
          (λ d pass.
          ap (λ (ps : Passes). into_iter_items ps) (sym (get_or_default c.loop-one.all place c.one-item.result d there ∙ so_far.given.rest place d (omega arith)))
          ∙ c.in-Some.ensures.items
          ∙ ap (λ (p : Pass). p ∷ into_iter_items c.next.new.self) (sym (more-last later passes c.in-Some.pass pass place more (sym so_far.count))));
    }
