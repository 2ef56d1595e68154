use Rattle.std.proofs.Common.{◌≡◌, ◌<◌, ◌+◌, suc, List, [], ◌∷◌, ◌++◌, length, get_or, refl, sym, ◌∙◌, ap, arith}
use Rattle.std.specs.Vec.Iter.{into_iter_items}
use Rattle.std.proofs.Math.Seq.{map-set_same}
use Rattle.std.proofs.lemmas.List.{get_or_default}
use Rattle.epoch_book.specs.declared.pass.Pass.{Pass}
use Rattle.host_rounds.specs.WithPasses.{run_in, passes_in}
use Rattle.host_rounds.proofs.ChangedLemmas.{changed-next, next-left}
use Rattle.host_rounds.proofs.DealingLemmas.{TakesPass}
use Rattle.host_rounds.proofs.with_passes.deal.Goals as goal

pub loop-one-preserved : goal.loop-one-preserved
loop-one-preserved c =
    let place = c.loop-one.one-index in
    let so_far = c.loop-one.invariant in
    let passes = c.args.passes.items in
    let next : place + 1 ≡ suc place = omega arith in
    let there : place < length c.loop-one.all = omega (arith, c.loop-one-test.true, c.loop-one.auto.all) in
    let left = λ (d : Pass). next-left passes (into_iter_items c.next.new.self) place (place + 1) c.in-Some.pass d (so_far.left ∙ c.in-Some.ensures.items) next in
    record {
      left = (left c.in-Some.pass).1;
      runs = map-set_same run_in c.loop-one.all place _ c.one-item.result refl ∙ so_far.runs;
      dealt =
          changed-next (TakesPass passes) place (place + 1) c.args.all.now c.loop-one.all _ so_far.dealt next there
          (λ d pass.
          c.in_ok-push.ensures.items
          ∙ ap (λ (ps : List Pass). ps ++ c.in-Some.pass ∷ []) (ap passes_in (get_or_default c.loop-one.all place c.one-item.result d there ∙ so_far.dealt.rest place d (omega arith)))
          ∙ ap (λ (p : Pass). passes_in (get_or c.args.all.now place d) ++ p ∷ []) (sym (left pass).0));
    }
