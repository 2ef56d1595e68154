use Rattle.std.proofs.Common.{◌≡◌, ◌∙◌, Some, ap, sym, arith}
use Rattle.multiset_sum.specs.declared.part.Part.{Part}
use Rattle.multiset_sum.specs.Tally.{Tally}
use Rattle.multiset_sum.specs.Sum.{joined}
use Rattle.epoch_book.specs.declared.pass.Pass.{Pass}
use Rattle.epoch_book.proofs.SettledLemmas.{room_for, total_more, total_same}
use Rattle.epoch_book.proofs.gathering.joined.Goals.{in-Some, in_default}
use Rattle.epoch_book.proofs.gathering.joined.Goals as goal

pub join-added-requires : goal.join-added-requires
join-added-requires c =
    let room = room_for (λ part. part.added) (λ (pass : Pass) (part : Part) (is : pass.part ≡ Some part). (pass.fits part is).1) _ _ c.in-Some.part c.requires.few c.loop-pass-test.true (c.pass-item.result.fits _ c.in-Some.is).1 in
    record { room = omega (arith, room, ap (λ (s : Tally). s.count) c.loop-pass.invariant.added) }

pub join-evicted-requires : goal.join-evicted-requires
join-evicted-requires c =
    let room = room_for (λ part. part.evicted) (λ (pass : Pass) (part : Part) (is : pass.part ≡ Some part). (pass.fits part is).2) _ _ c.in-Some.part c.requires.few c.loop-pass-test.true (c.pass-item.result.fits _ c.in-Some.is).2 in
    record { room = omega (arith, room, ap (λ (s : Tally). s.count) c.loop-pass.invariant.evicted) }

pub loop-pass-preserved : goal.loop-pass-preserved
loop-pass-preserved c =
    let within = c.loop-pass-test.true in
    let item = c.pass-item.is in
    elim c.match-pass.branch [
      | in-Some w ↦ record {
        added = w.added-is ∙ w.join-added.ensures.sum ∙ ap (λ s. joined s w.in-Some.part.added) c.loop-pass.invariant.added ∙ sym (total_more (λ part. part.added) _ _ _ _ within item w.in-Some.is);
        evicted = w.evicted-is ∙ w.join-evicted.ensures.sum ∙ ap (λ s. joined s w.in-Some.part.evicted) c.loop-pass.invariant.evicted ∙ sym (total_more (λ part. part.evicted) _ _ _ _ within item w.in-Some.is);
      }
      | in_default w ↦ record {
        added = w.added-is ∙ c.loop-pass.invariant.added ∙ sym (total_same (λ part. part.added) _ _ _ within item w.in_default.is);
        evicted = w.evicted-is ∙ c.loop-pass.invariant.evicted ∙ sym (total_same (λ part. part.evicted) _ _ _ within item w.in_default.is);
      }
    ]
