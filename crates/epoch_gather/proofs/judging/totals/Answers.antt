use Rattle.std.proofs.Common.{◌<◌, ◌^◌, ap, arith}
use Rattle.std.proofs.lemmas.List.Elements.{All-weaker}
use Rattle.multiset_sum.specs.declared.part.Part.{Part}
use Rattle.multiset_sum.specs.Tally.{Tally}
use Rattle.epoch_gather.proofs.RoomLemmas.{room_for}
use Rattle.epoch_gather.proofs.judging.totals.Goals as goal

pub join-added-requires : goal.join-added-requires
join-added-requires c =
    let small = All-weaker (λ (p : Part). (p.added.count < 2 ^ 25) × (p.evicted.count < 2 ^ 25)) (λ (p : Part). p.added.count < 2 ^ 25) (λ p both. both.0) _ c.requires.counts in
    let room = room_for (λ part. part.added) _ _ _ c.requires.few c.requires.numbers c.requires.once small _ _ c.loop-part-test.true c.part-item.is c.if-part-epoch.true in
    record { room = omega (arith, room, ap (λ (s : Tally). s.count) c.loop-part.invariant.added) }

pub join-evicted-requires : goal.join-evicted-requires
join-evicted-requires c =
    let small = All-weaker (λ (p : Part). (p.added.count < 2 ^ 25) × (p.evicted.count < 2 ^ 25)) (λ (p : Part). p.evicted.count < 2 ^ 25) (λ p both. both.1) _ c.requires.counts in
    let room = room_for (λ part. part.evicted) _ _ _ c.requires.few c.requires.numbers c.requires.once small _ _ c.loop-part-test.true c.part-item.is c.if-part-epoch.true in
    record { room = omega (arith, room, ap (λ (s : Tally). s.count) c.loop-part.invariant.evicted) }
