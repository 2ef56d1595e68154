use Rattle.std.proofs.Common.{◌≡◌, ◌+◌, ◌-◌, ◌≤◌, length, arith}
use Rattle.stamp_order.proofs.PlaceLemmas.{put-stands, turn-from, turn-put-from, turn-put-all, turn-same}
use Rattle.stamp_order.proofs.merger.places_of.Goals as goal

pub loop-place-preserved-in-Continue-1 : goal.loop-place-preserved-in-Continue-1
loop-place-preserved-in-Continue-1 c =
    let inv = c.loop-place.invariant in
    let lists = c.args.lists.now in
    let next : c.loop-place.place ≡ c.loop-place.place - 1 + 1 = omega (arith, c.loop-place-test.true) in
    let within : c.loop-place.place ≤ length lists = omega (arith, c.loop-place.auto.place) in
    record {
      from = turn-put-from lists c.loop-place.place (c.loop-place.place - 1) next within c.loop-place.places.items inv.from inv.all _ c.in_ok-put_place.ensures.put;
      standing = put-stands lists (c.loop-place.place - 1) c.loop-place.places.items _ (c.has_some.ensures.some c.if-has_some.true) inv.standing c.in_ok-put_place.ensures.put;
      all = turn-put-all lists c.loop-place.place (c.loop-place.place - 1) next within c.loop-place.places.items inv.from inv.all _ c.in_ok-put_place.ensures.put;
    }

pub loop-place-preserved : goal.loop-place-preserved
loop-place-preserved c =
    let inv = c.loop-place.invariant in
    let lists = c.args.lists.now in
    let next : c.loop-place.place ≡ c.loop-place.place - 1 + 1 = omega (arith, c.loop-place-test.true) in
    let within : c.loop-place.place ≤ length lists = omega (arith, c.loop-place.auto.place) in
    record {
      from = turn-from lists c.loop-place.place (c.loop-place.place - 1) next within c.loop-place.places.items inv.from inv.all;
      standing = inv.standing;
      all = turn-same lists c.loop-place.place (c.loop-place.place - 1) next within c.loop-place.places.items inv.from inv.all (c.has_some.ensures.none c.if-has_some.false);
    }
