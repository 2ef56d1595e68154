use Rattle.std.proofs.Common.{◌<◌, length, map, take, ap, arith}
use Rattle.std.proofs.lemmas.List.{length-map, length-take-le}
use Rattle.bundle_frames.specs.Bundle.{Frame}
use Rattle.check_core.specs.Batch.{frame_in, bytes_of}
use Rattle.check_core.proofs.BatchLemmas.{frames_more, bytes_more}
use Rattle.check_core.proofs.batch.Batch.keep.Goals as goal

pub invariant_of-self-2 : goal.invariant_of-self-2
invariant_of-self-2 c =
    let b = c.self.inside in
    let room : b.count < length c.make_room.new.holders.items = omega (arith, c.in_ok-make_room.ensures.room, c.make_room.new.holders.ok) in
    let more = frames_more b.holders.items c.make_room.new.holders.items b.count c.put.new.holder room c.make_room.ensures.same in
    let size = length-map (take b.count b.holders.items) frame_in in
    let size' = length-take-le b.count b.holders.items (omega (arith, c.self.invariant.count, b.holders.ok)) in
    let few = c.requires.room in
    let was = ap length c.self.view_is in
    let body = ap length c.body.ensures.value in
    let kept = ap (λ (frame : Frame). length frame.body) c.put.ensures.frame in
    record {
      count = omega (arith, c.in_ok-make_room.ensures.room);
      few = omega (arith, size, size', few, was);
      bytes =
          let all = ap bytes_of more in
          let sum = bytes_more (map frame_in (take b.count b.holders.items)) (frame_in c.put.new.holder) in
          omega (arith, all, sum, c.self.invariant.bytes, body, kept);
      bounded = omega (arith, c.self.invariant.bounded, c.requires.body, body);
    }
