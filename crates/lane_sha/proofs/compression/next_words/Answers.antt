use Rattle.std.proofs.Common.{arith}
use Rattle.lane_sha.proofs.TurnLemmas.{below_sixteen, next_is, counted_on}
use Rattle.lane_sha.proofs.compression.next_words.Goals as goal

pub returns : goal.returns
returns c = record {
  words = λ j b turn h last held.
      let n0 = next_is b turn 0 _ _ _ _ _ last (omega arith) (held 0 (omega arith)) (held 1 (omega arith)) (held 9 (omega arith)) (held 14 (omega arith)) (c.next_word-w0.ensures.value j h) in
      let n1 = next_is b turn 1 _ _ _ _ _ last (omega arith) (held 1 (omega arith)) (held 2 (omega arith)) (held 10 (omega arith)) (held 15 (omega arith)) (c.next_word-w1.ensures.value j h) in
      let n2 = next_is b turn 2 _ _ _ _ _ last (omega arith) (held 2 (omega arith)) (held 3 (omega arith)) (held 11 (omega arith)) (counted_on b turn 0 _ n0) (c.next_word-w2.ensures.value j h) in
      let n3 = next_is b turn 3 _ _ _ _ _ last (omega arith) (held 3 (omega arith)) (held 4 (omega arith)) (held 12 (omega arith)) (counted_on b turn 1 _ n1) (c.next_word-w3.ensures.value j h) in
      let n4 = next_is b turn 4 _ _ _ _ _ last (omega arith) (held 4 (omega arith)) (held 5 (omega arith)) (held 13 (omega arith)) (counted_on b turn 2 _ n2) (c.next_word-w4.ensures.value j h) in
      let n5 = next_is b turn 5 _ _ _ _ _ last (omega arith) (held 5 (omega arith)) (held 6 (omega arith)) (held 14 (omega arith)) (counted_on b turn 3 _ n3) (c.next_word-w5.ensures.value j h) in
      let n6 = next_is b turn 6 _ _ _ _ _ last (omega arith) (held 6 (omega arith)) (held 7 (omega arith)) (held 15 (omega arith)) (counted_on b turn 4 _ n4) (c.next_word-w6.ensures.value j h) in
      let n7 = next_is b turn 7 _ _ _ _ _ last (omega arith) (held 7 (omega arith)) (held 8 (omega arith)) (counted_on b turn 0 _ n0) (counted_on b turn 5 _ n5) (c.next_word-w7.ensures.value j h) in
      let n8 = next_is b turn 8 _ _ _ _ _ last (omega arith) (held 8 (omega arith)) (held 9 (omega arith)) (counted_on b turn 1 _ n1) (counted_on b turn 6 _ n6) (c.next_word-w8.ensures.value j h) in
      let n9 = next_is b turn 9 _ _ _ _ _ last (omega arith) (held 9 (omega arith)) (held 10 (omega arith)) (counted_on b turn 2 _ n2) (counted_on b turn 7 _ n7) (c.next_word-w9.ensures.value j h) in
      let n10 = next_is b turn 10 _ _ _ _ _ last (omega arith) (held 10 (omega arith)) (held 11 (omega arith)) (counted_on b turn 3 _ n3) (counted_on b turn 8 _ n8) (c.next_word-w10.ensures.value j h) in
      let n11 = next_is b turn 11 _ _ _ _ _ last (omega arith) (held 11 (omega arith)) (held 12 (omega arith)) (counted_on b turn 4 _ n4) (counted_on b turn 9 _ n9) (c.next_word-w11.ensures.value j h) in
      let n12 = next_is b turn 12 _ _ _ _ _ last (omega arith) (held 12 (omega arith)) (held 13 (omega arith)) (counted_on b turn 5 _ n5) (counted_on b turn 10 _ n10) (c.next_word-w12.ensures.value j h) in
      let n13 = next_is b turn 13 _ _ _ _ _ last (omega arith) (held 13 (omega arith)) (held 14 (omega arith)) (counted_on b turn 6 _ n6) (counted_on b turn 11 _ n11) (c.next_word-w13.ensures.value j h) in
      let n14 = next_is b turn 14 _ _ _ _ _ last (omega arith) (held 14 (omega arith)) (held 15 (omega arith)) (counted_on b turn 7 _ n7) (counted_on b turn 12 _ n12) (c.next_word-w14.ensures.value j h) in
      let n15 = next_is b turn 15 _ _ _ _ _ last (omega arith) (held 15 (omega arith)) (counted_on b turn 0 _ n0) (counted_on b turn 8 _ n8) (counted_on b turn 13 _ n13) (c.next_word-w15.ensures.value j h) in
      below_sixteen _ n0 n1 n2 n3 n4 n5 n6 n7 n8 n9 n10 n11 n12 n13 n14 n15;
}
