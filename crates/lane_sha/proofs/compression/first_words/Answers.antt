use Rattle.lane_sha.proofs.TurnLemmas.{below_sixteen, first_is}
use Rattle.lane_sha.specs.Lanes.{block}
use Rattle.std.proofs.Common.{arith}
use Rattle.lane_sha.proofs.compression.first_words.Goals as goal

pub returns : goal.returns
returns c = record {
  words = λ j h.
      let b = block j c.args.blocks.now in
      below_sixteen _
      (first_is b 0 _ (omega arith) (c.word_of_each.ensures.words j h))
      (first_is b 1 _ (omega arith) (c.word_of_each-2.ensures.words j h))
      (first_is b 2 _ (omega arith) (c.word_of_each-3.ensures.words j h))
      (first_is b 3 _ (omega arith) (c.word_of_each-4.ensures.words j h))
      (first_is b 4 _ (omega arith) (c.word_of_each-5.ensures.words j h))
      (first_is b 5 _ (omega arith) (c.word_of_each-6.ensures.words j h))
      (first_is b 6 _ (omega arith) (c.word_of_each-7.ensures.words j h))
      (first_is b 7 _ (omega arith) (c.word_of_each-8.ensures.words j h))
      (first_is b 8 _ (omega arith) (c.word_of_each-9.ensures.words j h))
      (first_is b 9 _ (omega arith) (c.word_of_each-10.ensures.words j h))
      (first_is b 10 _ (omega arith) (c.word_of_each-11.ensures.words j h))
      (first_is b 11 _ (omega arith) (c.word_of_each-12.ensures.words j h))
      (first_is b 12 _ (omega arith) (c.word_of_each-13.ensures.words j h))
      (first_is b 13 _ (omega arith) (c.word_of_each-14.ensures.words j h))
      (first_is b 14 _ (omega arith) (c.word_of_each-15.ensures.words j h))
      (first_is b 15 _ (omega arith) (c.word_of_each-16.ensures.words j h));
}
