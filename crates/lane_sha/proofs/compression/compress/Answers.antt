use Rattle.std.proofs.Common.{refl, ap, ◌∙◌, lit<}
use Rattle.sha2.specs.Sha256.{add_state, compress, rounds}
use Rattle.lane_sha.specs.Lanes.{lane, block}
use Rattle.lane_sha.proofs.compression.compress.Goals as goal

pub returns : goal.returns
unfolding compress rounds
returns c = record {
  value = λ j below.
      let b = block j c.args.blocks.now in
      let h = lane j c.args.state.now in
      let first = c.first_words-first.ensures.words j below in
      let second = c.next_words-second.ensures.words j b 0 below (lit< tt) first in
      let third = c.next_words-third.ensures.words j b 1 below (lit< tt) second in
      let fourth = c.next_words-fourth.ensures.words j b 2 below (lit< tt) third in
      let after_16 = c.sixteen_rounds-v.ensures.rounds j b h below first refl in
      let after_32 = c.sixteen_rounds-v-2.ensures.rounds j b h below second after_16 in
      let after_48 = c.sixteen_rounds-v-3.ensures.rounds j b h below third after_32 in
      let after_64 = c.sixteen_rounds-v-4.ensures.rounds j b h below fourth after_48 in
      c.added.ensures.value j below ∙ ap (add_state h) after_64;
}
