use Rattle.std.proofs.Common.{arith, refl, ◌+◌}
use Rattle.lane_sha.proofs.TurnLemmas.{round_is, counted}
use Rattle.lane_sha.proofs.compression.four_rounds.Goals as goal

pub returns : goal.returns
returns c = record {
  rounds = λ j b h below held before.
      let turn = c.args.turn in
      let place = c.args.place in
      let first = round_is b h _ turn place _ _ _ before refl (held place (omega arith)) (c.round-v.ensures.value j below) in
      let second = counted b h _ turn place 1 (round_is b h _ turn (place + 1) _ _ _ first refl (held (place + 1) (omega arith)) (c.round-v-2.ensures.value j below)) in
      let third = counted b h _ turn place 2 (round_is b h _ turn (place + 2) _ _ _ second refl (held (place + 2) (omega arith)) (c.round-v-3.ensures.value j below)) in
      counted b h _ turn place 3 (round_is b h _ turn (place + 3) _ _ _ third refl (held (place + 3) (omega arith)) (c.round.ensures.value j below));
}
