use Rattle.std.proofs.Common.{ℕ, ◌+◌, ◌*◌, ◌%◌, ◌^◌, arith, ap, take, length, ◌∙◌}
use Rattle.std.proofs.lemmas.List.{take_rest}
use Rattle.lane_sha.proofs.PaddingLemmas.{whole_block, open_block, last_block, count_block}
use Rattle.lane_sha.proofs.padding.padded_block.Goals as goal

pub returns-then-from-text : goal.returns-then-from-text
returns-then-from-text c =
    let bits : ℕ = (c.args.taken + length c.args.text.now) % 2 ^ 64 * 8 % 2 ^ 64 in
    record {
      value = c.counted.ensures.value
          ∙ count_block c.args.taken bits c.args.text.now c.args.number c.requires.whole (omega arith) c.if-from-text.true c.requires.inside;
    }

pub returns-then-rest-ge64 : goal.returns-then-rest-ge64
returns-then-rest-ge64 c =
    let rest = take_rest c.args.text.now (c.args.number * 64) in
    record {
      value = c.first_block.ensures.value ∙ ap (take 64) rest
          ∙ whole_block c.args.taken c.args.text.now c.args.number (omega arith);
    }

pub returns-then-rest-ge-COUNT_AT : goal.returns-then-rest-ge-COUNT_AT
returns-then-rest-ge-COUNT_AT c =
    let rest = take_rest c.args.text.now (c.args.number * 64) in
    record {
      value = c.ended.ensures.value
          ∙ open_block c.args.taken c.args.text.now _ c.args.number c.requires.whole rest (omega arith) (omega arith) (omega arith);
    }

pub returns : goal.returns
returns c =
    let rest = take_rest c.args.text.now (c.args.number * 64) in
    let bits : ℕ = (c.args.taken + length c.args.text.now) % 2 ^ 64 * 8 % 2 ^ 64 in
    record {
      value = rw c.ended-2.ensures.value at c.counted-2.ensures.value
          ∙ last_block c.args.taken bits c.args.text.now _ c.args.number c.requires.whole (omega arith) rest (omega arith) (omega arith);
    }
