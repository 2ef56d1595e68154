use Rattle.std.proofs.Common.{bit_xor, arith}
use Rattle.lane_sha.proofs.WordLemmas.{vector, two}
use Rattle.lane_sha.proofs.words.big_sigma1.Goals as goal

pub returns : goal.returns
returns c =
    let first = vector (omega arith) c.rotate_right.ensures.value in
    let second = vector (omega arith) c.rotate_right-2.ensures.value in
    let third = vector (omega arith) c.rotate_right-3.ensures.value in
    record { value = (two bit_xor (two bit_xor first second) third).lane }
