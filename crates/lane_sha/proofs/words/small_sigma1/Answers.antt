use Rattle.std.proofs.Common.{◌/◌, ◌^◌, bit_xor, arith}
use Rattle.lane_sha.proofs.WordLemmas.{vector, self, all_of, two}
use Rattle.lane_sha.proofs.words.small_sigma1.Goals as goal

pub returns : goal.returns
returns c =
    let first = vector (omega arith) c.rotate_right.ensures.value in
    let second = vector (omega arith) c.rotate_right-2.ensures.value in
    let shifted = two (λ x n. x / 2 ^ n) (self c.fits-x.0) (all_of 10) in
    record { value = (two bit_xor (two bit_xor first second) shifted).lane }
