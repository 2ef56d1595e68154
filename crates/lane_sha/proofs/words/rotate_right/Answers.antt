use Rattle.std.proofs.Common.{◌-◌, ◌*◌, ◌/◌, ◌%◌, ◌^◌, bit_or, slice_index, ◌∙◌}
use Rattle.lane_sha.proofs.WordLemmas.{self, all_of, two, shifts_rotate}
use Rattle.lane_sha.proofs.words.rotate_right.Goals as goal

pub returns : goal.returns
returns c =
    let k = c.args.k in
    let x = self c.fits-x.0 in
    let shifted = two bit_or (two (λ x n. x / 2 ^ n) x (all_of k)) (two (λ x n. x * 2 ^ n % 2 ^ 32) x (all_of (32 - k))) in
    record { value = λ j h. shifted.lane j h ∙ shifts_rotate (slice_index c.args.x j) k c.requires.low c.requires.high }
