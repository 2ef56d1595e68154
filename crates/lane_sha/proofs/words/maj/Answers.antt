use Rattle.std.proofs.Common.{bit_and, bit_xor}
use Rattle.lane_sha.proofs.WordLemmas.{self, two}
use Rattle.lane_sha.proofs.words.maj.Goals as goal

pub returns : goal.returns
returns c =
    let x = self c.fits-x.0 in
    let y = self c.fits-y.0 in
    let z = self c.fits-z.0 in
    record { value = (two bit_xor (two bit_xor (two bit_and x y) (two bit_and x z)) (two bit_and y z)).lane }
