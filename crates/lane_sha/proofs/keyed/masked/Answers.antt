use Rattle.std.proofs.Common.{bit_xor, arith}
use Rattle.std.proofs.lemmas.Simd.{zip2_splat}
use Rattle.lane_sha.proofs.keyed.masked.Goals as goal

pub returns : goal.returns
returns c = record { value = zip2_splat bit_xor c.args.block.now 64 c.args.mask (omega arith) }
