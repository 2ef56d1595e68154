use Rattle.std.proofs.Common.{◌≡◌, take}
use Rattle.record_hash.specs.ToyDigests.{toy_sum}
use Rattle.record_hash.proofs.toy_digests.sum_of.Given as goal

-- the sum of the bytes so far
abbrev pub invariant-loop-byte : goal.invariant-loop-byte
invariant-loop-byte l = l.sum ≡ toy_sum (take l.byte-index l.bytes)
