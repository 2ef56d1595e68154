use Rattle.std.proofs.Common.{◌≡◌, ◌++◌, map, take, drop, bit_xor}
use Rattle.record_hash.proofs.hmac_sha256.masked.Given as goal

-- the bytes so far are masked, and the others are the block's
abbrev pub invariant-loop-byte : goal.invariant-loop-byte
invariant-loop-byte l =
    l.byte-items ≡ map (λ byte. bit_xor byte l.mask) (take l.byte-index l.block) ++ drop l.byte-index l.block
