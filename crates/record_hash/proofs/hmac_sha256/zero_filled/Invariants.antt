use Rattle.std.proofs.Common.{◌≡◌, ◌++◌, ◌-◌, take, replicate}
use Rattle.record_hash.proofs.hmac_sha256.zero_filled.Given as goal

-- the bytes so far, and zeros behind them
abbrev pub invariant-loop-i : goal.invariant-loop-i
invariant-loop-i l = l.block ≡ take l.i l.bytes ++ replicate (64 - l.i) 0
