use Rattle.std.proofs.Common.{◌≡◌, ℕ, ◌<◌}
use Rattle.sha2.specs.Sha256.{hash_after}
use Rattle.lane_sha.specs.Lanes.{lane}
use Rattle.lane_sha.specs.Padding.{padded_behind}
use Rattle.lane_sha.specs.Texts.{text}
use Rattle.lane_sha.proofs.texts.hash_values.Given as goal

-- each lane has the hash value behind as many blocks
abbrev pub invariant-blocks-2 : goal.invariant-blocks-2
invariant-blocks-2 l = (j : ℕ) → j < 8
    → lane j l.state ≡ hash_after l.start.hash (padded_behind l.start.taken (text j l.texts)) l.number
