use Rattle.record_hash.specs.Functions.{DigestFunctions}
use Rattle.std.proofs.Common.{◌≡◌, ◌<◌, ℕ, slice_index}
use Rattle.lane_sha.specs.Lanes.{block}
use Rattle.command_window.specs.Window.{text_at, GoesOn}
use Rattle.command_window.proofs.hashing.note_digests.Given as goal

-- more is known of the texts
abbrev pub invariant-places : goal.invariant-places
invariant-places l = (functions : DigestFunctions)
    → ((j : ℕ) → j < 8 → block j l.initial.digests ≡ functions.digest (text_at l.initial.asked (slice_index l.initial.places j)))
    → GoesOn functions l.initial.asked l.asked
