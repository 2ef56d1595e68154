-- How far a bundle was read from a source, and what is ahead.
use Rattle.std.specs.Prelude.{◌≡◌, ℕ, ◌+◌, ◌≤◌, List, [], ◌∷◌, ◌++◌, length, take, drop, ⊤, Option, Some, None, Result, Ok, Err}
use Rattle.lamport_clocks.specs.declared.header.Header.{Header}
use Rattle.bundle_frames.specs.declared.coming.Next.{Next}
use Rattle.bundle_frames.specs.declared.coming.Next.TheVariants.{Head, Frame, End}
use Rattle.fv_outside.specs.declared.failure.Failure.{Failure}
use Rattle.bundle_frames.specs.Bundle.{Bundle, with_frames}
use Rattle.bundle_frames.specs.Extent.{end_behind}
use Rattle.bundle_frames.specs.Progress.{Progress, start, start_behind, rest_of}

-- How far the bundle was split, and the bytes that were read and are not split yet; how many were read in all, and
-- how many may be.
pub record Reading : Type 0 where
  pub progress : Progress
  pub unread : List ℕ
  pub taken : ℕ
  pub limit : ℕ

-- before the first byte
abbrev pub opening_reading : ℕ → Reading
opening_reading limit = record { progress = start; unread = []; taken = 0; limit = limit }

-- Behind so many bytes of a bundle with this header, which are whole frames to their end, where these that follow were read and are not
-- split yet. All of them count among the bytes that were read, and among those that may be.
abbrev pub resumed_reading : Header → ℕ → ℕ → List ℕ → Reading
resumed_reading header offset limit unread =
    record { progress = start_behind header offset; unread = unread; taken = offset + length unread; limit = limit }

-- what is left of the bundle, where these bytes follow those that were read
abbrev pub ahead : Reading → List ℕ → Bundle
ahead reading more = rest_of reading.progress (reading.unread ++ more)

-- where reading ends, where these bytes follow
abbrev pub end_ahead : Reading → List ℕ → ℕ
end_ahead reading more = end_behind reading.progress (reading.unread ++ more)

-- what came, a frame with this body, and the rest behind it
abbrev pub next_then : Result Next Failure → List ℕ → Bundle → Bundle
next_then (Ok (Head header)) body rest = rest
next_then (Ok (Frame verifier)) body rest = with_frames (record { verifier = verifier; body = body } ∷ []) rest
next_then (Ok End) body rest = rest
next_then (Err stop) body rest = rest

-- the header that is known then
abbrev pub header_then : Result Next Failure → Option Header → Option Header
header_then (Ok (Head header)) known = Some header
header_then (Ok (Frame verifier)) known = known
header_then (Ok End) known = known
header_then (Err stop) known = known

-- the same, where a header or a frame came of the bytes that were read, or none
abbrev pub came_then : Option Next → List ℕ → Bundle → Bundle
came_then None body rest = rest
came_then (Some next) body rest = next_then (Ok next) body rest

abbrev pub header_known : Option Next → Option Header → Option Header
header_known None known = known
header_known (Some next) known = header_then (Ok next) known

-- all that was read is split, and no header and no frame is left in it
pub record IsSpent (reading : Reading) : Type 0 where
  pub unread : reading.unread ≡ []
  pub no_header : (ahead reading []).header ≡ reading.progress.header
  pub no_frames : (ahead reading []).frames ≡ []

-- where a source tells its bytes: so many of the first were read, and those behind them are left
abbrev pub HasRead : ℕ → Option (List ℕ) → Option (List ℕ) → Type 0
HasRead count None new = ⊤
HasRead count (Some bytes) None = ⊥
HasRead count (Some bytes) (Some rest) = (count ≤ length bytes) × (rest ≡ drop count bytes)

-- where a source tells its bytes: what one function says of so many of the first and of any bytes behind them, another
-- says of those behind them
abbrev pub ReadsAs : {A : Type 0} → ℕ → Option (List ℕ) → (List ℕ → A) → (List ℕ → A) → Type 0
ReadsAs count None before after = ⊤
ReadsAs count (Some bytes) before after = (more : List ℕ) → before (take count bytes ++ more) ≡ after more
