-- The logs of verifiers, with what frames add to each.
use Rattle.std.specs.Prelude.{ℕ, zero, suc, List, [], ◌∷◌, ◌++◌, Option, Some, None}
use Rattle.lamport_clocks.specs.declared.header.Header.{Header}
use Rattle.bundle_frames.specs.declared.coming.Next.{Next}
use Rattle.bundle_frames.specs.declared.coming.Next.TheVariants as next
use Rattle.bundle_frames.specs.Bundle.{Frame, log_of}

-- how many logs there are: one for each verifier of the header, none before there is one
abbrev pub log_count : Option Header → ℕ
log_count None = 0
log_count (Some header) = header.verifiers

-- so many logs of no bytes
abbrev pub empty_logs : ℕ → List (List ℕ)
empty_logs zero = []
empty_logs (suc count) = [] ∷ empty_logs count

-- the logs of verifiers, the first of which has this number, with what frames add to each
abbrev pub joined_from : ℕ → List (List ℕ) → List Frame → List (List ℕ)
joined_from number [] frames = []
joined_from number (log ∷ logs) frames = (log ++ log_of number frames) ∷ joined_from (suc number) logs frames

-- one log with bytes more
abbrev pub appended : ℕ → List ℕ → List (List ℕ) → List (List ℕ)
appended index bytes [] = []
appended zero bytes (log ∷ logs) = (log ++ bytes) ∷ logs
appended (suc index) bytes (log ∷ logs) = log ∷ appended index bytes logs

-- the logs so far, or empty ones where the header is not read yet
abbrev pub logs_so_far : Option Header → List (List ℕ) → Option Header → List (List ℕ)
logs_so_far None logs found = empty_logs (log_count found)
logs_so_far (Some header) logs found = logs

-- the logs after what came of their bundle: empty ones for a header, and a frame's body behind its verifier's log
abbrev pub logs_then : Next → List ℕ → List (List ℕ) → List (List ℕ)
logs_then (next.Head header) body logs = empty_logs header.verifiers
logs_then (next.Frame verifier) body logs = appended verifier body logs
logs_then next.End body logs = logs
