-- The bundle that a vault has of the rounds so far.
use Rattle.std.specs.Prelude.{◌≡◌, ℕ, ◌<◌, ◌^◌, List, ◌++◌, length, Option, Some, None}
use Rattle.std.specs.List.{AllByRecursion}
use Rattle.fv_outside.specs.Written.{Grows, GrowsByFront}
use Rattle.lamport_clocks.specs.declared.header.Header.{Header}
use Rattle.lamport_clocks.specs.Header.{IsHeader}
use Rattle.bundle_frames.specs.Bundle.{header_text}
use Rattle.bundle_report.specs.Logged.{Logged, logged_of}
use Rattle.host_rounds.specs.Round.{rounds_text, logs_in}

-- a good header, these logs, and nothing bad
abbrev pub logged_whole : Header → List (List ℕ) → Logged
logged_whole header logs = record { header = Some header; logs = logs; bad = None }

-- Bytes that are the bundle of these rounds: the header, and round by round the frames of all verifiers. The rounds join to the logs.
pub record IsBundle (header : Header) (logs : List (List ℕ)) (rounds : List (List (List ℕ))) (bytes : List ℕ) : Type 0 where
  pub header_good : IsHeader header
  pub first : header.first < 2 ^ 32
  pub each : AllByRecursion (λ round. length round ≡ header.verifiers) rounds
  pub bytes_are : bytes ≡ header_text header ++ rounds_text rounds
  pub logs_are : logs ≡ logs_in header.verifiers rounds
  pub means : logged_of bytes ≡ logged_whole header logs

-- a sink grew by the bundle of these rounds
pub record HasBundle (header : Header) (logs : List (List ℕ)) (rounds : List (List (List ℕ))) (before now : Option (List ℕ)) : Type 0 where
  pub bytes : List ℕ
  pub is_bundle : IsBundle header logs rounds bytes
  pub grown : Grows before now bytes

-- a sink grew by a front of it
pub record HasFront (header : Header) (logs : List (List ℕ)) (rounds : List (List (List ℕ))) (before now : Option (List ℕ)) : Type 0 where
  pub bytes : List ℕ
  pub is_bundle : IsBundle header logs rounds bytes
  pub grown : GrowsByFront before now bytes
