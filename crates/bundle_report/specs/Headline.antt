-- What a certified report means: its operations are serial, or the exhibit defined from the bundle collides.
use Rattle.std.specs.Prelude.{◌≡◌, ℕ, zero, suc, ◌+◌, List, get_or, [], Option, Some, None}
use Rattle.record_hash.specs.Functions.{DigestFunctions}
use Rattle.record_hash.specs.ShaDigests.{sha_under}
use Rattle.lamport_clocks.specs.declared.header.Header.{Header}
use Rattle.record_text.specs.declared.exhibit.Exhibit.{Exhibit}
use Rattle.record_text.specs.declared.exhibit.Exhibit.TheVariants.{Clean}
use Rattle.record_text.specs.declared.operation.Operation.{Operation}
use Rattle.merkle_records.specs.Scheme.{Scheme, scheme_of}
use Rattle.stamp_order.specs.Merged.{up_to, of_verifier}
use Rattle.stamp_order.specs.Operations.{moment_of}
use Rattle.soundness.specs.History.{Event}
use Rattle.soundness.specs.Certified.{event_moment, operations_in, certified_count, certified_operations}
use Rattle.soundness.specs.Exhibit.{exhibit_of}
use Rattle.soundness.specs.Collision.{Collides}
use Rattle.soundness.specs.Sound.{IsSerialOrCollides}
use Rattle.bundle_report.specs.Logged.{logged_of}
use Rattle.bundle_report.specs.BundleReport.{histories_at}

-- the exhibit of the certified epochs of histories
abbrev pub certified_exhibit : Scheme → ℕ → List (List Event) → Exhibit
certified_exhibit scheme first histories = exhibit_of first (certified_count scheme first histories) histories

-- the exhibit of a bundle with this header, if it is good, and these logs
abbrev pub exhibit_at : DigestFunctions → Option Header → List (List ℕ) → Exhibit
exhibit_at functions None logs = Clean
exhibit_at functions (Some header) logs =
    certified_exhibit (scheme_of functions header) header.first (histories_at (scheme_of functions header) header logs)

-- that exhibit is a real collision
abbrev pub CollidesAt : DigestFunctions → Option Header → List (List ℕ) → Type 0
CollidesAt functions None logs = ⊥
CollidesAt functions (Some header) logs =
    Collides (scheme_of functions header) (exhibit_at functions (Some header) logs)

-- the operations of one verifier in so many epochs from the first on, as its own log has them
abbrev pub own_operations : ℕ → ℕ → List Event → List Operation
own_operations first zero history = []
own_operations first (suc count) history = operations_in (up_to event_moment (first + count) history)

-- the operations of each verifier stand in the order of its log, and none of its certified ones is left out
abbrev pub KeepsEachLog : Scheme → ℕ → List (List Event) → Type 0
KeepsEachLog scheme first histories =
    (verifier : ℕ) → of_verifier moment_of verifier (certified_operations scheme first histories)
    ≡ own_operations first (certified_count scheme first histories) (get_or histories verifier [])

-- The headline, of histories: the certified operations keep each verifier's order, and they are serial or the exhibit
-- collides.
pub record IsSoundIn (scheme : Scheme) (first : ℕ) (histories : List (List Event)) : Type 0 where
  pub order : KeepsEachLog scheme first histories
  pub serial : IsSerialOrCollides scheme (certified_exhibit scheme first histories) (certified_operations scheme first histories)

-- the same of a bundle with this header and these logs; where the header is bad nothing is certified
abbrev pub IsSoundAt : DigestFunctions → Option Header → List (List ℕ) → Type 0
IsSoundAt functions None logs = Unit {0}
IsSoundAt functions (Some header) logs =
    IsSoundIn (scheme_of functions header) header.first (histories_at (scheme_of functions header) header logs)

-- The headline, of any bytes.
abbrev pub IsSound : DigestFunctions → List ℕ → Type 0
IsSound functions bytes = IsSoundAt functions (logged_of bytes).header (logged_of bytes).logs

-- the same with SHA-256, and with HMAC under a key
abbrev pub IsShaSound : List ℕ → List ℕ → Type 0
IsShaSound key bytes = IsSound (sha_under key) bytes
