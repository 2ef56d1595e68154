-- The two ends of a feed: what a worker has sent of its log, and what its verifier's run has read.
use Rattle.std.specs.Prelude.{◌≡◌, ℕ, ◌+◌, ◌-◌, ◌^◌, ◌<◌, ◌≤◌, Bool, true, false, List, [], ◌∷◌, ◌++◌, length, min}
use Rattle.std.specs.List.{All}
use Rattle.record_hash.specs.Functions.{DigestFunctions}
use Rattle.merkle_records.specs.Scheme.{scheme_of}
use Rattle.verifier_run.specs.Kept.{keeps_operations}
use Rattle.verifier_run.specs.Progress.{fed, weight}
use Rattle.certified_epochs.specs.declared.fed_run.FedRun.{FedRun}
use Rattle.log_rings.specs.declared.parcel.Parcel.{Parcel}
use Rattle.log_rings.specs.Lanes.{sent, received_by, AreEnds, SameSender, SameReceiver}
use Rattle.log_rings.specs.Lanes as lanes
use Rattle.verifier_feeds.specs.Parcels.{IsLongEnough, IsShortEnough}
pub use Rattle.verifier_feeds.specs.Parcels.{bytes_of}
use Rattle.verifier_feeds.specs.declared.outbox.Outbox.{Outbox}
use Rattle.verifier_feeds.specs.declared.inbox.Inbox.{Inbox}

-- ---- the worker's end

-- the bytes of its log that were sent
abbrev pub sent_bytes : Outbox → List ℕ
sent_bytes outbox = bytes_of (sent outbox.sender)

-- What was sent is a front of this log, and the rest stands behind it.
pub record HasSentFrontOf (outbox : Outbox) (log : List ℕ) : Type 0 where
  pub rest : List ℕ
  pub is : log ≡ sent_bytes outbox ++ rest

-- both are the sending end of one lane
abbrev pub SameOutbox : Outbox → Outbox → Type 0
SameOutbox old new = SameSender old.sender new.sender

-- how many parcels can be sent at least before the other end has taken one
abbrev pub free_room : Outbox → ℕ
free_room outbox = lanes.room outbox.sender

-- there is a place for the last parcel of the round
abbrev pub KeepsPlace : Outbox → Type 0
KeepsPlace outbox = 0 < free_room outbox

-- where 4,096 bytes or more of this log wait, the sender knows of no room but the kept place
abbrev pub WaitsForRoom : Outbox → List ℕ → Type 0
WaitsForRoom outbox log = 4096 ≤ length log - length (sent_bytes outbox) → free_room outbox ≤ 1

-- each parcel that was sent and isn't its worker's last of the round has 4,096 bytes or more
abbrev pub AreLongEnough : Outbox → Type 0
AreLongEnough outbox = All IsLongEnough (sent outbox.sender)

-- no parcel that was sent has more than 65,536 bytes
abbrev pub AreShortEnough : Outbox → Type 0
AreShortEnough outbox = All IsShortEnough (sent outbox.sender)

-- The last parcel that was sent has this mark.
pub record EndsMarked (outbox : Outbox) (mark : Bool) : Type 0 where
  pub parcels : List Parcel
  pub parcel : Parcel
  pub sent_are : sent outbox.sender ≡ parcels ++ parcel ∷ []
  pub marked : parcel.last ≡ mark

-- the last parcel that was sent is marked as the worker's last of the round
abbrev pub HasEnded : Outbox → Type 0
HasEnded outbox = EndsMarked outbox true

-- ---- the verifier's end

-- both are the receiving end of one lane
abbrev pub SameInbox : Inbox → Inbox → Type 0
SameInbox old new = SameReceiver old.receiver new.receiver

-- the run
abbrev pub run_of : Inbox → FedRun
run_of inbox = inbox.fed

-- how many parcels its verifier took from lanes and fed, up to the last number of 64 bits
abbrev pub parcels_of : Inbox → ℕ
parcels_of inbox = inbox.parcels

-- a count with these parcels, up to the last number of 64 bits
abbrev pub counted_on : ℕ → List Parcel → ℕ
counted_on count parcels = min (count + length parcels) (2 ^ 64 - 1)

-- whether memory was wanting
abbrev pub is_wanting : Inbox → Bool
is_wanting inbox = inbox.wanting

-- the run was fed no more bytes than are counted
abbrev pub HasRoom : Inbox → Type 0
HasRoom inbox = weight inbox.fed.run ≤ inbox.bytes

-- The run has read these bytes: whatever comes next, it makes of it what the old one makes of these bytes and that.
pub record HasRead (functions : DigestFunctions) (bytes : List ℕ) (old new : FedRun) : Type 0 where
  pub header : new.run.course.machine.header ≡ old.run.course.machine.header
  pub goes_on : (more : List ℕ) → fed keeps_operations (scheme_of functions old.run.course.machine.header) new.run more
      ≡ fed keeps_operations (scheme_of functions old.run.course.machine.header) old.run (bytes ++ more)

-- An inbox whose run has read a piece, and for which memory was not wanting before.
pub record GoesOnBy (functions : DigestFunctions) (piece : List ℕ) (old new : Inbox) : Type 0 where
  pub went : old.wanting ≡ false
  pub is_fed : new.fed.is_starved ≡ false
  pub header : new.fed.run.course.machine.header ≡ old.fed.run.course.machine.header
  pub read : new.fed.run ≡ fed keeps_operations (scheme_of functions old.fed.run.course.machine.header) old.fed.run piece

-- What an inbox has read in all, with these bytes behind what it had read before, where memory is wanting for none.
abbrev pub ReadsOn : DigestFunctions → List ℕ → Inbox → Inbox → Type 0
ReadsOn functions more old new =
    (first : FedRun) (bytes : List ℕ) → (is_wanting old ≡ false → HasRead functions bytes first (run_of old))
    → is_wanting new ≡ false → HasRead functions (bytes ++ more) first (run_of new)

-- ---- both

-- They are the two ends of one lane.
abbrev pub AreEndsOfOne : Outbox → Inbox → Type 0
AreEndsOfOne outbox inbox = AreEnds outbox.sender inbox.receiver

-- A feed that is open: nothing was sent, nothing came out, and this is its run.
pub record IsOpen (run : FedRun) (outbox : Outbox) (inbox : Inbox) : Type 0 where
  pub ends : AreEndsOfOne outbox inbox
  pub empty : sent_bytes outbox ≡ []
  pub capacity : free_room outbox ≡ 17
  pub fresh : received_by inbox.receiver ≡ []
  pub run_is : run_of inbox ≡ run
  pub room : HasRoom inbox
  pub going : is_wanting inbox ≡ false
