-- What is known of the two ends of a lane.
use Rattle.std.specs.Prelude.{ℕ, List}
use Rattle.rtrb.specs.Ring.{known_free, received, known_items, IsPair, SameProducer, SameConsumer}
use Rattle.rtrb.specs.Ring as ring
use Rattle.log_rings.specs.declared.parcel.Parcel.{Parcel}
use Rattle.log_rings.specs.declared.lane.Sender.{Sender}
use Rattle.log_rings.specs.declared.lane.Receiver.{Receiver}

-- every parcel that was sent so far, oldest first
abbrev pub sent : Sender → List Parcel
sent sender = ring.sent sender.ring

-- for how many parcels the sender knows that there is room
abbrev pub room : Sender → ℕ
room sender = known_free sender.ring

-- every parcel that was received so far, oldest first
abbrev pub received_by : Receiver → List Parcel
received_by receiver = received receiver.ring

-- the parcels that the receiver knows of and hasn't received yet, oldest first
abbrev pub waiting : Receiver → List Parcel
waiting receiver = known_items receiver.ring

-- the two ends of one lane
abbrev pub AreEnds : Sender → Receiver → Type 0
AreEnds sender receiver = IsPair sender.ring receiver.ring

-- both are the sending end of one lane
abbrev pub SameSender : Sender → Sender → Type 0
SameSender before now = SameProducer before.ring now.ring

-- both are the receiving end of one lane
abbrev pub SameReceiver : Receiver → Receiver → Type 0
SameReceiver before now = SameConsumer before.ring now.ring
