-- Parcels on their way: what they hold, and how long they are.
use Rattle.std.specs.Prelude.{◌≡◌, ℕ, ◌≤◌, false, List, length}
use Rattle.std.specs.List.{All, flat_map}
use Rattle.log_rings.specs.declared.parcel.Parcel.{Parcel}
use Rattle.log_rings.specs.declared.lane.Sender.{Sender}
use Rattle.log_rings.specs.Lanes.{sent}

-- the bytes of parcels, one behind another
abbrev pub bytes_of : List Parcel → List ℕ
bytes_of parcels = flat_map (λ parcel. parcel.buffer) parcels

-- the bytes of all parcels that were sent
abbrev pub bytes_by : Sender → List ℕ
bytes_by sender = bytes_of (sent sender)

-- a parcel that isn't its worker's last of the round has 4,096 bytes or more
abbrev pub IsLongEnough : Parcel → Type 0
IsLongEnough parcel = parcel.last ≡ false → 4096 ≤ length parcel.buffer

-- a parcel has no more than 65,536 bytes
abbrev pub IsShortEnough : Parcel → Type 0
IsShortEnough parcel = length parcel.buffer ≤ 65536

-- each parcel that was sent and isn't its worker's last of the round is long enough
abbrev pub SendsEnough : Sender → Type 0
SendsEnough sender = All IsLongEnough (sent sender)

-- none that was sent is too long
abbrev pub SendsShort : Sender → Type 0
SendsShort sender = All IsShortEnough (sent sender)
