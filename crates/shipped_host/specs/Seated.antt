-- Seats that mirror what the verifiers hold of them: a shard, and its hot places.
use Rattle.std.specs.Prelude.{ℕ, ◌≡◌, Bool, List, ◌∷◌, length, get_or}
use Rattle.std.specs.List.{AllByRecursion, flat_map}
use Rattle.record_text.specs.declared.element.Element.{Element}
use Rattle.record_text.specs.Value.{IsBlob}
use Rattle.merkle_records.specs.Merkle.{Digest}
use Rattle.host_shard.specs.Content.{Content, cold, hot, vacant, wide_at, pending}
use Rattle.host_shard.specs.Shard.{Shard}
use Rattle.host_shard.specs.Mirrors.{HasKeyOf}
use Rattle.host_laws.specs.Served.{waiting}
use Rattle.host_laws.specs.Mirroring.{IsMirrored}
use Rattle.protection_moves.specs.Stage.{hot_records, hot_paths}
use Rattle.shipped_host.specs.ShippedHost.{hot_places}

-- the elements with which what is in these seats waits
abbrev pub waiting_at : List Content → List Element
waiting_at seats = flat_map (λ content. waiting (pending content)) seats

-- the content of a hot place
abbrev pub IsHotPlace : Content → Type 0
IsHotPlace (cold shard) = ⊥
IsHotPlace (hot record') = Unit {0}
IsHotPlace vacant = Unit {0}

-- of which tree the shard among seats is, which is the first
abbrev pub wide_among : List Content → Bool
wide_among seats = wide_at (get_or seats 0 vacant)

-- The seats are a shard and its four hot places. The shard mirrors where the records in these are hot, each of them has a value of
-- its kind, and its key is one of the shard's tree.
pub record SeatsMirror (longest : ℕ) (digest : Digest) (seats : List Content) : Type 0 where
  pub shard : Shard
  pub places : List Content
  pub is : seats ≡ cold shard ∷ places
  pub four : length places ≡ hot_places
  pub hot_alone : AllByRecursion IsHotPlace places
  pub mirrored : IsMirrored longest digest shard (hot_paths places)
  pub blobs : AllByRecursion (λ found. IsBlob longest found.value) (hot_records places)
  pub in_range : AllByRecursion (HasKeyOf shard) (hot_records places)
