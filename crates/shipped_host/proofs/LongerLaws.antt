-- What holds where data values have so many bytes at most also holds where they may have more.
use Rattle.std.proofs.Common.{ℕ, ◌≤◌, nat_lt, Bool, true, false, if◌then◌else◌, List, [], ◌∷◌, Option, Some, None, arith}
use Rattle.std.specs.List.{AllByRecursion}
use Rattle.lamport_clocks.specs.declared.header.Header.{Header}
use Rattle.record_text.specs.declared.value.Value.{Value}
use Rattle.record_text.specs.declared.value.Value.TheVariants as values
use Rattle.record_text.specs.Value.{IsBlob, IsOf}
use Rattle.record_text.specs.Longest.{longest_blob, longest_of}
use Rattle.merkle_records.specs.Merkle.{Digest}
use Rattle.host_shard.specs.declared.content.HotRecord.{HotRecord}
use Rattle.host_shard.specs.Content.{Content, cold, hot, vacant}
use Rattle.host_shard.specs.Mirrors.{IsShard}
use Rattle.host_shard.specs.Shard.{Shard}
use Rattle.host_plan.specs.Plan.{Owns}
use Rattle.host_laws.specs.Mirroring.{IsMirrored, ContentMirrors}
use Rattle.protection_moves.specs.Stage.{hot_records}
use Rattle.shipped_host.specs.Seated.{SeatsMirror}

-- a bundle allows no more bytes than a data value of the code can have
pub longest_fits : (header : Header) → longest_of header ≤ longest_blob
longest_fits header = go (nat_lt header.version 3)
  where
    go : (b : Bool) → (if b then 64 else longest_blob) ≤ longest_blob
    go true = omega arith
    go false = omega arith

module _ (longest more : ℕ) (fits : longest ≤ more) where
  pub blob_longer : (blob : Option (List ℕ)) → IsBlob longest blob → IsBlob more blob
  blob_longer None is = tt
  blob_longer (Some bytes) is = omega (arith, is, fits)

  of_longer : (path : List Bool) (value : Value) → IsOf longest path value → IsOf more path value
  of_longer path (values.Blob blob) kind = (kind.0, blob_longer blob kind.1)
  of_longer path (values.Node node) kind = kind

  shard_longer : (shard : Shard) → IsShard longest shard → IsShard more shard
  shard_longer shard is = record {
    below_root = is.below_root;
    no_data = is.no_data;
    kinds = λ path value there. of_longer path value (is.kinds path value there);
  }

  pub owns_longer : (content : Content) (key : ℕ) → Owns longest content key → Owns more content key
  owns_longer (cold shard) key own = (shard_longer shard own.0, own.1)
  owns_longer (hot found) key own = own
  owns_longer vacant key own = own

  mirrored_longer : (digest : Digest) (shard : Shard) (hot_keys : List (List Bool)) → IsMirrored longest digest shard hot_keys → IsMirrored more digest shard hot_keys
  mirrored_longer digest shard hot_keys is = record { fits = shard_longer shard is.fits; mirrors = is.mirrors }

  pub content_longer : (digest : Digest) (hot_keys : List (List Bool)) (content : Content) → ContentMirrors longest digest hot_keys content → ContentMirrors more digest hot_keys content
  content_longer digest hot_keys (cold shard) is = mirrored_longer digest shard hot_keys is
  content_longer digest hot_keys (hot found) is = blob_longer found.value is
  content_longer digest hot_keys vacant is = tt

  blobs_longer : (records : List HotRecord) → AllByRecursion (λ found. IsBlob longest found.value) records → AllByRecursion (λ found. IsBlob more found.value) records
  blobs_longer [] all = tt
  blobs_longer (found ∷ records) all = (blob_longer found.value all.0, blobs_longer records all.1)

  pub seats_longer : (digest : Digest) (seats : List Content) → SeatsMirror longest digest seats → SeatsMirror more digest seats
  seats_longer digest seats is = record {
    shard = is.shard;
    places = is.places;
    is = is.is;
    four = is.four;
    hot_alone = is.hot_alone;
    mirrored = mirrored_longer digest is.shard _ is.mirrored;
    blobs = blobs_longer (hot_records is.places) is.blobs;
    in_range = is.in_range;
  }
