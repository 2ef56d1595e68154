-- A shard that served a request is a shard still.
use Rattle.std.proofs.Common.{◌≡◌, ℕ, Bool, true, false, not, List, is_some, IsSome}
use Rattle.std.specs.Prelude.{◌&&◌}
use Rattle.std.proofs.lemmas.Bool.{false≢true}
use Rattle.record_text.specs.declared.request.Request.{Request}
use Rattle.host_shard.specs.Shard.{key_path_in, Shard}
use Rattle.host_shard.specs.Mirrors.{IsShard}
use Rattle.host_plan.specs.Request.{is_read}

-- touches don't matter
pub other_touches : (longest : ℕ) (shard : Shard) (touches : List Bool → ℕ) → IsShard longest shard → IsShard longest (record shard { touches = touches })
other_touches longest shard touches fits = record { below_root = fits.below_root; no_data = fits.no_data; kinds = fits.kinds }

-- a key that is read has a record
pub read_there : (shard : Shard) (request : Request) → is_read shard request ≡ true → IsSome (shard.records (key_path_in shard request.key))
read_there shard request is = go request.put (is_some (shard.records (key_path_in shard request.key))) is
  where
    go : (put there : Bool) → (not put && there) ≡ true → there ≡ true
    go true there both = absurd (false≢true both)
    go false there both = both
