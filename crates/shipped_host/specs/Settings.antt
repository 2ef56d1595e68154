-- The numbers of a shipped host.
use Rattle.std.specs.Prelude.{◌≡◌, ℕ, zero, suc, ◌^◌, ◌<◌, nat_le, Bool, true, false, IfSome, None, if◌then◌else◌}
use Rattle.lamport_clocks.specs.Header.{IsHeader}
use Rattle.record_text.specs.Tree.{wide_of}
use Rattle.host_plan.specs.Setup.{IsShardCount}
use Rattle.shipped_host.specs.declared.settings.Settings.{Settings}

-- how many entries a verifier of the shipped host may cache, where the keys are of this tree
abbrev pub shipped_cache : Bool → ℕ
shipped_cache false = 128
shipped_cache true = 256

-- The numbers are in their ranges, and the caches are the shipped host's. In a rolling host no key becomes hot.
pub record IsSettings (settings : Settings) : Type 0 where
  pub header : IsHeader settings.header
  pub cache : settings.header.cache ≡ shipped_cache (wide_of settings.header)
  pub shards : IsShardCount settings.shards
  pub hot : IfSome settings.hot (λ least. 0 < least)
  pub cold : settings.rolling ≡ true → settings.hot ≡ None

-- the greatest number of bits, up to a bound, that have no more than so many values
abbrev pub bits_within : ℕ → ℕ → ℕ
bits_within zero shards = 0
bits_within (suc most) shards = if nat_le (2 ^ suc most) shards then suc most else bits_within most shards

-- how many bits a frontier has, where there are so many shards
abbrev pub frontier_bits : ℕ → ℕ
frontier_bits shards = bits_within 10 shards
