-- Numbers that words give are those of a host.
use Rattle.std.proofs.Common.{◌==◌, ◌<◌, ◌≤◌, ℕ, Bool, true, false, Option, Some, None, IfSome, refl, arith}
use Rattle.shipped_host.specs.Settings.{IsSettings, shipped_cache}
use Rattle.program_words.specs.declared.host_words.HostNumbers.{HostNumbers}
use Rattle.program_words.specs.HostWords.{AreHostNumbers}
use Rattle.fastver_top.specs.Running.{settings_for}

-- a threshold in its range is not zero
some_touches : (hot : Option ℕ) (most : ℕ) → IfSome hot (λ least. (1 ≤ least) × (least ≤ most)) → IfSome hot (λ least. 0 < least)
some_touches None most holds = tt
some_touches (Some least) most holds = omega (arith, holds.0)

-- a cache of either size
cache_in_range : (wide : Bool) → (4 ≤ shipped_cache wide) × (shipped_cache wide ≤ 65536)
cache_in_range false = (omega arith, omega arith)
cache_in_range true = (omega arith, omega arith)

pub settings_in_range : (numbers : HostNumbers) → AreHostNumbers numbers → IsSettings (settings_for numbers)
settings_in_range numbers are = record {
  header = record {
    some_version = are.some_version;
    version = are.version;
    some_verifiers = are.some_verifiers;
    verifiers = omega (arith, are.verifiers);
    some_cache = (cache_in_range (numbers.bits == 128)).0;
    cache = (cache_in_range (numbers.bits == 128)).1;
    some_end = are.some_end;
    end = are.end;
    bits = are.bits;
  };
  cache = refl;
  shards = record { bits = are.shards.bits; some = are.shards.some; most = are.shards.most; power = are.shards.power };
  hot = some_touches numbers.hot 1000000 are.hot;
  cold = are.cold;
}
