-- Numbers in their ranges serve the proofs.
use Rattle.std.proofs.Common.{◌≡◌, ℕ, zero, suc, ◌^◌, ◌<◌, ◌≤◌, Bool, true, false, nat_le, if◌then◌else◌, refl, arith}
use Rattle.std.proofs.lemmas.Bool.Decides.{nat_tests}
use Rattle.std.proofs.lemmas.Nat.{pow_pos}
use Rattle.std.proofs.Math.Nat.{pow-suc}
use Rattle.tree_keys.specs.Path.{key_bits}
use Rattle.record_text.specs.Tree.{wide_of}
use Rattle.host_plan.specs.Setup.{IsShardCount}
use Rattle.shipped_host.specs.Settings.{shipped_cache, bits_within}
use Rattle.host_fits.specs.Promise.{CanRun}
use Rattle.host_fits.proofs.Keeping.{Setting, IsSetting}

bits_most : (most shards : ℕ) → bits_within most shards ≤ most
bits_most zero shards = omega arith
bits_most (suc most) shards = go (bits_most most shards) (nat_le (2 ^ suc most) shards)
  where
    go : bits_within most shards ≤ most → (b : Bool) → (if b then suc most else bits_within most shards) ≤ suc most
    go fewer true = omega arith
    go fewer false = omega (arith, fewer)

bits_power : (most shards : ℕ) → 1 ≤ shards → 2 ^ bits_within most shards ≤ shards
bits_power zero shards one = omega (arith, one)
bits_power (suc most) shards one = go (bits_power most shards one) (nat_le (2 ^ suc most) shards) refl
  where
    go : 2 ^ bits_within most shards ≤ shards → (b : Bool) → nat_le (2 ^ suc most) shards ≡ b → 2 ^ (if b then suc most else bits_within most shards) ≤ shards
    go fewer true within = grind (arith, nat_tests)
    go fewer false past = fewer

bits_some : (most shards : ℕ) → 2 ≤ shards → 0 < bits_within (suc most) shards
bits_some zero shards two = go (nat_le 2 shards) refl
  where
    go : (b : Bool) → nat_le 2 shards ≡ b → 0 < (if b then 1 else 0)
    go true within = omega arith
    go false past = absurd (grind (arith, nat_tests))
bits_some (suc most) shards two = go (bits_some most shards two) (nat_le (2 ^ suc (suc most)) shards)
  where
    go : 0 < bits_within (suc most) shards → (b : Bool) → 0 < (if b then suc (suc most) else bits_within (suc most) shards)
    go fewer true = omega arith
    go fewer false = fewer

two_shards : (shards : ℕ) → IsShardCount shards → 2 ≤ shards
two_shards shards is = go is.bits is.some is.power
  where
    go : (bits : ℕ) → 0 < bits → shards ≡ 2 ^ bits → 2 ≤ shards
    go zero some power = absurd (omega (arith, some))
    go (suc bits) some power = omega (arith, power, pow-suc 2 bits, pow_pos bits)

-- keys of either tree have more bits than the frontiers of the most shards
key_longer : (wide : Bool) → 10 < key_bits wide
key_longer true = omega arith
key_longer false = omega arith

-- and the shipped caches have room for each path above a key
cache_room : (wide : Bool) → key_bits wide < shipped_cache wide
cache_room true = omega arith
cache_room false = omega arith

pub is_setting : (setting : Setting) → CanRun setting.functions setting.settings setting.script → IsSetting setting
is_setting setting can = record {
  some = can.in_range.header.some_verifiers;
  shards = record {
    some = bits_some 9 setting.settings.shards two;
    short = omega (arith, bits_most 10 setting.settings.shards, key_longer (wide_of setting.settings.header));
    room = omega (arith, bits_most 10 setting.settings.shards, key_longer (wide_of setting.settings.header), room);
    counters = omega (arith, bits_power 10 setting.settings.shards (omega (arith, two)), can.counters);
  };
  room = room;
  digests = can.digests;
  threshold = can.in_range.hot;
}
  where
    two : 2 ≤ setting.settings.shards
    two = two_shards setting.settings.shards can.in_range.shards

    room : key_bits (wide_of setting.settings.header) < setting.settings.header.cache
    room = omega (arith, cache_room (wide_of setting.settings.header), can.in_range.cache)
