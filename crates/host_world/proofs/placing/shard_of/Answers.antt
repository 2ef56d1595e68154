use Rattle.std.proofs.Common.{◌≡◌, ℕ, ◌-◌, ◌/◌, ◌%◌, ◌^◌, ◌<◌, Bool, List, take, refl, sym, ◌∙◌, ap, subst, arith}
use Rattle.std.proofs.lemmas.Nat.{mod_below, pow_pos}
use Rattle.std.proofs.Math.Nat.{mod-eq_of_lt}
use Rattle.tree_keys.specs.Bits.{number_of, bits_of}
use Rattle.tree_keys.specs.Path.{key_bits}
use Rattle.shipped_host.specs.Settings.{frontier_bits}
use Rattle.host_world.proofs.PlacingLemmas.{shift_below, shard_below, shard_is, low_key}
use Rattle.host_world.proofs.placing.shard_of.Goals as goal
use Rattle.host_world.proofs.placing.shard_of.Goals.{then-wide, else-wide}

-- the number has the key's lowest bits
own : (c : goal.After-row_known-1) → c.if-wide.key ≡ c.args.key % 2 ^ key_bits c.args.wide
own c = elim c.if-wide.branch [
  | then-wide w ↦ w.key-is ∙ subst (λ (wide : Bool). c.args.key ≡ c.args.key % 2 ^ key_bits wide) (sym w.if-wide.true) (sym (mod-eq_of_lt c.ranges.key.fits))
  | else-wide w ↦ w.key-is ∙ subst (λ (wide : Bool). c.args.key % 2 ^ 64 ≡ c.args.key % 2 ^ key_bits wide) (sym w.if-wide.false) refl
]

-- and no more
small : (c : goal.After-row_known-1) → c.if-wide.key < 2 ^ key_bits c.args.wide
small c = subst (λ (n : ℕ). n < 2 ^ key_bits c.args.wide) (sym (own c)) (mod_below c.args.key (2 ^ key_bits c.args.wide) (pow_pos (key_bits c.args.wide)))

width : (c : goal.After-row_known-1) → c.from.result ≡ key_bits c.args.wide
width c = c.from.ensures ∙ c.key_bits.ensures.value

below : (c : goal.After-row_known-1) → c.if-wide.key / 2 ^ (c.from.result - c.ilog2.result) < c.args.shards
below c =
    subst (λ (n : ℕ). c.if-wide.key / 2 ^ (n - c.ilog2.result) < c.args.shards) (sym (width c))
    (shard_below c.args.wide c.if-wide.key c.args.shards c.ilog2.result (small c) c.requires.shards c.ilog2.ensures.power_le c.ilog2.ensures.next_power_gt)

pub overflow_shr-result : goal.overflow_shr-result
overflow_shr-result c =
    subst (λ (n : ℕ). n - c.ilog2.result < 128) (sym (width c))
    (shift_below c.args.wide c.args.shards c.ilog2.result c.requires.shards c.ilog2.ensures.power_le c.ilog2.ensures.next_power_gt).1

pub overflow_cast-result-2 : goal.overflow_cast-result-2
overflow_cast-result-2 c =
    let few = below c in
    grind (arith, few, c.ranges.shards.fits)

pub returns-clause-first_bits : goal.returns-clause-first_bits
returns-clause-first_bits c =
    subst (λ (n : ℕ). c.if-wide.key / 2 ^ (n - c.ilog2.result) ≡ number_of (take (frontier_bits c.args.shards) (bits_of (key_bits c.args.wide) c.args.key))) (sym (width c))
    (shard_is c.args.wide c.if-wide.key c.args.shards c.ilog2.result (small c) c.requires.shards c.ilog2.ensures.power_le c.ilog2.ensures.next_power_gt
    ∙ ap (λ (bits : List Bool). number_of (take (frontier_bits c.args.shards) bits)) (low_key c.args.wide c.args.key c.if-wide.key (own c)))

pub returns-clause-there : goal.returns-clause-there
returns-clause-there c = below c
