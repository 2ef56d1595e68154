use Rattle.std.proofs.Common.{◌≡◌, Bool, take, refl, subst, arith}
use Rattle.tree_keys.specs.Bits.{number_of, bits_of}
use Rattle.tree_keys.specs.Path.{key_bits}
use Rattle.merkle_records.specs.Merkle.{GivesDigests}
use Rattle.shipped_host.specs.Settings.{frontier_bits}
use Rattle.host_world.specs.Shown.{digests_of}
use Rattle.record_text.specs.Longest.{longest_of}
use Rattle.shipped_host.proofs.SeatLaws.{fits_blob}
use Rattle.host_world.proofs.PlacingLemmas.{shards_in, few_shards, five_seats, place_there, place_owns}
use Rattle.host_world.proofs.world.World.place_for.Goals as goal

pub index-requires : goal.index-requires
index-requires g c =
    let old = c.args.self.now in
    let functions = g.D.Digests.functions (digests_of old) in
    let digests : GivesDigests functions.digest = λ text. (g.met.D.Digests.text_digest_shape old.d.now text).size in
    omega (arith, c.shard_of-shard.ensures.there, shards_in functions digests old c.requires.behind.0 c.requires.behind.1)

pub overflow_cast-result : goal.overflow_cast-result
overflow_cast-result g c =
    let old = c.args.self.now in
    let functions = g.D.Digests.functions (digests_of old) in
    let digests : GivesDigests functions.digest = λ text. (g.met.D.Digests.text_digest_shape old.d.now text).size in
    let five = five_seats functions digests old c.requires.behind.0 c.requires.behind.1 c.shard_of-shard.result c.shard_of-shard.ensures.there c.index.result.now c.index.ensures in
    omega (arith, c.seat_of-seat.ensures.there, five)

pub overflow_add-result : goal.overflow_add-result
overflow_add-result g c =
    let old = c.args.self.now in
    let functions = g.D.Digests.functions (digests_of old) in
    let digests : GivesDigests functions.digest = λ text. (g.met.D.Digests.text_digest_shape old.d.now text).size in
    let few = few_shards functions digests old c.requires.behind.0 c.requires.behind.1 in
    let five = five_seats functions digests old c.requires.behind.0 c.requires.behind.1 c.shard_of-shard.result c.shard_of-shard.ensures.there c.index.result.now c.index.ensures in
    omega (arith, c.shard_of-shard.ensures.there, few, c.seat_of-seat.ensures.there, five)

pub returns-clause-there : goal.returns-clause-there
returns-clause-there g c =
    let old = c.args.self.now in
    let functions = g.D.Digests.functions (digests_of old) in
    let digests : GivesDigests functions.digest = λ text. (g.met.D.Digests.text_digest_shape old.d.now text).size in
    place_there functions digests old c.requires.behind.0 c.requires.behind.1
    c.shard_of-shard.result c.shard_of-shard.ensures.there c.index.result.now c.index.ensures _ c.seat_of-seat.result refl c.seat_of-seat.ensures.there

pub returns-clause-owns : goal.returns-clause-owns
returns-clause-owns g c = λ short.
    let old = c.args.self.now in
    let first = subst (λ (wide : Bool). c.shard_of-shard.result ≡ number_of (take (frontier_bits old.settings.shards) (bits_of (key_bits wide) c.args.request.now.key)))
    c.wide_of-wide.ensures.value c.shard_of-shard.ensures.first_bits in
    let functions = g.D.Digests.functions (digests_of old) in
    let digests : GivesDigests functions.digest = λ text. (g.met.D.Digests.text_digest_shape old.d.now text).size in
    place_owns functions digests old c.requires.behind.0 c.requires.behind.1
    c.shard_of-shard.result c.shard_of-shard.ensures.there c.index.result.now c.index.ensures _ c.seat_of-seat.result refl c.seat_of-seat.ensures.there
    c.args.request.now first (fits_blob (longest_of old.settings.header) c.args.request.now.value short) c.seat_of-seat.ensures.hot c.seat_of-seat.ensures.cold
