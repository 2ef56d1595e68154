-- Where a key is served: the shard below whose frontier it lies, and the seat there.
use Rattle.std.proofs.Common.{◌≡◌, ◌≢◌, ◌⊎◌, ℕ, zero, suc, ◌+◌, ◌-◌, ◌*◌, ◌/◌, ◌%◌, ◌^◌, ◌<◌, ◌≤◌, ◌==◌, ◌&&◌, ◌||◌, Bool, true, false, not, List, [], ◌∷◌, ◌++◌, length, take, get_or, map, refl, sym, ◌∙◌, ap, subst, inl, inr, append_assoc, length-append, arith}
use Rattle.std.specs.List.{list_any}
use Rattle.std.proofs.Math.Nat.{pow-suc, pow-le-pow_right}
use Rattle.std.proofs.lemmas.Bool.{false≢true, cases_lt, and_from}
use Rattle.std.proofs.lemmas.List.{append-nil, get_or-map, get_or_append_left, get_or-append_right, length-map}
use Rattle.std.proofs.lemmas.Nat.{pow_below, shr_high, mod_low}
use Rattle.std.proofs.lemmas.List.Folds.{list_any_more}
use Rattle.tree_keys.specs.Bits.{bits_of, number_of}
use Rattle.tree_keys.specs.BitsLaws.{length-bits_of, number_back}
use Rattle.tree_keys.specs.Path.{is_prefix, key_path, key_bits, root_of}
use Rattle.tree_keys.proofs.BitsLaws.{bits_of-same, bits_of-number_of, take-bits_of, first_below, low_bits}
use Rattle.record_hash.specs.Functions.{DigestFunctions}
use Rattle.record_text.specs.declared.request.Request.{Request}
use Rattle.record_text.specs.Longest.{longest_of}
use Rattle.record_text.specs.Tree.{wide_of}
use Rattle.merkle_records.specs.Merkle.{Digest, GivesDigests}
use Rattle.log_codec.specs.declared.command.Command.{Command}
use Rattle.host_core.specs.World.{Place, Seats, World, unmoved, shard_at}
use Rattle.host_core.specs.WorldEvent.{IsPlace}
use Rattle.host_shard.specs.Content.{wide_at, Content, cold, hot, vacant}
use Rattle.host_shard.specs.Shown.{shown_content}
use Rattle.host_shard.specs.Shard.{key_path_in}
use Rattle.host_plan.specs.Setup.{IsShardCount, child, paths_below}
use Rattle.script_text.specs.declared.task.Task.{Task}
use Rattle.protection_moves.specs.Stage.{is_hot_at}
use Rattle.shipped_host.specs.declared.settings.Settings.{Settings}
use Rattle.host_world.specs.declared.seats.Seats as code_seats
use Rattle.host_world.specs.declared.world.World as code
use Rattle.host_world.specs.Behind.{IsBehindSetup, StandsWith, with_logs}
use Rattle.host_world.specs.Places.{place_of}
use Rattle.shipped_host.specs.Seated.{SeatsMirror, wide_among}
use Rattle.shipped_host.specs.Settings.{frontier_bits}
use Rattle.shipped_host.specs.ShippedHost.{serves_key, is_blob, is_place_of}
use Rattle.host_world.specs.Shown.{contents_of, shown_seats, shown_world, requests_of}
use Rattle.host_world.proofs.BehindLaws.{behind_stands, shards_there}
use Rattle.shipped_host.proofs.RangeLaws.{bits_within_key, key_bits-most, frontier_bits_are}
use Rattle.host_fits.specs.Mirroring.{frontier_in, PlacesMirror}
use Rattle.host_fits.proofs.StandingLaws.{tree_there, frontier_there}
use Rattle.host_world.proofs.WorldLemmas.{read_shown}

-- ---- the first bits of a key

-- the exponent of a power of two
exponent : (n r bits : ℕ) → n ≡ 2 ^ bits → 2 ^ r ≤ n → n < 2 * 2 ^ r → r ≡ bits
exponent n r bits is low high = go (cases_lt r bits) (cases_lt bits r)
  where
    go : (r < bits) ⊎ (bits ≤ r) → (bits < r) ⊎ (r ≤ bits) → r ≡ bits
    go (inl less) other =
        let more : 2 ^ suc r ≤ 2 ^ bits = pow-le-pow_right {n = 2} (omega arith) {i = suc r} {j = bits} (omega (arith, less)) in
        absurd (omega (arith, is, high, more, pow-suc 2 r))
    go (inr least) (inl more) = absurd (omega (arith, is, low, pow_below bits r more))
    go (inr least) (inr most) = omega (arith, least, most)

-- how many bits a frontier has, as a logarithm
log_is : (shards r : ℕ) (count : IsShardCount shards) → 2 ^ r ≤ shards → shards < 2 * 2 ^ r → r ≡ count.bits
log_is shards r count low high = exponent shards r count.bits count.power low high

-- so many bits fewer than a key has are fewer
pub shift_below : (wide : Bool) (shards r : ℕ) → IsShardCount shards → 2 ^ r ≤ shards → shards < 2 * 2 ^ r → (r ≤ key_bits wide) × (key_bits wide - r < 128)
shift_below wide shards r count low high =
    let bits = log_is shards r count low high in
    (omega (arith, bits, count.most, bits_within_key wide), omega (arith, bits, count.some, key_bits-most wide))

-- so many first bits of a key spell what is left of it above the others
number_of-first : (wide : Bool) (key bits : ℕ) → key < 2 ^ key_bits wide → bits ≤ key_bits wide → number_of (take bits (bits_of (key_bits wide) key)) ≡ key / 2 ^ (key_bits wide - bits)
number_of-first wide key bits small within =
    ap number_of (take-bits_of (key_bits wide) bits key within)
    ∙ number_back bits (key / 2 ^ (key_bits wide - bits)) (first_below key (key_bits wide) bits within small)

-- The shard of a key, from the logarithm of how many shards there are.
pub shard_is : (wide : Bool) (key shards r : ℕ) → key < 2 ^ key_bits wide → IsShardCount shards → 2 ^ r ≤ shards → shards < 2 * 2 ^ r
    → key / 2 ^ (key_bits wide - r) ≡ number_of (take (frontier_bits shards) (bits_of (key_bits wide) key))
shard_is wide key shards r small count low high =
    let bits : r ≡ frontier_bits shards = log_is shards r count low high ∙ sym (frontier_bits_are shards count) in
    ap (λ (n : ℕ). key / 2 ^ (key_bits wide - n)) bits
    ∙ sym (number_of-first wide key (frontier_bits shards) small (omega (arith, frontier_bits_are shards count, count.most, bits_within_key wide)))

-- It is one of them.
pub shard_below : (wide : Bool) (key shards r : ℕ) → key < 2 ^ key_bits wide → IsShardCount shards → 2 ^ r ≤ shards → shards < 2 * 2 ^ r → key / 2 ^ (key_bits wide - r) < shards
shard_below wide key shards r small count low high =
    let bits = log_is shards r count low high in
    subst (λ (n : ℕ). key / 2 ^ (key_bits wide - r) < n) (ap (λ (n : ℕ). 2 ^ n) bits ∙ sym count.power)
    (first_below key (key_bits wide) r (omega (arith, bits, count.most, bits_within_key wide)) small)

-- The first bits of a number that has a key's lowest bits are those of the key.
pub low_key : (wide : Bool) (key low : ℕ) → low ≡ key % 2 ^ key_bits wide → bits_of (key_bits wide) low ≡ bits_of (key_bits wide) key
low_key wide key low is = ap (bits_of (key_bits wide)) is ∙ low_bits (key_bits wide) key

-- the first of the bits are a prefix of them
prefix-take : (n : ℕ) (bits : List Bool) → is_prefix (take n bits) bits ≡ true
prefix-take zero bits = refl
prefix-take (suc n) [] = refl
prefix-take (suc n) (true ∷ bits) = prefix-take n bits
prefix-take (suc n) (false ∷ bits) = prefix-take n bits

-- and so behind a root
prefix_root : (wide : Bool) (n : ℕ) (bits : List Bool) → is_prefix (wide ∷ take n bits) (wide ∷ bits) ≡ true
prefix_root true n bits = prefix-take n bits
prefix_root false n bits = prefix-take n bits

-- and as many as they are
length-first : (n : ℕ) (bits : List Bool) → n ≤ length bits → length (take n bits) ≡ n
length-first zero bits within = refl
length-first (suc n) [] within = absurd (omega (arith, within))
length-first (suc n) (bit ∷ bits) within = ap (λ (k : ℕ). suc k) (length-first n bits (omega (arith, within)))

-- ---- a world behind the setup

module _ (functions : DigestFunctions) (settings : Settings) (script : List (List Task)) (digests : GivesDigests functions.digest) (world : World Content)
    (behind : IsBehindSetup functions settings script world) where
  -- Each shard has its number's bits behind the root as its frontier.
  frontier_at : (s : ℕ) → s < settings.shards → frontier_in (shard_at world s).contents ≡ root_of (wide_of settings.header) ++ bits_of (frontier_bits settings.shards) s
  frontier_at s there =
      frontier_there functions settings s (shard_at world s).contents
      ((behind_stands functions settings script digests world behind).mirrored s (omega (arith, there, shards_there functions settings script digests world behind)))

  -- A key lies below the frontier of the shard whose number its first bits spell.
  lies_below : (key s : ℕ) → s ≡ number_of (take (frontier_bits settings.shards) (bits_of (key_bits (wide_of settings.header)) key)) → s < settings.shards
      → is_prefix (frontier_in (shard_at world s).contents) (key_path (wide_of settings.header) key) ≡ true
  lies_below key s is there =
      let bits : ℕ = frontier_bits settings.shards in
      let first : List Bool = take bits (bits_of (key_bits (wide_of settings.header)) key) in
      let count = behind.settings_fit.shards in
      let long : length first ≡ bits = length-first bits (bits_of (key_bits (wide_of settings.header)) key)
      (omega (arith, length-bits_of (key_bits (wide_of settings.header)) key, frontier_bits_are settings.shards count, count.most, bits_within_key (wide_of settings.header))) in
      let spelled : bits_of bits s ≡ first = ap (bits_of bits) is ∙ ap (λ (n : ℕ). bits_of n (number_of first)) (sym long) ∙ bits_of-number_of first in
      let frontier : frontier_in (shard_at world s).contents ≡ root_of (wide_of settings.header) ++ first = frontier_at s there ∙ ap (λ (more : List Bool). root_of (wide_of settings.header) ++ more) spelled in
      ap (λ (path : List Bool). is_prefix path (key_path (wide_of settings.header) key)) frontier ∙ prefix_root (wide_of settings.header) bits (bits_of (key_bits (wide_of settings.header)) key)

-- ---- the seat of a key

-- none so far, and not the next
pub none_more : {X Y : Type 0} (shown : X → Y) (test : Y → Bool) (xs : List X) (i : ℕ) (x : X) → i < length xs → x ≡ get_or xs i x → test (shown x) ≡ false
    → list_any test (take i (map shown xs)) ≡ false → list_any test (take (i + 1) (map shown xs)) ≡ false
none_more shown test xs i x there is not_it before =
    list_any_more test (map shown xs) i (shown x) (omega (arith, there, length-map xs shown))
    ∙ ap (λ (b : Bool). b || test (get_or (map shown xs) i (shown x))) before
    ∙ ap test (read_shown shown xs i x (shown x) there is) ∙ not_it

-- what is hot at a key serves it
hot_serves : (seats : List Content) (key : ℕ) (content : Content) → is_hot_at key content ≡ true → serves_key seats key content ≡ true
hot_serves seats key (cold shard) is = absurd (false≢true is)
hot_serves seats key (hot found) is = is
hot_serves seats key vacant is = absurd (false≢true is)

-- A hot place that has a request's key is its place; and where none has, the shard's own is, if the key lies below its frontier.
seat_owns : (longest : ℕ) (digest : Digest) (first : Content) (places : List Content) → SeatsMirror longest digest (first ∷ places) → (seat : ℕ) (request : Request)
    → is_prefix (frontier_in (first ∷ places)) (key_path (wide_at first) request.key) ≡ true → is_blob longest request.value ≡ true
    → (seat ≢ 0 → is_hot_at request.key (get_or (first ∷ places) seat vacant) ≡ true)
    → (seat ≡ 0 → list_any (is_hot_at request.key) places ≡ false)
    → is_place_of longest (first ∷ places) seat request ≡ true
seat_owns longest digest (cold shard) places mirrors zero request below blob hot_there none_there =
    and_from (is_prefix shard.frontier (key_path_in shard request.key) && not (list_any (is_hot_at request.key) places)) (is_blob longest request.value)
    (and_from (is_prefix shard.frontier (key_path_in shard request.key)) (not (list_any (is_hot_at request.key) places)) below (ap not (none_there refl))) blob
seat_owns longest digest first places mirrors (suc k) request below blob hot_there none_there =
    and_from (serves_key (first ∷ places) request.key (get_or places k vacant)) (is_blob longest request.value)
    (hot_serves (first ∷ places) request.key (get_or places k vacant) (hot_there (omega arith))) blob
seat_owns longest digest (hot found) places mirrors zero request below blob hot_there none_there = absurd (no_shard mirrors.is)
  where
    no_shard : hot found ∷ places ≡ cold mirrors.shard ∷ mirrors.places → ⊥
    no_shard is = cc
seat_owns longest digest vacant places mirrors zero request below blob hot_there none_there = absurd (no_shard mirrors.is)
  where
    no_shard : vacant ∷ places ≡ cold mirrors.shard ∷ mirrors.places → ⊥
    no_shard is = cc

-- ---- a world of the code

-- the number of a place
place_back : (number s seat : ℕ) → number ≡ s * 5 + seat → seat < 5 → place_of number ≡ record { shard = s; seat = seat }
place_back number s seat is few =
    ap (λ (n : ℕ). record { shard = n; seat = number % 5 }) (omega (arith, is, few))
    ∙ ap (λ (n : ℕ). record { shard = s; seat = n }) (omega (arith, is, few))

module _ {D : Type 0} (functions : DigestFunctions) (digests : GivesDigests functions.digest) (world : code.World D) (logs : List (List Command))
    (stands : StandsWith functions world logs) where
  -- how many shards it has, and how many that can be
  pub shards_in : length world.shards.items ≡ world.settings.shards
  shards_in =
      sym (length-map world.shards.items shown_seats)
      ∙ shards_there functions world.settings (requests_of world) digests (with_logs logs (shown_world world)) stands.behind

  pub few_shards : world.settings.shards ≤ 1024
  few_shards =
      let count = stands.behind.settings_fit.shards in
      let most : 2 ^ count.bits ≤ 2 ^ 10 = pow-le-pow_right {n = 2} (omega arith) {i = count.bits} {j = 10} count.most in
      omega (arith, count.power, most)

  module _ (s : ℕ) (there : s < world.settings.shards) (seats : code_seats.Seats) (read : seats ≡ get_or world.shards.items s seats) where
    -- the seats of a shard, as they were read
    seats_read : shard_at (shown_world world) s ≡ shown_seats seats
    seats_read = read_shown shown_seats world.shards.items s seats (unmoved []) (omega (arith, there, shards_in)) read

    places_mirror : PlacesMirror functions world.settings s (contents_of seats)
    places_mirror =
        subst (λ (found : Seats Content). PlacesMirror functions world.settings s found.contents) seats_read
        ((behind_stands functions world.settings (requests_of world) digests (with_logs logs (shown_world world)) stands.behind).mirrored s
        (omega (arith, there, shards_in, length-map world.shards.items shown_seats)))

    seats_mirror : SeatsMirror (longest_of world.settings.header) functions.digest (contents_of seats)
    seats_mirror = places_mirror.mirrors

    tree_read : wide_among (contents_of seats) ≡ wide_of world.settings.header
    tree_read = tree_there functions world.settings s (contents_of seats) places_mirror

    pub five_seats : length (contents_of seats) ≡ 5
    five_seats = ap (λ (xs : List Content). length xs) seats_mirror.is ∙ ap (λ (n : ℕ). suc n) seats_mirror.four

    module _ (number seat : ℕ) (is : number ≡ s * 5 + seat) (among : seat < length (contents_of seats)) where
      at_place : (P : Place → Type 0) → P (record { shard = s; seat = seat }) → P (place_of number)
      at_place P holds = subst P (sym (place_back number s seat is (omega (arith, among, five_seats)))) holds

      -- The seat's number is that of a place.
      pub place_there : IsPlace (shown_world world) (place_of number)
      place_there =
          at_place (λ (place : Place). IsPlace (shown_world world) place) (
            omega (arith, there, shards_in, length-map world.shards.items shown_seats),
            subst (λ (found : Seats Content). seat < length found.contents) (sym seats_read) among,
          )

      -- And it is the place of a request whose key's first bits spell the shard's number, if the seat is the key's.
      pub place_owns : (request : Request) → s ≡ number_of (take (frontier_bits world.settings.shards) (bits_of (key_bits (wide_of world.settings.header)) request.key)) → is_blob (longest_of world.settings.header) request.value ≡ true
          → (seat ≢ 0 → is_hot_at request.key (get_or (contents_of seats) seat vacant) ≡ true)
          → (seat ≡ 0 → list_any (is_hot_at request.key) (map shown_content seats.hot.items) ≡ false)
          → is_place_of (longest_of world.settings.header) (shard_at (shown_world world) (place_of number).shard).contents (place_of number).seat request ≡ true
      place_owns request first blob hot_there none_there =
          at_place (λ (place : Place). is_place_of (longest_of world.settings.header) (shard_at (shown_world world) place.shard).contents place.seat request ≡ true)
          (subst (λ (found : Seats Content). is_place_of (longest_of world.settings.header) found.contents seat request ≡ true) (sym seats_read)
          (seat_owns (longest_of world.settings.header) functions.digest (shown_content seats.first) (map shown_content seats.hot.items) seats_mirror seat request
          (subst (λ (wide : Bool). is_prefix (frontier_in (contents_of seats)) (key_path wide request.key) ≡ true) (sym tree_read)
          (subst (λ (found : Seats Content). is_prefix (frontier_in found.contents) (key_path (wide_of world.settings.header) request.key) ≡ true) seats_read
          (lies_below functions world.settings (requests_of world) digests (with_logs logs (shown_world world)) stands.behind request.key s first there)))
          blob hot_there none_there))
