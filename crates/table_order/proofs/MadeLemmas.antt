-- A table that is made of a world's places is made of contents that mirror.
use Rattle.std.proofs.Common.{◌≡◌, ℕ, zero, suc, ◌+◌, ◌*◌, ◌/◌, ◌%◌, ◌^◌, ◌<◌, Bool, List, ◌∷◌, length, take, drop, get_or, refl, sym, ◌∙◌, ap, subst, arith}
use Rattle.std.proofs.lemmas.List.{ext_get_or, get_or-drop, get_or-take, length-map, length-take, length-drop}
use Rattle.std.proofs.Math.ListN.{get_or-map}
use Rattle.tree_keys.specs.Path.{key_bits}
use Rattle.lamport_clocks.specs.declared.header.Header.{Header}
use Rattle.record_hash.specs.Functions.{DigestFunctions}
use Rattle.record_text.specs.Value.{IsBlob}
use Rattle.record_text.specs.Longest.{longest_of}
use Rattle.record_text.specs.Tree.{wide_of}
use Rattle.merkle_records.specs.Merkle.{Digest, GivesDigests}
use Rattle.script_text.specs.declared.task.Task.{Task}
use Rattle.host_core.specs.World.{World, shard_at}
use Rattle.host_order.specs.Serving.{content_at}
use Rattle.host_shard.specs.declared.content.Content as code
use Rattle.host_shard.specs.declared.content.Content.TheVariants.{Vacant}
use Rattle.host_shard.specs.Content.{Content, cold, hot, vacant}
use Rattle.host_shard.specs.Shown.{shown_content}
use Rattle.host_shard.specs.Shard.{wide_in}
use Rattle.host_shard.specs.Mirrors.{HasKeyOf}
use Rattle.host_laws.specs.Mirroring.{ContentMirrors}
use Rattle.protection_moves.specs.Stage.{hot_records, hot_paths}
use Rattle.move_laws.proofs.PlaceLaws.{one_of-all}
use Rattle.host_table.specs.Terms.{Terms, place_count, first_at, IsMaking}
use Rattle.shipped_host.specs.declared.settings.Settings.{Settings}
use Rattle.host_core.specs.Core.{IsStanding}
use Rattle.host_fits.specs.Mirroring.{PlacesMirror}
use Rattle.host_fits.proofs.StandingLaws.{tree_there}
use Rattle.shipped_host.specs.Seated.{IsHotPlace, SeatsMirror, wide_among}
use Rattle.shipped_host.specs.ShippedHost.{shipped_host}
use Rattle.shipped_host.proofs.PlaceLaws.{hot_there, place_there}
use Rattle.table_order.specs.Mirroring.{shard_at_making, hot_keys_at, IsOfTree, MirrorsAtMaking}
use Rattle.table_order.specs.Phases.{AreTermsOf}
use Rattle.table_order.proofs.PlaceLemmas.{place_back, five_seats, shard_there}

-- ---- one shard

module _ (longest : ℕ) (digest : Digest) (seats : List Content) (mirrors : SeatsMirror longest digest seats) where
  hot_place : (k : ℕ) (content : Content) → get_or mirrors.places k vacant ≡ content → ContentMirrors longest digest (hot_paths mirrors.places) content
  hot_place k (cold shard) is = absurd (subst IsHotPlace is (place_there mirrors.places k mirrors.hot_alone))
  hot_place k (hot found) is = one_of-all (λ r. IsBlob longest r.value) (hot_records mirrors.places) found mirrors.blobs (hot_there mirrors.places k found is)
  hot_place k vacant is = tt

  pub seat_of_shard : (seat : ℕ) → ContentMirrors longest digest (hot_paths mirrors.places) (get_or (cold mirrors.shard ∷ mirrors.places) seat vacant)
  seat_of_shard zero = mirrors.mirrored
  seat_of_shard (suc k) = hot_place k (get_or mirrors.places k vacant) refl

  -- each seat's content mirrors
  seat_mirrors : (seat : ℕ) → ContentMirrors longest digest (hot_paths seats) (get_or seats seat vacant)
  seat_mirrors seat =
      subst (λ (xs : List Content). ContentMirrors longest digest (hot_paths xs) (get_or xs seat vacant)) (sym mirrors.is) (seat_of_shard seat)

  -- and is of the tree of the shard
  seat_of_tree : (seat : ℕ) → IsOfTree (wide_in mirrors.shard) (get_or (cold mirrors.shard ∷ mirrors.places) seat vacant)
  seat_of_tree zero = refl
  seat_of_tree (suc k) = go (get_or mirrors.places k vacant) refl
    where
      go : (content : Content) → get_or mirrors.places k vacant ≡ content → IsOfTree (wide_in mirrors.shard) content
      go (cold shard) is = absurd (subst IsHotPlace is (place_there mirrors.places k mirrors.hot_alone))
      go (hot found) is =
          let has = one_of-all (HasKeyOf mirrors.shard) (hot_records mirrors.places) found mirrors.in_range (hot_there mirrors.places k found is) in
          (has.tree, subst (λ (wide : Bool). found.key < 2 ^ key_bits wide) has.tree has.range)
      go vacant is = tt

  seat_tree : (seat : ℕ) → IsOfTree (wide_among seats) (get_or seats seat vacant)
  seat_tree seat = subst (λ (xs : List Content). IsOfTree (wide_among xs) (get_or xs seat vacant)) (sym mirrors.is) (seat_of_tree seat)

-- ---- the table

module _ (functions : DigestFunctions) (settings : Settings) (script : List (List Task)) (world : World Content)
    (standing : IsStanding (PlacesMirror functions settings) (shipped_host functions settings script) world) (terms : Terms) (made : AreTermsOf (shipped_host functions settings script) settings.absent world terms) where
  module _ (place : ℕ) (there : place < place_count terms) where
    abbrev seats : List Content
    seats = (shard_at world (place / 5)).contents

    in_shard : place / 5 < length world.shards
    in_shard = shard_there functions settings script world standing terms made place there

    abbrev mirrored : SeatsMirror (longest_of settings.header) functions.digest seats
    mirrored = (standing.mirrored (place / 5) in_shard).mirrors

    -- a place of the same shard
    numbered : (seat : ℕ) → seat < 5 → shown_content (first_at terms (place / 5 * 5 + seat)) ≡ get_or seats seat vacant
    numbered seat few =
        sym (made.contents (place / 5 * 5 + seat) (omega (arith, there, few, in_shard, made.places)))
        ∙ ap (content_at (shipped_host functions settings script) world) (place_back (place / 5 * 5 + seat) (place / 5) seat refl few)

    own : shown_content (first_at terms place) ≡ get_or seats (place % 5) vacant
    own = ap (λ (n : ℕ). shown_content (first_at terms n)) (omega arith) ∙ numbered (place % 5) (omega arith)

    -- What the places of its shard had is what the world's seats have.
    same_shard : shard_at_making terms place ≡ seats
    same_shard = ext_get_or vacant (shard_at_making terms place) seats (many ∙ sym five) (λ i below. each i (omega (arith, below, many)))
      where
        cut : List code.Content
        cut = take 5 (drop (place / 5 * 5) terms.contents)

        five : length seats ≡ 5
        five = five_seats functions settings script world standing terms made (place / 5) in_shard

        many : length (shard_at_making terms place) ≡ 5
        many = omega (arith, length-map cut shown_content, length-take 5 (drop (place / 5 * 5) terms.contents), length-drop (place / 5 * 5) terms.contents, in_shard, made.places)

        each : (i : ℕ) → i < 5 → get_or (shard_at_making terms place) i vacant ≡ get_or seats i vacant
        each i few =
            get_or-map shown_content cut i Vacant
            ∙ ap shown_content (get_or-take 5 (drop (place / 5 * 5) terms.contents) i Vacant few ∙ get_or-drop (place / 5 * 5) terms.contents i Vacant)
            ∙ numbered i few

    place_mirrors : ContentMirrors (longest_of terms.header) terms.digest (hot_keys_at terms place) (shown_content (first_at terms place))
    place_mirrors =
        subst (λ (header : Header). ContentMirrors (longest_of header) terms.digest (hot_keys_at terms place) (shown_content (first_at terms place))) (sym made.header)
        (subst (λ (digest : Digest). ContentMirrors (longest_of settings.header) digest (hot_keys_at terms place) (shown_content (first_at terms place))) (sym made.digest)
        (subst (λ (content : Content). ContentMirrors (longest_of settings.header) functions.digest (hot_keys_at terms place) content) (sym own)
        (subst (λ (xs : List Content). ContentMirrors (longest_of settings.header) functions.digest (hot_paths xs) (get_or seats (place % 5) vacant)) (sym same_shard)
        (seat_mirrors (longest_of settings.header) functions.digest seats mirrored (place % 5)))))

    place_tree : IsOfTree (wide_of terms.header) (shown_content (first_at terms place))
    place_tree =
        subst (λ (header : Header). IsOfTree (wide_of header) (shown_content (first_at terms place))) (sym made.header)
        (subst (λ (content : Content). IsOfTree (wide_of settings.header) content) (sym own)
        (subst (λ (wide : Bool). IsOfTree wide (get_or seats (place % 5) vacant)) (tree_there functions settings (place / 5) seats (standing.mirrored (place / 5) in_shard))
        (seat_tree (longest_of settings.header) functions.digest seats mirrored (place % 5))))

  -- The table is made of contents that mirror.
  pub making_mirrors : GivesDigests functions.digest → IsMaking terms.header terms.workers terms.contents → MirrorsAtMaking terms
  making_mirrors digests making = record {
    digests = subst GivesDigests (sym made.digest) digests;
    making = making;
    mirrors = place_mirrors;
    of_tree = place_tree;
  }
