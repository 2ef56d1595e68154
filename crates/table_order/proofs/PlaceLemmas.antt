-- The places of a table are the places of the world, by their numbers; and the place of a key owns its request.
use Rattle.std.proofs.Common.{◌≡◌, ℕ, suc, ◌+◌, ◌*◌, ◌/◌, ◌%◌, ◌<◌, Bool, true, false, not, ◌||◌, List, [], ◌∷◌, length, get_or, Option, Some, None, IsSome, eq-eqb, refl, sym, ◌∙◌, ap, subst, arith}
use Rattle.std.specs.Prelude.{◌==◌}
use Rattle.std.specs.List.{list_any}
use Rattle.std.proofs.lemmas.Bool.{false≢true, and_from, eqb-true}
use Rattle.tree_keys.specs.Path.{side, is_prefix, IsBelow}
use Rattle.tree_keys.proofs.SideLaws.{prefix_of_side}
use Rattle.record_hash.specs.Functions.{DigestFunctions}
use Rattle.record_text.specs.declared.request.Request.{Request}
use Rattle.record_text.specs.Value.{IsBlob}
use Rattle.record_text.specs.Longest.{longest_blob, longest_of}
use Rattle.script_text.specs.declared.task.Task.{Task}
use Rattle.host_core.specs.Host.{Host}
use Rattle.host_core.specs.World.{Place, World, shard_at}
use Rattle.host_core.specs.WorldEvent.{IsPlace}
use Rattle.host_order.specs.Serving.{content_at}
use Rattle.host_shard.specs.declared.content.Content as code
use Rattle.host_shard.specs.declared.content.Content.TheVariants.{Cold, Hot, Vacant}
use Rattle.host_shard.specs.declared.content.HotRecord.{HotRecord}
use Rattle.host_shard.specs.Shard.{key_path_in, Shard}
use Rattle.host_shard.specs.Content.{Content, cold, hot, vacant}
use Rattle.host_shard.specs.Shown.{shown_content}
use Rattle.host_plan.specs.Plan.{Owns}
use Rattle.protection_moves.specs.Stage.{is_hot_at}
use Rattle.host_table.specs.Terms.{Terms, place_count, first_at, IsPlaceOf}
use Rattle.shipped_host.specs.declared.settings.Settings.{Settings}
use Rattle.host_core.specs.Core.{IsStanding}
use Rattle.host_fits.specs.Mirroring.{PlacesMirror}
use Rattle.host_world.specs.Places.{place_of}
use Rattle.shipped_host.specs.ShippedHost.{is_blob, serves_key, shipped_host}
use Rattle.shipped_host.proofs.SeatLaws.{fits_blob}
use Rattle.table_order.specs.Phases.{AreTermsOf}

-- the place of a number that is made of a shard and a seat
pub place_back : (number s seat : ℕ) → number ≡ s * 5 + seat → seat < 5 → place_of number ≡ record { shard = s; seat = seat }
place_back number s seat is few =
    ap (λ (n : ℕ). record { shard = n; seat = number % 5 }) (omega (arith, is, few))
    ∙ ap (λ (n : ℕ). record { shard = s; seat = n }) (omega (arith, is, few))

-- no member passes a test that none passes by its number
any_none : (test : Content → Bool) (xs : List Content) → ((j : ℕ) → j < length xs → test (get_or xs j vacant) ≡ false) → list_any test xs ≡ false
any_none test [] none_at = refl
any_none test (x ∷ xs) none_at =
    ap (λ (b : Bool). b || list_any test xs) (none_at 0 (omega arith))
    ∙ any_none test xs (λ j there. none_at (suc j) (omega (arith, there)))

-- a path below another has it as a prefix
prefix_below : (frontier path : List Bool) → IsBelow frontier path → is_prefix frontier path ≡ true
prefix_below frontier path below = go (side frontier path) refl below
  where
    go : (o : Option Bool) → side frontier path ≡ o → IsSome o → is_prefix frontier path ≡ true
    go None is some = absurd (false≢true some)
    go (Some on) is some = prefix_of_side frontier path on is

module _ (functions : DigestFunctions) (settings : Settings) (script : List (List Task)) (world : World Content)
    (standing : IsStanding (PlacesMirror functions settings) (shipped_host functions settings script) world) (terms : Terms) (made : AreTermsOf (shipped_host functions settings script) settings.absent world terms) where
  abbrev host : Host Content Request
  host = shipped_host functions settings script

  -- the seats of a shard are five
  pub five_seats : (s : ℕ) → s < length world.shards → length (shard_at world s).contents ≡ 5
  five_seats s there =
      let mirrors = (standing.mirrored s there).mirrors in
      ap (λ (xs : List Content). length xs) mirrors.is ∙ ap (λ (n : ℕ). suc n) mirrors.four

  -- the shard of a place is there
  pub shard_there : (place : ℕ) → place < place_count terms → place / 5 < length world.shards
  shard_there place there = omega (arith, there, made.places)

  -- A place of the table is one of the world.
  pub is_place : (place : ℕ) → place < place_count terms → IsPlace world (place_of place)
  is_place place there = (shard_there place there, omega (arith, five_seats (place / 5) (shard_there place there)))

  module _ (place : ℕ) (there : place < place_count terms) (request : Request) (at : IsPlaceOf terms place request.key) where
    abbrev seats : List Content
    seats = (shard_at world (place / 5)).contents

    abbrev here : Content
    here = get_or seats (place % 5) vacant

    -- where the place has a shard, the key is hot at no seat of it
    cold_seats : (shard : Shard) → here ≡ cold shard → list_any (is_hot_at request.key) seats ≡ false
    cold_seats shard is = any_none (is_hot_at request.key) seats by_number
      where
        no_hot : (found : HotRecord) → cold shard ≡ hot found → ⊥
        no_hot found same = cc

        by_number : (j : ℕ) → j < length seats → is_hot_at request.key (get_or seats j vacant) ≡ false
        by_number j within = subst (λ (c : Content). is_hot_at request.key c ≡ false) (sym shows) (go (first_at terms other) refl)
          where
            few : j < 5
            few = omega (arith, within, five_seats (place / 5) (shard_there place there))

            other : ℕ
            other = place / 5 * 5 + j

            other_there : other < place_count terms
            other_there = omega (arith, few, shard_there place there, made.places)

            shows : get_or seats j vacant ≡ shown_content (first_at terms other)
            shows = ap (λ (p : Place). content_at host world p) (sym (place_back other (place / 5) j refl few)) ∙ made.contents other other_there

            go : (c : code.Content) → first_at terms other ≡ c → is_hot_at request.key (shown_content c) ≡ false
            go (Cold kept) found = refl
            go Vacant found = refl
            go (Hot kept) found = by_key (kept.key == request.key) refl
              where
                by_key : (b : Bool) → (kept.key == request.key) ≡ b → b ≡ false
                by_key false same = refl
                by_key true same =
                    let is_same : other ≡ place = at.cold other kept (omega (arith, few)) found (eqb-true kept.key request.key same) in
                    absurd (no_hot kept (sym is ∙ made.contents place there ∙ ap shown_content (ap (first_at terms) (sym is_same) ∙ found)))

    -- The key's place owns the request.
    pub owns_there : IsBlob (longest_of settings.header) request.value → host.owns (place / 5) seats (place % 5) request ≡ true
    owns_there fits =
        and_from (serves_key seats request.key here) (is_blob (longest_of settings.header) request.value)
        (go here refl (subst (λ (c : Content). Owns longest_blob c request.key) (sym (made.contents place there)) at.owns)) (fits_blob (longest_of settings.header) request.value fits)
      where
        go : (c : Content) → here ≡ c → Owns longest_blob c request.key → serves_key seats request.key c ≡ true
        go (cold shard) is own =
            and_from (is_prefix shard.frontier (key_path_in shard request.key)) (not (list_any (is_hot_at request.key) seats))
            (prefix_below shard.frontier (key_path_in shard request.key) own.1.below)
            (ap (λ (b : Bool). not b) (cold_seats shard is))
        go (hot found) is own = eq-eqb found.key request.key own
        go vacant is own = absurd own
