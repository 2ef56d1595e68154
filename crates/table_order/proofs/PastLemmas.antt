-- The past of a place: each service there is what the shipped host does, since the content that it finds mirrors.
use Rattle.std.proofs.Common.{◌≡◌, ◌⊎◌, ℕ, ◌^◌, ◌/◌, ◌%◌, ◌<◌, ◌≤◌, Bool, false, List, [], ◌∷◌, length, refl, sym, ◌∙◌, ap, subst, inl, inr}
use Rattle.std.specs.List.{AllByRecursion, IsAmong}
use Rattle.std.proofs.lemmas.Bool.{cases_lt}
use Rattle.lamport_clocks.specs.declared.header.Header.{Header}
use Rattle.lamport_clocks.specs.Reading.{Reading}
use Rattle.record_hash.specs.Functions.{DigestFunctions}
use Rattle.record_text.specs.declared.request.Request.{Request}
use Rattle.record_text.specs.Value.{IsBlob}
use Rattle.record_text.specs.Longest.{longest_of}
use Rattle.record_text.specs.Tree.{wide_of}
use Rattle.merkle_records.specs.Merkle.{Digest, GivesDigests}
use Rattle.script_text.specs.declared.task.Task.{Task}
use Rattle.tree_keys.specs.Path.{key_bits, tree_of, IsData, IsBelow, key_path}
use Rattle.host_core.specs.World.{World, worker_at, shard_at}
use Rattle.host_order.specs.Serving.{IsPlaceChain, content_behind, IsHad}
use Rattle.host_order.specs.Told.{IsServed}
use Rattle.host_shard.specs.declared.content.Content as code
use Rattle.host_shard.specs.declared.link.Link.{Link}
use Rattle.host_shard.specs.Content.{Content, cold, hot, vacant}
use Rattle.host_shard.specs.Shown.{shown_content}
use Rattle.host_plan.specs.Plan.{Owns, CanServe, IsPlan, clock_after, content_after}
use Rattle.host_laws.specs.Mirroring.{ContentMirrors, IsCold}
use Rattle.host_laws.proofs.MirrorLaws.{plan_mirrors, mirrors_serve}
use Rattle.protection_moves.specs.Stage.{hot_paths}
use Rattle.host_table.specs.declared.told.Service.{Service}
use Rattle.host_table.specs.Terms.{Terms, place_count, first_at, IsPlaceOf}
use Rattle.host_table.specs.Told as told
use Rattle.shipped_host.specs.declared.settings.Settings.{Settings}
use Rattle.host_core.specs.Core.{IsStanding}
use Rattle.host_fits.specs.Mirroring.{PlacesMirror}
use Rattle.host_fits.proofs.StandingLaws.{tree_there}
use Rattle.host_world.specs.Places.{place_of}
use Rattle.shipped_host.specs.ShippedHost.{shipped_host}
use Rattle.shipped_host.proofs.SeatLaws.{SeatServes, seat_serves}
use Rattle.table_order.specs.Servings.{serving_of, servings_of}
use Rattle.table_order.specs.Phases.{AreTermsOf}
use Rattle.table_order.proofs.Keeping.{DoesPlans}
use Rattle.table_order.proofs.PlaceLemmas.{shard_there, is_place, owns_there}

-- ---- what a history says

-- what it leaves
pub behind_leads : (terms : Terms) (place : ℕ) (x y : code.Content) (services : List Service) → told.Leads terms place x services y
    → content_behind (shown_content x) (servings_of services) ≡ shown_content y
behind_leads terms place x y [] leads = sym leads
behind_leads terms place x y (service ∷ services) leads = behind_leads terms place service.after y services leads.3

-- that it is a chain
pub chain_leads : (terms : Terms) (place : ℕ) (x y : code.Content) (services : List Service) → told.Leads terms place x services y
    → IsPlaceChain (shown_content x) (servings_of services)
chain_leads terms place x y [] leads = tt
chain_leads terms place x y (service ∷ services) leads = (leads.1, chain_leads terms place service.after y services leads.3)

-- that all is at the place
pub place_leads : (terms : Terms) (place : ℕ) (x y : code.Content) (services : List Service) → told.Leads terms place x services y
    → AllByRecursion (λ serving. serving.place ≡ place_of place) (servings_of services)
place_leads terms place x y [] leads = tt
place_leads terms place x y (service ∷ services) leads = (ap place_of leads.0, place_leads terms place service.after y services leads.3)

-- a content that the place has had
pub had_shown : (x had : code.Content) (services : List Service) → told.IsHad x services had
    → IsHad (shown_content x) (servings_of services) (shown_content had)
had_shown x had [] is = is
had_shown x had (service ∷ services) (inl is) = inl is
had_shown x had (service ∷ services) (inr is) = inr (had_shown service.after had services is)

-- ---- what stays of a place

-- the same shard or hot record, as another
abbrev pub IsStill : Content → Content → Type 0
IsStill (cold old) (cold new) = new.frontier ≡ old.frontier
IsStill (cold old) (hot new) = ⊥
IsStill (cold old) vacant = ⊥
IsStill (hot old) (cold new) = ⊥
IsStill (hot old) (hot new) = new.key ≡ old.key
IsStill (hot old) vacant = ⊥
IsStill vacant (cold new) = ⊥
IsStill vacant (hot new) = ⊥
IsStill vacant vacant = Unit {0}

pub still : (content : Content) → IsStill content content
still (cold shard) = refl
still (hot found) = refl
still vacant = tt

-- it owns the same keys, if it mirrors
pub owns_still : (longest more : ℕ) (digest : Digest) (hot_keys : List (List Bool)) (old new : Content) (key : ℕ) → IsStill old new
    → ContentMirrors longest digest hot_keys new → Owns more old key → Owns longest new key
owns_still longest more digest hot_keys (cold old) (cold new) key same mirrors own = (
  mirrors.fits,
  record {
    whole = subst (λ (path : List Bool). IsData (key_path (tree_of path) key)) (sym same) own.1.whole;
    below = subst (λ (path : List Bool). IsBelow path (key_path (tree_of path) key)) (sym same) own.1.below;
  },
)
owns_still longest more digest hot_keys (cold old) (hot new) key same mirrors own = absurd same
owns_still longest more digest hot_keys (cold old) vacant key same mirrors own = absurd same
owns_still longest more digest hot_keys (hot old) (cold new) key same mirrors own = absurd same
owns_still longest more digest hot_keys (hot old) (hot new) key same mirrors own = same ∙ own
owns_still longest more digest hot_keys (hot old) vacant key same mirrors own = absurd same
owns_still longest more digest hot_keys vacant new key same mirrors own = absurd own

pub cold_still : (hot_keys : List (List Bool)) (old new : Content) (key : ℕ) → IsStill old new → IsCold hot_keys old key → IsCold hot_keys new key
cold_still hot_keys (cold old) (cold new) key same apart = subst (λ (path : List Bool). IsAmong hot_keys (key_path (tree_of path) key) → ⊥) (sym same) apart
cold_still hot_keys (cold old) (hot new) key same apart = tt
cold_still hot_keys (cold old) vacant key same apart = tt
cold_still hot_keys (hot old) (cold new) key same apart = absurd same
cold_still hot_keys (hot old) (hot new) key same apart = tt
cold_still hot_keys (hot old) vacant key same apart = tt
cold_still hot_keys vacant (cold new) key same apart = absurd same
cold_still hot_keys vacant (hot new) key same apart = tt
cold_still hot_keys vacant vacant key same apart = tt

-- so does what comes of a request
pub still_after : (absent : Bool) (digest : Digest) (worker : ℕ) (old content : Content) (links : List Link) (request : Request) (clock : Reading)
    → IsStill old content → IsStill old (content_after absent digest worker content links request clock)
still_after absent digest worker (cold old) (cold shard) links request clock same = same
still_after absent digest worker (cold old) (hot found) links request clock same = same
still_after absent digest worker (cold old) vacant links request clock same = same
still_after absent digest worker (hot old) (cold shard) links request clock same = same
still_after absent digest worker (hot old) (hot found) links request clock same = same
still_after absent digest worker (hot old) vacant links request clock same = same
still_after absent digest worker vacant (cold shard) links request clock same = same
still_after absent digest worker vacant (hot found) links request clock same = same
still_after absent digest worker vacant vacant links request clock same = same

-- ---- the services of a place

-- the key has no more bits, and the value no more bytes, than those of a bundle with this header
pub record IsSmall (header : Header) (service : Service) : Type 0 where
  pub key : service.request.key < 2 ^ key_bits (wide_of header)
  pub value : IsBlob (longest_of header) service.request.value

module _ (functions : DigestFunctions) (settings : Settings) (script : List (List Task)) (world : World Content)
    (standing : IsStanding (PlacesMirror functions settings) (shipped_host functions settings script) world) (terms : Terms) (made : AreTermsOf (shipped_host functions settings script) settings.absent world terms)
    (digests : GivesDigests functions.digest) (does : DoesPlans functions settings script)
    (running : (worker : ℕ) → worker < length world.workers → (worker_at (shipped_host functions settings script) world worker).stopped ≡ false) where
  -- A service is what the host does, where it can be served at the content that it finds.
  service_served : (service : Service) → told.IsServed terms service → IsBlob (longest_of settings.header) service.request.value
      → CanServe (longest_of settings.header) functions.digest (shown_content service.before) service.request.key
      → IsServed (shipped_host functions settings script) world (serving_of service)
  service_served service served short can =
      let by : service.worker < length world.workers = subst (λ (n : ℕ). service.worker < n) made.workers served.by in
      let plan = subst (λ (t : Bool × Digest). IsPlan t.0 t.1 service.worker (shown_content service.before) service.request service.clock service.plan (shown_content service.after) service.later) (λ i. (made.absent_is i, made.digest i)) served.plan in
      record {
        may = record {
          there = by;
          at = is_place functions settings script world standing terms made service.place served.at.there;
          running = running service.worker by;
          owns = owns_there functions settings script world standing terms made service.place served.at.there service.request served.at short;
        };
        serves = does service.worker (shown_content service.before) (shown_content service.after) service.request service.clock service.later service.plan can plan
            (within (cases_lt service.clock.end (clock_after (shown_content service.before) service.clock).at.counter));
      }
    where
      within : (service.clock.end < (clock_after (shown_content service.before) service.clock).at.counter)
          ⊎ ((clock_after (shown_content service.before) service.clock).at.counter ≤ service.clock.end)
          → (clock_after (shown_content service.before) service.clock).at.counter ≤ service.clock.end
      within (inl past) = absurd (served.within past)
      within (inr less) = less

  module _ (place : ℕ) (there : place < place_count terms) where
    abbrev hot_keys : List (List Bool)
    hot_keys = hot_paths (standing.mirrored (place / 5) (shard_there functions settings script world standing terms made place there)).mirrors.places

    abbrev first : Content
    first = shown_content (first_at terms place)

    -- the first content of the place can serve the service's request
    first_serves : (service : Service) → service.place ≡ place → told.IsServed terms service → IsSmall settings.header service → SeatServes (longest_of settings.header) functions.digest hot_keys first service.request
    first_serves service at served small =
        let is_at : IsPlaceOf terms place service.request.key = subst (λ (n : ℕ). IsPlaceOf terms n service.request.key) at served.at in
        subst (λ (c : Content). SeatServes (longest_of settings.header) functions.digest hot_keys c service.request) (made.contents place there)
        (seat_serves (longest_of settings.header) functions.digest (shard_at world (place / 5)).contents
        (standing.mirrored (place / 5) (shard_there functions settings script world standing terms made place there)).mirrors
        (place % 5) service.request
        (subst (λ (wide : Bool). service.request.key < 2 ^ key_bits wide)
        (sym (tree_there functions settings (place / 5) (shard_at world (place / 5)).contents
        (standing.mirrored (place / 5) (shard_there functions settings script world standing terms made place there)))) small.key)
        (owns_there functions settings script world standing terms made place there service.request is_at small.value))

    from_mirrored : (x y : code.Content) (services : List Service) → IsStill first (shown_content x) → ContentMirrors (longest_of settings.header) functions.digest hot_keys (shown_content x)
        → told.Leads terms place x services y → AllByRecursion (IsSmall settings.header) services
        → AllByRecursion (λ service. IsServed (shipped_host functions settings script) world (serving_of service)) services
    from_mirrored x y [] same mirrors leads small = tt
    from_mirrored x y (service ∷ services) same mirrors leads small =
        (service_served service leads.2 small.0.value can, from_mirrored service.after y services same_after mirrors_after leads.3 small.1)
      where
        before : Content
        before = shown_content service.before

        serves : SeatServes (longest_of settings.header) functions.digest hot_keys first service.request
        serves = first_serves service leads.0 leads.2 small.0

        plan : IsPlan settings.absent functions.digest service.worker before service.request service.clock service.plan (shown_content service.after) service.later
        plan = subst (λ (t : Bool × Digest). IsPlan t.0 t.1 service.worker before service.request service.clock service.plan (shown_content service.after) service.later) (λ i. (made.absent_is i, made.digest i)) leads.2.plan

        same_before : IsStill first before
        same_before = subst (IsStill first) (sym leads.1) same

        mirrors_before : ContentMirrors (longest_of settings.header) functions.digest hot_keys before
        mirrors_before = subst (ContentMirrors (longest_of settings.header) functions.digest hot_keys) (sym leads.1) mirrors

        own : Owns (longest_of settings.header) before service.request.key
        own = owns_still (longest_of settings.header) (longest_of settings.header) functions.digest hot_keys first before service.request.key same_before mirrors_before serves.own

        apart : IsCold hot_keys before service.request.key
        apart = cold_still hot_keys first before service.request.key same_before serves.cold_there

        can : CanServe (longest_of settings.header) functions.digest before service.request.key
        can = mirrors_serve (longest_of settings.header) functions.digest hot_keys before service.request.key mirrors_before own apart

        same_after : IsStill first (shown_content service.after)
        same_after = subst (IsStill first) (sym plan.content) (still_after settings.absent functions.digest service.worker first before plan.links service.request service.clock same_before)

        mirrors_after : ContentMirrors (longest_of settings.header) functions.digest hot_keys (shown_content service.after)
        mirrors_after = plan_mirrors settings.absent (longest_of settings.header) functions.digest service.worker hot_keys before (shown_content service.after) service.request service.clock service.later service.plan
            digests small.0.value mirrors_before own apart plan

    -- Each service of the place's past is what the host does.
    pub past_served : (y : code.Content) (services : List Service) → told.Leads terms place (first_at terms place) services y → AllByRecursion (IsSmall settings.header) services
        → AllByRecursion (λ service. IsServed (shipped_host functions settings script) world (serving_of service)) services
    past_served y [] leads small = tt
    past_served y (service ∷ services) leads small =
        from_mirrored (first_at terms place) y (service ∷ services) (still first) (first_serves service leads.0 leads.2 small.0).mirrors leads small
