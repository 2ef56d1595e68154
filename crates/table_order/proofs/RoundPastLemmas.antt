-- The past of a place in a round: each entry there is what the shipped host does, since the content that it finds mirrors.
use Rattle.std.proofs.Common.{◌≡◌, ◌⊎◌, ℕ, zero, suc, ◌^◌, ◌/◌, ◌%◌, ◌<◌, ◌≤◌, Bool, true, false, List, [], ◌∷◌, length, get_or, Option, Some, None, if◌then◌else◌, inl, inr, refl, sym, ◌∙◌, ap, subst, arith}
use Rattle.std.specs.List.{AllByRecursion}
use Rattle.std.proofs.lemmas.Bool.{cases_lt, le-ltb}
use Rattle.lamport_clocks.specs.declared.header.Header.{Header}
use Rattle.lamport_clocks.specs.Reading.{Reading}
use Rattle.record_hash.specs.Functions.{DigestFunctions}
use Rattle.record_text.specs.declared.request.Request.{Request}
use Rattle.record_text.specs.Longest.{longest_of}
use Rattle.log_codec.specs.declared.command.Command.{Command}
use Rattle.merkle_records.specs.Merkle.{Digest, GivesDigests}
use Rattle.script_text.specs.declared.task.Task.{Task}
use Rattle.tree_keys.specs.Path.{key_bits}
use Rattle.host_core.specs.Core.{IsStanding}
use Rattle.host_core.specs.Deeds.{pending_of}
use Rattle.host_core.specs.Host.{Host}
use Rattle.host_core.specs.World.{World, worker_at, shard_at}
use Rattle.host_core.specs.WorldEvent.{IsPlace, AreUpTo}
use Rattle.round_order.specs.Turn.{Turn, IsPlaceChain, content_behind}
use Rattle.round_order.specs.Steady.{scanned_done}
use Rattle.round_order.specs.Told.{others_in, others_at, IsScan, IsDid, IsTaken}
use Rattle.host_shard.specs.declared.content.Content as code
use Rattle.host_shard.specs.Shard.{pending_shard}
use Rattle.host_shard.specs.Content.{Content, cold, hot, vacant, pending}
use Rattle.host_shard.specs.Shown.{shown_content}
use Rattle.host_plan.specs.Plan.{Owns, IsPlan, IsPastEnd, clock_after}
use Rattle.host_laws.specs.Mirroring.{ContentMirrors, IsCold}
use Rattle.host_laws.specs.Served.{waiting}
use Rattle.host_laws.proofs.MirrorLaws.{plan_mirrors, mirrors_serve}
use Rattle.protection_moves.specs.Stage.{hot_paths}
use Rattle.host_epochs.specs.declared.told.Entry.{Entry}
use Rattle.host_epochs.specs.Scan.{IsStale, scan_commands, scanned}
use Rattle.host_epochs.specs.Terms.{Terms, Waits, place_count, first_at, first_epoch, IsPlaceOf}
use Rattle.host_epochs.specs.Told as told
use Rattle.host_epochs.proofs.WorkLaws.{work_some}
use Rattle.host_table.specs.Terms.{phase_of}
use Rattle.shipped_host.specs.declared.settings.Settings.{Settings}
use Rattle.shipped_host.specs.ShippedHost.{shipped_host}
use Rattle.shipped_host.proofs.SeatLaws.{SeatServes, seat_serves}
use Rattle.host_fits.specs.Mirroring.{PlacesMirror}
use Rattle.host_fits.proofs.StandingLaws.{tree_there}
use Rattle.host_world.specs.Places.{place_of}
use Rattle.round_fits.specs.Rounds.{AreOthersVacant, HasNothingHot}
use Rattle.round_fits.proofs.ScanLaws.{cold_move}
use Rattle.round_fits.proofs.VacantLaws.{none_waits}
use Rattle.table_order.specs.Phases as phases
use Rattle.table_order.specs.Rounds.{AreTermsOf, turn_of, turns_of}
use Rattle.table_order.specs.RoundMirroring.{IsAskInRange}
use Rattle.table_order.proofs.Keeping.{DoesPlans}
use Rattle.table_order.proofs.MadeLemmas.{seat_of_shard}
use Rattle.table_order.proofs.PastLemmas.{IsStill, still, owns_still, cold_still, still_after}
use Rattle.table_order.proofs.PlaceLemmas.{shard_there, is_place, owns_there}

-- ---- what a history says

-- what it leaves
pub behind_leads : (terms : Terms) (place : ℕ) (x y : code.Content) (entries : List Entry) → told.Leads terms place x entries y
    → content_behind (shown_content x) (turns_of entries) ≡ shown_content y
behind_leads terms place x y [] leads = sym leads
behind_leads terms place x y (entry ∷ entries) leads = behind_leads terms place entry.after y entries leads.3

-- that it is a chain
pub chain_leads : (terms : Terms) (place : ℕ) (x y : code.Content) (entries : List Entry) → told.Leads terms place x entries y
    → IsPlaceChain (shown_content x) (turns_of entries)
chain_leads terms place x y [] leads = tt
chain_leads terms place x y (entry ∷ entries) leads = (leads.1, chain_leads terms place entry.after y entries leads.3)

-- that all is at the place
pub place_leads : (terms : Terms) (place : ℕ) (x y : code.Content) (entries : List Entry) → told.Leads terms place x entries y
    → AllByRecursion (λ turn. turn.place ≡ place_of place) (turns_of entries)
place_leads terms place x y [] leads = tt
place_leads terms place x y (entry ∷ entries) leads = (ap place_of leads.0, place_leads terms place entry.after y entries leads.3)

-- ---- what waits

-- what is so of the epoch of what waits is so of each element
pub waits_each : (P Q : ℕ → Type 0) → ((epoch : ℕ) → P epoch → Q epoch) → (content : Content) → Waits P content
    → AllByRecursion (λ element. Q element.stamp.epoch) (waiting (pending content))
waits_each P Q weaker (cold shard) waits = (weaker shard.stamp.epoch waits, tt)
waits_each P Q weaker (hot found) waits = (weaker found.stamp.epoch waits, tt)
waits_each P Q weaker vacant waits = tt

pub not_less : (a b : ℕ) → (a < b → ⊥) → b ≤ a
not_less a b none = go (cases_lt a b)
  where
    go : (a < b) ⊎ (b ≤ a) → b ≤ a
    go (inl less) = absurd (none less)
    go (inr least) = least

-- nothing waits before the making, where the clock is at its epoch
none_stale : (first epoch : ℕ) → epoch ≤ first → (content : Content) → Waits (λ waits. (first ≤ waits) × (waits ≤ epoch) × (epoch ≤ suc waits)) content → IsStale epoch content → ⊥
none_stale first epoch up (cold shard) near stale = let from = near.0 in omega (arith, up, from, stale)
none_stale first epoch up (hot found) near stale = let from = near.0 in omega (arith, up, from, stale)
none_stale first epoch up vacant near stale = stale

-- ---- what a scan leaves

-- the content is a shard's
abbrev pub IsShardAt : Content → Type 0
IsShardAt (cold shard) = Unit {0}
IsShardAt (hot found) = ⊥
IsShardAt vacant = ⊥

pub still_shard : (old new : Content) → IsStill old new → IsShardAt old → IsShardAt new
still_shard (cold old) (cold new) same is = tt
still_shard (cold old) (hot new) same is = same
still_shard (cold old) vacant same is = same
still_shard (hot old) new same is = absurd is
still_shard vacant new same is = absurd is

still_vacant : (new : Content) → IsStill vacant new → new ≡ vacant
still_vacant (cold new) same = absurd same
still_vacant (hot new) same = absurd same
still_vacant vacant same = refl

pub still_scanned : (worker : ℕ) (old content : Content) (clock : Reading) → IsStill old content → IsStill old (scanned worker content clock)
still_scanned worker (cold old) (cold shard) clock same = same
still_scanned worker (cold old) (hot found) clock same = same
still_scanned worker (cold old) vacant clock same = same
still_scanned worker (hot old) (cold shard) clock same = same
still_scanned worker (hot old) (hot found) clock same = same
still_scanned worker (hot old) vacant clock same = same
still_scanned worker vacant (cold shard) clock same = same
still_scanned worker vacant (hot found) clock same = same
still_scanned worker vacant vacant clock same = same

-- It mirrors as what was scanned.
pub scanned_mirrors : (longest : ℕ) (digest : Digest) (hot_keys : List (List Bool)) (worker : ℕ) (content : Content) (clock : Reading)
    → ContentMirrors longest digest hot_keys content → ContentMirrors longest digest hot_keys (scanned worker content clock)
scanned_mirrors longest digest hot_keys worker (cold shard) clock is = record {
  fits = record { below_root = is.fits.below_root; no_data = is.fits.no_data; kinds = is.fits.kinds };
  mirrors = record {
    kept = is.mirrors.kept;
    waits = is.mirrors.waits;
    reached = is.mirrors.reached;
    hot_waits = is.mirrors.hot_waits;
    hot_keys = is.mirrors.hot_keys;
    touched = λ path some. absurd (omega (arith, some));
  };
}
scanned_mirrors longest digest hot_keys worker (hot found) clock is = is
scanned_mirrors longest digest hot_keys worker vacant clock is = tt

-- ---- the entries of a place

-- what the entry asks for is in range
abbrev pub IsSmall : Header → Entry → Type 0
IsSmall header entry = IsAskInRange header entry.request

-- the world has nothing hot where the host is rolling, and else no more epoch may be entered
pub record IsOfMode (settings : Settings) (world : World Content) (terms : Terms) : Type 0 where
  pub cold_only : settings.rolling ≡ true → settings.hot ≡ None
  pub nothing_hot : settings.rolling ≡ true → HasNothingHot world
  pub plain : settings.rolling ≡ false → terms.more ≡ 0

module _ (functions : DigestFunctions) (settings : Settings) (script : List (List Task)) where
  abbrev host : Host Content Request
  host = shipped_host functions settings script

  -- A scan of a shard is the host's move, where nothing waits at the other places.
  scan_moves : settings.hot ≡ None → (worker s : ℕ) (clock later : Reading) (content after : Content) (commands : List Command) (others : List Content)
      → IsShardAt content → pending_of host others ≡ [] → (IsPastEnd content clock → ⊥)
      → commands ≡ scan_commands content clock → after ≡ scanned worker content clock → later ≡ clock_after content clock
      → host.move worker clock s (content ∷ others) ≡ Some (scanned_done others (record { commands = commands; after = after; clock = later }))
  scan_moves cold_only worker s clock later (cold shard) after commands others is alone within logs leaves ticks =
      cold_move functions settings script cold_only worker clock shard others alone s
      ∙ ap (λ (b : Bool). if b then None else Some (scanned_done others (record { commands = scan_commands (cold shard) clock; after = scanned worker (cold shard) clock; clock = clock_after (cold shard) clock })))
      (le-ltb clock.end (clock_after (cold shard) clock).at.counter (not_less clock.end (clock_after (cold shard) clock).at.counter within))
      ∙ (λ k. Some (scanned_done others (record { commands = sym logs k; after = sym leaves k; clock = sym ticks k })))
  scan_moves cold_only worker s clock later (hot found) after commands others is alone within logs leaves ticks = absurd is
  scan_moves cold_only worker s clock later vacant after commands others is alone within logs leaves ticks = absurd is

  -- the terms of the table without its further epochs
  pub plain_made : (world : World Content) (terms : Terms) → AreTermsOf (shipped_host functions settings script) settings.absent world terms
      → phases.AreTermsOf (shipped_host functions settings script) settings.absent world (phase_of terms)
  plain_made world terms made = record {
    header = made.header;
    digest = made.digest;
    absent_is = made.absent_is;
    workers = made.workers;
    places = made.places;
    contents = made.contents;
  }

  -- the other seats of a shard
  others_vacant : (contents : List Content) → AreOthersVacant contents → (k : ℕ) → get_or (others_in contents) k vacant ≡ vacant
  others_vacant [] none k = refl
  others_vacant (content ∷ contents) none k = none k

  module _ (world : World Content)
      (standing : IsStanding (PlacesMirror functions settings) (shipped_host functions settings script) world) (terms : Terms)
      (made : AreTermsOf (shipped_host functions settings script) settings.absent world terms) (digests : GivesDigests functions.digest)
      (does : DoesPlans functions settings script) (mode : IsOfMode settings world terms)
      (running : (worker : ℕ) → worker < length world.workers → (worker_at (shipped_host functions settings script) world worker).stopped ≡ false) where
    module _ (place : ℕ) (there : place < place_count terms) where
      in_shard : place / 5 < length world.shards
      in_shard = shard_there functions settings script world standing (phase_of terms) (plain_made world terms made) place there

      abbrev seats : List Content
      seats = (shard_at world (place / 5)).contents

      abbrev hot_keys : List (List Bool)
      hot_keys = hot_paths (standing.mirrored (place / 5) in_shard).mirrors.places

      abbrev first : Content
      first = shown_content (first_at terms place)

      -- the first content of the place mirrors
      first_mirrors : ContentMirrors (longest_of settings.header) functions.digest hot_keys first
      first_mirrors =
          let mirrors = (standing.mirrored (place / 5) in_shard).mirrors in
          subst (ContentMirrors (longest_of settings.header) functions.digest hot_keys) (made.contents place there)
          (subst (λ (xs : List Content). ContentMirrors (longest_of settings.header) functions.digest hot_keys (get_or xs (place % 5) vacant)) (sym mirrors.is)
          (seat_of_shard (longest_of settings.header) functions.digest seats mirrors (place % 5)))

      -- at a first seat it is a shard's
      first_shard : place % 5 ≡ 0 → IsShardAt first
      first_shard is =
          let mirrors = (standing.mirrored (place / 5) in_shard).mirrors in
          subst IsShardAt (made.contents place there)
          (subst (λ (n : ℕ). IsShardAt (get_or seats n vacant)) (sym is)
          (subst (λ (xs : List Content). IsShardAt (get_or xs 0 vacant)) (sym mirrors.is) tt))

      -- what is done in a rolling host is done at a first seat
      seat_first : settings.rolling ≡ true → (entry : Entry) → IsStill first (shown_content entry.before) → told.IsWork terms entry entry.request → place % 5 ≡ 0
      seat_first rolling entry same work = go (place % 5) refl
        where
          go : (seat : ℕ) → place % 5 ≡ seat → place % 5 ≡ 0
          go zero is = is
          go (suc k) is = absurd (work_some terms entry entry.request work (still_vacant (shown_content entry.before) (subst (λ (c : Content). IsStill c (shown_content entry.before)) none same)))
            where
              none : first ≡ vacant
              none = sym (made.contents place there) ∙ (ap (λ (n : ℕ). get_or seats n vacant) is ∙ mode.nothing_hot rolling (place / 5) k)

      -- ---- one entry

      module _ (entry : Entry) (at : entry.place ≡ place) (done : told.IsDone terms entry) (same : IsStill first (shown_content entry.before))
          (mirrors : ContentMirrors (longest_of settings.header) functions.digest hot_keys (shown_content entry.before)) where
        abbrev before : Content
        before = shown_content entry.before

        abbrev turn : Turn Content Request
        turn = turn_of entry

        by : entry.worker < length world.workers
        by = subst (λ (n : ℕ). entry.worker < n) made.workers done.asked.by

        within : (clock_after before entry.clock).at.counter ≤ entry.clock.end
        within = not_less entry.clock.end (clock_after before entry.clock).at.counter done.asked.within

        -- ---- a scan

        module _ (scan : told.IsScan terms entry) (work : told.IsWork terms entry entry.request) where
          is_rolling : settings.rolling ≡ true
          is_rolling = go settings.rolling refl
            where
              go : (b : Bool) → settings.rolling ≡ b → settings.rolling ≡ true
              go true is = is
              go false is = absurd (none_stale (first_epoch terms) entry.clock.at.epoch
                  (let to = done.asked.clock.to in let none = mode.plain is in omega (arith, to, none)) before done.near scan.stale)

          first_seat : entry.place % 5 ≡ 0
          first_seat = ap (λ (n : ℕ). n % 5) at ∙ seat_first is_rolling entry same work

          shard_before : IsShardAt before
          shard_before = still_shard first before same (first_shard (seat_first is_rolling entry same work))

          alone : pending_of host (others_at world (entry.place / 5)) ≡ []
          alone = none_waits functions settings script (mode.cold_only is_rolling) (others_at world (entry.place / 5))
              (others_vacant (shard_at world (entry.place / 5)).contents (mode.nothing_hot is_rolling (entry.place / 5)))

          scan_is : IsScan host settings.rolling world turn
          scan_is = go before refl shard_before scan.stale done.near
            where
              go : (content : Content) → before ≡ content → IsShardAt content → IsStale entry.clock.at.epoch content
                  → Waits (λ epoch. (first_epoch terms ≤ epoch) × (epoch ≤ entry.clock.at.epoch) × (entry.clock.at.epoch ≤ suc epoch)) content
                  → IsScan host settings.rolling world turn
              go (hot found) is shard' stale near = absurd shard'
              go vacant is shard' stale near = absurd shard'
              go (cold shard) is shard' stale near = record {
                rolling = is_rolling;
                scanned = is_rolling;
                first = first_seat;
                own = ap (λ (n : ℕ). entry.place / 5 % n) (sym made.workers) ∙ scan.own;
                alone = alone;
                waits = (pending_shard shard, ap host.pending is);
                before = shard.stamp.epoch;
                turned = let up = near.2 in omega (arith, stale, up);
                earlier = subst (λ (c : Content). AreUpTo shard.stamp.epoch (host.pending c)) (sym is) (omega arith, tt);
                moves = scan_moves (mode.cold_only is_rolling) entry.worker (entry.place / 5) entry.clock entry.later before (shown_content entry.after) entry.plan.commands
                    (others_at world (entry.place / 5)) shard_before alone done.asked.within scan.commands scan.content scan.clock;
              }

        -- ---- a service

        module _ (request : Request) (service : told.IsService terms entry request) (small : IsAskInRange settings.header (Some request)) where
          is_at : IsPlaceOf terms place request.key
          is_at = subst (λ (n : ℕ). IsPlaceOf terms n request.key) at service.at

          -- the first content of the place can serve the request
          serves : SeatServes (longest_of settings.header) functions.digest hot_keys first request
          serves =
              subst (λ (c : Content). SeatServes (longest_of settings.header) functions.digest hot_keys c request) (made.contents place there)
              (seat_serves (longest_of settings.header) functions.digest seats (standing.mirrored (place / 5) in_shard).mirrors (place % 5) request
              (subst (λ (wide : Bool). request.key < 2 ^ key_bits wide)
              (sym (tree_there functions settings (place / 5) seats (standing.mirrored (place / 5) in_shard))) small.0)
              (owns_there functions settings script world standing (phase_of terms) (plain_made world terms made) place there request is_at small.1))

          own : Owns (longest_of settings.header) before request.key
          own = owns_still (longest_of settings.header) (longest_of settings.header) functions.digest hot_keys first before request.key same mirrors serves.own

          apart : IsCold hot_keys before request.key
          apart = cold_still hot_keys first before request.key same serves.cold_there

          plan : IsPlan settings.absent functions.digest entry.worker before request entry.clock entry.plan (shown_content entry.after) entry.later
          plan = subst (λ (t : Bool × Digest). IsPlan t.0 t.1 entry.worker before request entry.clock entry.plan (shown_content entry.after) entry.later)
              (λ k. (made.absent_is k, made.digest k)) service.plan

          service_is : IsDid host settings.rolling world turn (Some request)
          service_is = (
            owns_there functions settings script world standing (phase_of terms) (plain_made world terms made) entry.place service.at.there request service.at small.1,
            does entry.worker before (shown_content entry.after) request entry.clock entry.later entry.plan
                (mirrors_serve (longest_of settings.header) functions.digest hot_keys before request.key mirrors own apart) plan within,
          )

          service_still : IsStill first (shown_content entry.after)
          service_still = subst (IsStill first) (sym plan.content) (still_after settings.absent functions.digest entry.worker first before plan.links request entry.clock same)

          service_mirrors : ContentMirrors (longest_of settings.header) functions.digest hot_keys (shown_content entry.after)
          service_mirrors = plan_mirrors settings.absent (longest_of settings.header) functions.digest entry.worker hot_keys before (shown_content entry.after) request entry.clock entry.later entry.plan
              digests small.1 mirrors own apart plan

        -- ---- either

        -- the entry is what the host does, and leaves what mirrors
        record IsKeeping (request : Option Request) : Type 0 where
          pub did : IsDid host settings.rolling world turn request
          pub same_after : IsStill first (shown_content entry.after)
          pub mirrors_after : ContentMirrors (longest_of settings.header) functions.digest hot_keys (shown_content entry.after)

        keeping : (request : Option Request) → entry.request ≡ request → told.IsWork terms entry request → IsAskInRange settings.header request → IsKeeping request
        keeping None is scan small = record {
          did = scan_is scan (subst (told.IsWork terms entry) (sym is) scan);
          same_after = subst (IsStill first) (sym scan.content) (still_scanned entry.worker first before entry.clock same);
          mirrors_after = subst (ContentMirrors (longest_of settings.header) functions.digest hot_keys) (sym scan.content)
              (scanned_mirrors (longest_of settings.header) functions.digest hot_keys entry.worker before entry.clock mirrors);
        }
        keeping (Some request) is service small = record {
          did = service_is request service small;
          same_after = service_still request service small;
          mirrors_after = service_mirrors request service small;
        }

        taken : IsKeeping entry.request → IsTaken host settings.rolling world turn
        taken kept = record {
          there = by;
          at = subst (λ (n : ℕ). IsPlace world (place_of n)) (sym at) (is_place functions settings script world standing (phase_of terms) (plain_made world terms made) place there);
          running = running entry.worker by;
          reached = waits_each _ (λ epoch. epoch ≤ entry.clock.at.epoch) (λ epoch near. near.1) before done.near;
          near = waits_each _ (λ epoch. entry.clock.at.epoch ≤ suc epoch) (λ epoch near. near.2) before done.near;
          alone = λ rolling. ap (λ (n : ℕ). n % 5) at ∙ seat_first rolling entry same done.asked.work;
          did = kept.did;
        }

      from_mirrored : (x y : code.Content) (entries : List Entry) → IsStill first (shown_content x) → ContentMirrors (longest_of settings.header) functions.digest hot_keys (shown_content x)
          → told.Leads terms place x entries y → AllByRecursion (IsSmall settings.header) entries
          → AllByRecursion (λ entry. IsTaken host settings.rolling world (turn_of entry)) entries
      from_mirrored x y [] same mirrors leads small = tt
      from_mirrored x y (entry ∷ entries) same mirrors leads small =
          let same_before = subst (IsStill first) (sym leads.1) same in
          let mirrors_before = subst (ContentMirrors (longest_of settings.header) functions.digest hot_keys) (sym leads.1) mirrors in
          let kept = keeping entry leads.0 leads.2 same_before mirrors_before entry.request refl leads.2.asked.work small.0 in
          (taken entry leads.0 leads.2 same_before mirrors_before kept, from_mirrored entry.after y entries kept.same_after kept.mirrors_after leads.3 small.1)

      -- Each entry of the place's past is what the host does.
      pub past_taken : (y : code.Content) (entries : List Entry) → told.Leads terms place (first_at terms place) entries y → AllByRecursion (IsSmall settings.header) entries
          → AllByRecursion (λ entry. IsTaken host settings.rolling world (turn_of entry)) entries
      past_taken y entries leads small = from_mirrored (first_at terms place) y entries (still first) first_mirrors leads small
