-- A table of what a world's places have is one of the world: its workers' clocks are of it, and so are the places of keys.
use Rattle.std.proofs.Common.{◌≡◌, ◌⊎◌, inl, inr, ℕ, zero, suc, ◌*◌, ◌/◌, ◌%◌, ◌^◌, ◌<◌, ◌≤◌, Bool, List, map, length, get_or, refl, sym, ◌∙◌, ap, subst, arith}
use Rattle.std.proofs.Math.ListN.{get_or-map}
use Rattle.std.proofs.lemmas.Bool.{and_parts, cases_lt}
use Rattle.std.proofs.lemmas.List.{length-map, get_or_past}
use Rattle.tree_keys.specs.Path.{key_bits}
use Rattle.record_hash.specs.Functions.{DigestFunctions}
use Rattle.record_text.specs.declared.request.Request.{Request}
use Rattle.record_text.specs.Longest.{longest_blob, longest_of}
use Rattle.record_text.specs.Tree.{wide_of}
use Rattle.script_text.specs.declared.task.Task.{Task}
use Rattle.host_core.specs.Host.{Host}
use Rattle.host_core.specs.World.{World, worker_at, shard_at, epoch_of}
use Rattle.host_order.specs.Serving.{content_at}
use Rattle.host_shard.specs.declared.content.Content as code
use Rattle.host_shard.specs.declared.content.Content.TheVariants.{Hot, Vacant}
use Rattle.host_shard.specs.declared.content.HotRecord.{HotRecord}
use Rattle.host_shard.specs.Content.{Content, hot, vacant}
use Rattle.host_shard.specs.Shown.{shown_content}
use Rattle.host_plan.specs.Plan.{Owns}
use Rattle.host_epochs.specs.Terms.{Terms, first_at, first_epoch, final_epoch, place_count, IsPlaceOf, IsClockOf}
use Rattle.shipped_host.specs.declared.settings.Settings.{Settings}
use Rattle.host_world.specs.Lending.{all_contents}
use Rattle.host_core.specs.Core.{IsStanding}
use Rattle.host_fits.specs.Mirroring.{PlacesMirror}
use Rattle.host_fits.proofs.StandingLaws.{tree_there}
use Rattle.host_world.specs.Places.{place_of}
use Rattle.shipped_host.specs.Seated.{SeatsMirror}
use Rattle.shipped_host.specs.ShippedHost.{shipped_host, serves_key, is_blob}
use Rattle.shipped_host.proofs.LongerLaws.{longest_fits, owns_longer, seats_longer}
use Rattle.shipped_host.proofs.SeatLaws.{seat_serves, stage_mirrors, stage_at}
use Rattle.move_laws.proofs.DescentLaws.{apart_by_number}
use Rattle.round_fits.specs.Rounds.{HasNothingHot}
use Rattle.table_order.specs.Rounds.{AreTermsOf}
use Rattle.round_workers.specs.Sharing.{IsColdAt}
use Rattle.worker_threads.specs.Phase.{IsPlaceFor}
use Rattle.worker_threads.proofs.FilledLemmas.{HaveFive, all_count, all_at}
use Rattle.worker_threads.proofs.SeatLemmas.{serves_alone}

module _ (functions : DigestFunctions) (settings : Settings) (script : List (List Task)) (world : World Content)
    (standing : IsStanding (PlacesMirror functions settings) (shipped_host functions settings script) world) where
  abbrev host : Host Content Request
  host = shipped_host functions settings script

  -- Each shard has five seats.
  pub five : HaveFive world.shards
  five s there =
      let mirrors = (standing.mirrored s there).mirrors in
      ap (λ (xs : List Content). length xs) mirrors.is ∙ ap (λ (n : ℕ). suc n) mirrors.four

  module _ (contents : List code.Content) (lent : map shown_content contents ≡ all_contents world.shards) where
    pub as_many : length contents ≡ length world.shards * 5
    as_many =
        let shown = length-map contents shown_content in
        let all = ap (λ (xs : List Content). length xs) lent in
        omega (arith, shown, all, all_count world.shards five)

    -- What a place has is what is lent of it.
    pub lent_at : (place : ℕ) → place < length contents → content_at host world (place_of place) ≡ shown_content (get_or contents place Vacant)
    lent_at place there =
        sym (all_at world.shards five (place / 5) (place % 5) place vacant (omega (arith, there, as_many)) (omega arith) (omega arith))
        ∙ ap (λ (xs : List Content). get_or xs place vacant) (sym lent)
        ∙ get_or-map shown_content contents place Vacant

  -- A clock of the epoch in which a table was made is of the table.
  pub clock_of : (terms : Terms) → terms.header ≡ settings.header → (i : ℕ) → i < length world.workers
      → (worker_at host world i).clock.at.epoch ≡ first_epoch terms → IsClockOf terms (worker_at host world i).clock
  clock_of terms header i there here = record {
    first = (standing.clocks i there).first ∙ sym (ap (λ h. h.first) header);
    end = (standing.clocks i there).end ∙ sym (ap (λ h. h.end) header);
    from = omega (arith, here);
    to = omega (arith, here);
  }

  module _ (terms : Terms) (lent : map shown_content terms.contents ≡ all_contents world.shards) where
    -- It is a table of the world.
    pub terms_of_world : terms.header ≡ settings.header → terms.digest ≡ functions.digest → terms.absent ≡ settings.absent → terms.workers ≡ length world.workers
        → final_epoch terms ≡ epoch_of host world → AreTermsOf host settings.absent world terms
    terms_of_world header digest told workers final = record {
      header = header;
      digest = digest;
      absent_is = told;
      workers = workers;
      places = as_many terms.contents lent;
      contents = lent_at terms.contents lent;
      final = final;
    }

    -- ---- places

    -- Where no record is hot, a place has a shard where it is the first of one, and is vacant else.
    pub is_cold : HasNothingHot world → (place : ℕ) → place < place_count terms → IsColdAt place (shown_content (first_at terms place))
    is_cold none place there =
        subst (IsColdAt place) (lent_at terms.contents lent place there) (go (place % 5) refl)
      where
        within : place / 5 < length world.shards
        within = omega (arith, there, as_many terms.contents lent)

        seats : List Content
        seats = (shard_at world (place / 5)).contents

        mirrors : SeatsMirror longest_blob functions.digest seats
        mirrors = seats_longer (longest_of settings.header) longest_blob (longest_fits settings.header) functions.digest seats (standing.mirrored (place / 5) within).mirrors

        go : (seat : ℕ) → place % 5 ≡ seat → IsColdAt place (get_or seats (place % 5) vacant)
        go zero is =
            subst (IsColdAt place) (sym (ap (λ (n : ℕ). get_or seats n vacant) is ∙ ap (λ (cs : List Content). get_or cs 0 vacant) mirrors.is)) (is, mirrors.mirrored.fits)
        go (suc seat) is = subst (IsColdAt place) (sym (ap (λ (n : ℕ). get_or seats n vacant) is ∙ none (place / 5) seat)) tt

    -- The place of a request is the key's.
    pub place_is : (place : ℕ) (request : Request) → request.key < 2 ^ key_bits (wide_of settings.header) → IsPlaceFor host world request place → IsPlaceOf terms place request.key
    place_is place request small is = record {
      there = there;
      owns = subst (λ (c : Content). Owns longest_blob c request.key) (lent_at terms.contents lent place there)
          (owns_longer (longest_of settings.header) longest_blob (longest_fits settings.header) (get_or seats (place % 5) vacant) request.key
          (seat_serves (longest_of settings.header) functions.digest seats mirrors (place % 5) request
          (subst (λ (wide : Bool). request.key < 2 ^ key_bits wide) (sym (tree_there functions settings (place / 5) seats (standing.mirrored (place / 5) is.there.0))) small) is.owns).own);
      cold = λ other kept near found same. alone other kept near found same (cases_lt other (length terms.contents));
    }
      where
        seats : List Content
        seats = (shard_at world (place / 5)).contents

        mirrors : SeatsMirror (longest_of settings.header) functions.digest seats
        mirrors = (standing.mirrored (place / 5) is.there.0).mirrors

        there : place < length terms.contents
        there = let many = as_many terms.contents lent in omega (arith, many, is.there.0)

        no_vacant : (kept : HotRecord) → Vacant ≡ Hot kept → ⊥
        no_vacant kept same = cc

        alone : (other : ℕ) (kept : HotRecord) → other / 5 ≡ place / 5 → first_at terms other ≡ Hot kept → kept.key ≡ request.key
            → (other < length terms.contents) ⊎ (length terms.contents ≤ other) → other ≡ place
        alone other kept near found same (inr past) = absurd (no_vacant kept (sym (get_or_past terms.contents other Vacant past) ∙ found))
        alone other kept near found same (inl below) =
            let stage = stage_at mirrors.shard mirrors.places (worker_at host world 0).clock in
            let apart = apart_by_number (longest_of settings.header) functions.digest 0 stage
            (stage_mirrors (longest_of settings.header) functions.digest seats (worker_at host world 0).clock mirrors) in
            let shows : get_or seats (other % 5) vacant ≡ hot kept =
            ap (λ (s : ℕ). get_or (shard_at world s).contents (other % 5) vacant) (sym near)
            ∙ lent_at terms.contents lent other below ∙ ap shown_content found in
            let serves = (and_parts (serves_key seats request.key (get_or seats (place % 5) vacant)) (is_blob (longest_of settings.header) request.value) is.owns).0 in
            let few = five (place / 5) is.there.0 in
            let seat : other % 5 ≡ place % 5 =
            serves_alone seats mirrors.shard mirrors.places mirrors.is apart (place % 5) (other % 5) request.key kept (omega (arith, few)) serves shows same in
            omega (arith, near, seat)
