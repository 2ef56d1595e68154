-- The seats of a shard, behind a request and behind a move.
use Rattle.std.proofs.Common.{◌≡◌, ℕ, zero, suc, ◌<◌, ◌^◌, Bool, true, false, not, ◌&&◌, List, [], ◌∷◌, length, get_or, set, Option, Some, None, is_some, inl, inr, ◌⊎◌, refl, sym, ◌∙◌, ap, subst}
use Rattle.std.specs.Prelude.{◌==◌, IfSome}
use Rattle.std.proofs.lemmas.Bool.{false≢true, and_parts, leb-true, le-leb, eqb-true}
use Rattle.std.proofs.lemmas.List.{length-set}
use Rattle.std.specs.List.{AllByRecursion, list_any}
use Rattle.tree_keys.specs.Path.{tree_of, side, is_prefix, IsBelow, key_bits, IsData, key_path, IsNodePath}
use Rattle.tree_keys.proofs.SideLaws.{prefix_cases}
use Rattle.tree_keys.proofs.TreeLaws.{data-no_node, key_path-data, key_path-injective}
use Rattle.lamport_clocks.specs.Reading.{Reading}
use Rattle.record_text.specs.declared.request.Request.{Request}
use Rattle.record_text.specs.Value.{IsBlob}
use Rattle.merkle_records.specs.Merkle.{Digest, GivesDigests}
use Rattle.host_core.specs.Host.{Done}
use Rattle.host_shard.specs.declared.link.Link.{Link}
use Rattle.host_shard.specs.declared.content.HotRecord.{HotRecord}
use Rattle.host_shard.specs.Shard.{key_path_in, wide_in, Shard}
use Rattle.host_shard.specs.Content.{wide_at, hot_path, Content, cold, hot, vacant, pending, pending_hot}
use Rattle.host_shard.specs.Mirrors.{HasKeyOf}
use Rattle.host_plan.specs.Moments.{renewing}
use Rattle.host_plan.specs.Plan.{Owns, clock_after, content_after}
use Rattle.host_laws.specs.Served.{waiting}
use Rattle.host_laws.specs.Mirroring.{IsMirrored, ContentMirrors, IsCold}
use Rattle.host_laws.proofs.MirrorLaws.{plan_mirrors}
use Rattle.protection_moves.specs.Stage.{Stage, hot_records, hot_paths, is_hot_at, touched_in}
use Rattle.protection_moves.specs.Renewing.{renewing_each}
use Rattle.protection_moves.specs.Move.{begun, moved}
use Rattle.protection_moves.proofs.RenewingLaws.{renewing_each-epoch}
use Rattle.move_laws.specs.Stages.{StageMirrors}
use Rattle.move_laws.proofs.PlaceLaws.{one_of-all, all-map}
use Rattle.move_laws.proofs.VacantLaws.{among-member, member-one, images-all}
use Rattle.move_laws.proofs.FitLaws.{move_fresh}
use Rattle.move_laws.proofs.MoveLaws.{move_mirrors}
use Rattle.move_laws.proofs.RenewLaws.{IsFresh}
use Rattle.move_laws.proofs.DescentLaws.{each-first, each-epoch, each-frontier}
use Rattle.shipped_host.specs.Moving.{stage_of, move_seats}
use Rattle.shipped_host.specs.Planned.{IsPlanned, IsMoved}
use Rattle.shipped_host.specs.Seated.{IsHotPlace, SeatsMirror, wide_among, waiting_at}
use Rattle.shipped_host.specs.ShippedHost.{is_blob, serves_key, is_place_of, serve_at}
use Rattle.shipped_host.proofs.PlaceLaws.{hot_there, keys-set, records-set, all-set, place_there, key_found, waits-hot, length-moved, hot-moved}
use Rattle.shipped_host.proofs.PlannedLaws.{served_is_planned}
use Rattle.shipped_host.proofs.DescentLaws.{done_is_move}

-- the value fits
pub blob_fits : (longest : ℕ) (blob : Option (List ℕ)) → is_blob longest blob ≡ true → IsBlob longest blob
blob_fits longest None is = tt
blob_fits longest (Some bytes) is = leb-true (length bytes) longest is

pub fits_blob : (longest : ℕ) (blob : Option (List ℕ)) → IsBlob longest blob → is_blob longest blob ≡ true
fits_blob longest None fits = refl
fits_blob longest (Some bytes) fits = le-leb (length bytes) longest fits

not_so : (b : Bool) → not b ≡ true → b ≡ true → ⊥
not_so true is also = false≢true is
not_so false is also = false≢true also

-- the tree of seats that mirror is that of their shard
pub tree_is : {longest : ℕ} {digest : Digest} (seats : List Content) (mirrors : SeatsMirror longest digest seats) → wide_among seats ≡ wide_in mirrors.shard
tree_is seats mirrors = ap wide_among mirrors.is

-- records of one key have one path
same_path_of : (new old : HotRecord) → (new.wide ≡ old.wide) × (new.key ≡ old.key) → hot_path new ≡ hot_path old
same_path_of new old same = ap (λ (wide : Bool). key_path wide new.key) same.0 ∙ ap (key_path old.wide) same.1

-- and if one's is of a shard's tree, so is the other's
same_has : (shard : Shard) (new old : HotRecord) → (new.wide ≡ old.wide) × (new.key ≡ old.key) → HasKeyOf shard old → HasKeyOf shard new
same_has shard new old same has = record {
  tree = same.0 ∙ has.tree;
  range = subst (λ (wide : Bool). new.key < 2 ^ key_bits wide) (sym same.0) (subst (λ (key : ℕ). key < 2 ^ key_bits old.wide) (sym same.1) has.range);
}

-- ---- who serves a request

-- What is at a seat can serve a request: it owns the key, which isn't hot elsewhere, and mirrors; and the value fits.
pub record SeatServes (longest : ℕ) (digest : Digest) (hot_keys : List (List Bool)) (content : Content) (request : Request) : Type 0 where
  pub own : Owns longest content request.key
  pub mirrors : ContentMirrors longest digest hot_keys content
  pub cold_there : IsCold hot_keys content request.key
  pub fits : IsBlob longest request.value

module _ (longest : ℕ) (digest : Digest) (seats : List Content) (mirrors : SeatsMirror longest digest seats) where
  -- a hot record at the path of a key of the shard's tree has that key
  same_key : (key : ℕ) (found : HotRecord) → key < 2 ^ key_bits (wide_in mirrors.shard) → HasKeyOf mirrors.shard found
      → key_path_in mirrors.shard key ≡ hot_path found → key ≡ found.key
  same_key key found small has same =
      key_path-injective (wide_in mirrors.shard) key found.key small (subst (λ (wide : Bool). found.key < 2 ^ key_bits wide) has.tree has.range)
      (same ∙ ap (λ (wide : Bool). key_path wide found.key) has.tree)

  -- the shard
  shard_serves : (request : Request) → request.key < 2 ^ key_bits (wide_in mirrors.shard) → is_place_of longest seats 0 request ≡ true
      → SeatServes longest digest (hot_paths mirrors.places) (cold mirrors.shard) request
  shard_serves request small owns = record {
    own = (mirrors.mirrored.fits, record { whole = whole; below = below (prefix_cases mirrors.shard.frontier key parts.0) });
    mirrors = mirrors.mirrored;
    cold_there = λ among.
        let found = member-one hot_path (hot_records mirrors.places) key (among-member _ key among) in
        let same = same_key request.key found.0 small (one_of-all (HasKeyOf mirrors.shard) (hot_records mirrors.places) found.0 mirrors.in_range found.1) found.2 in
        not_so (list_any (is_hot_at request.key) (cold mirrors.shard ∷ mirrors.places)) parts.1
        (ap (λ (k : ℕ). list_any (is_hot_at k) mirrors.places) same ∙ key_found mirrors.places found.0 found.1);
    fits = blob_fits longest request.value place.1;
  }
    where
      key : List Bool
      key = key_path_in mirrors.shard request.key

      whole : IsData key
      whole = key_path-data (wide_in mirrors.shard) request.key

      place : (serves_key (cold mirrors.shard ∷ mirrors.places) request.key (cold mirrors.shard) ≡ true) × (is_blob longest request.value ≡ true)
      place =
          and_parts (serves_key (cold mirrors.shard ∷ mirrors.places) request.key (cold mirrors.shard)) (is_blob longest request.value)
          (subst (λ (xs : List Content). is_place_of longest xs 0 request ≡ true) mirrors.is owns)

      parts : (is_prefix mirrors.shard.frontier key ≡ true) × (not (list_any (is_hot_at request.key) (cold mirrors.shard ∷ mirrors.places)) ≡ true)
      parts = and_parts (is_prefix mirrors.shard.frontier key) (not (list_any (is_hot_at request.key) (cold mirrors.shard ∷ mirrors.places))) place.0

      below : (mirrors.shard.frontier ≡ key) ⊎ ((on : Bool) × (side mirrors.shard.frontier key ≡ Some on)) → IsBelow mirrors.shard.frontier key
      below (inl same) = absurd (data-no_node key whole (subst IsNodePath same mirrors.mirrored.fits.no_data))
      below (inr under) = ap (λ (o : Option Bool). is_some o) under.1

  -- a hot place
  hot_serves : (k : ℕ) (content : Content) (request : Request) → get_or mirrors.places k vacant ≡ content
      → (serves_key (cold mirrors.shard ∷ mirrors.places) request.key content && is_blob longest request.value) ≡ true
      → SeatServes longest digest (hot_paths mirrors.places) content request
  hot_serves k (cold other) request is owns = absurd (subst IsHotPlace is (place_there mirrors.places k mirrors.hot_alone))
  hot_serves k vacant request is owns = absurd (false≢true owns)
  hot_serves k (hot found) request is owns =
      let parts = and_parts (found.key == request.key) (is_blob longest request.value) owns in
      record {
        own = eqb-true found.key request.key parts.0;
        mirrors = one_of-all (λ r. IsBlob longest r.value) (hot_records mirrors.places) found mirrors.blobs (hot_there mirrors.places k found is);
        cold_there = tt;
        fits = blob_fits longest request.value parts.1;
      }

  -- What a request's place has can serve it.
  pub seat_serves : (seat : ℕ) (request : Request) → request.key < 2 ^ key_bits (wide_among seats) → is_place_of longest seats seat request ≡ true
      → SeatServes longest digest (hot_paths mirrors.places) (get_or seats seat vacant) request
  seat_serves zero request small owns =
      subst (λ (xs : List Content). SeatServes longest digest (hot_paths mirrors.places) (get_or xs 0 vacant) request) (sym mirrors.is)
      (shard_serves request (subst (λ (wide : Bool). request.key < 2 ^ key_bits wide) (tree_is seats mirrors) small) owns)
  seat_serves (suc k) request small owns =
      subst (λ (xs : List Content). SeatServes longest digest (hot_paths mirrors.places) (get_or xs (suc k) vacant) request) (sym mirrors.is)
      (hot_serves k (get_or mirrors.places k vacant) request refl
      (subst (λ (xs : List Content). is_place_of longest xs (suc k) request ≡ true) mirrors.is owns))

  -- ---- what it leaves

  -- the same shard or hot record, as another
  abbrev pub IsSame : Content → Content → Type 0
  IsSame (cold old) (cold new) = new.frontier ≡ old.frontier
  IsSame (cold old) (hot new) = ⊥
  IsSame (cold old) vacant = ⊥
  IsSame (hot old) (cold new) = ⊥
  IsSame (hot old) (hot new) = (new.wide ≡ old.wide) × (new.key ≡ old.key)
  IsSame (hot old) vacant = ⊥
  IsSame vacant (cold new) = ⊥
  IsSame vacant (hot new) = ⊥
  IsSame vacant vacant = Unit {0}

  shard_after : (new : Content) → IsSame (cold mirrors.shard) new → ContentMirrors longest digest (hot_paths mirrors.places) new
      → SeatsMirror longest digest (set seats 0 new)
  shard_after (cold new) same mirrored = record {
    shard = new;
    places = mirrors.places;
    is = ap (λ (xs : List Content). set xs 0 (cold new)) mirrors.is;
    four = mirrors.four;
    hot_alone = mirrors.hot_alone;
    mirrored = mirrored;
    blobs = mirrors.blobs;
    in_range = all-map (HasKeyOf mirrors.shard) (HasKeyOf new) (λ found has. record { tree = has.tree ∙ ap tree_of (sym same); range = has.range })
        (hot_records mirrors.places) mirrors.in_range;
  }
  shard_after (hot new) same mirrored = absurd same
  shard_after vacant same mirrored = absurd same

  hot_after : (k : ℕ) (old new : Content) → get_or mirrors.places k vacant ≡ old → IsSame old new → ContentMirrors longest digest (hot_paths mirrors.places) new
      → SeatsMirror longest digest (set seats (suc k) new)
  hot_after k (cold old) new is same mirrored = absurd (subst IsHotPlace is (place_there mirrors.places k mirrors.hot_alone))
  hot_after k (hot old) (cold new) is same mirrored = absurd same
  hot_after k (hot old) vacant is same mirrored = absurd same
  hot_after k vacant (cold new) is same mirrored = absurd same
  hot_after k vacant (hot new) is same mirrored = absurd same
  hot_after k vacant vacant is same mirrored =
      subst (SeatsMirror longest digest) (sym (ap (λ (xs : List Content). set xs (suc k) vacant) mirrors.is ∙ (ap (λ (xs : List Content). cold mirrors.shard ∷ xs) (unchanged mirrors.places k is) ∙ sym mirrors.is)))
      mirrors
    where
      unchanged : (places : List Content) (i : ℕ) → get_or places i vacant ≡ vacant → set places i vacant ≡ places
      unchanged [] i there = refl
      unchanged (content ∷ places) zero there = ap (λ (c : Content). c ∷ places) (sym there)
      unchanged (content ∷ places) (suc i) there = ap (λ (xs : List Content). content ∷ xs) (unchanged places i there)
  hot_after k (hot old) (hot new) is same mirrored = record {
    shard = mirrors.shard;
    places = set mirrors.places k (hot new);
    is = ap (λ (xs : List Content). set xs (suc k) (hot new)) mirrors.is;
    four = length-set mirrors.places k (hot new) ∙ mirrors.four;
    hot_alone = all-set IsHotPlace mirrors.places k (hot new) tt mirrors.hot_alone;
    mirrored = subst (IsMirrored longest digest mirrors.shard) (sym (keys-set hot_path mirrors.places k old new is (same_path_of new old same))) mirrors.mirrored;
    blobs = records-set (λ r. IsBlob longest r.value) mirrors.places k new mirrored mirrors.blobs;
    in_range = records-set (HasKeyOf mirrors.shard) mirrors.places k new
        (same_has mirrors.shard new old same (one_of-all (HasKeyOf mirrors.shard) (hot_records mirrors.places) old mirrors.in_range (hot_there mirrors.places k old is)))
        mirrors.in_range;
  }

  -- The seats mirror with another content at a seat, which is the same shard or hot record and mirrors.
  pub seats_after : (seat : ℕ) (new : Content) → IsSame (get_or seats seat vacant) new → ContentMirrors longest digest (hot_paths mirrors.places) new
      → SeatsMirror longest digest (set seats seat new)
  seats_after zero new same mirrored =
      shard_after new (subst (λ (xs : List Content). IsSame (get_or xs 0 vacant) new) mirrors.is same) mirrored
  seats_after (suc k) new same mirrored =
      hot_after k (get_or mirrors.places k vacant) new refl (subst (λ (xs : List Content). IsSame (get_or xs (suc k) vacant) new) mirrors.is same) mirrored

  -- and their shard is of the same tree
  pub tree_after : (seat : ℕ) (new : Content) → IsSame (get_or seats seat vacant) new → wide_among (set seats seat new) ≡ wide_among seats
  tree_after seat new same =
      ap (λ (xs : List Content). wide_among (set xs seat new)) mirrors.is
      ∙ (go seat (subst (λ (xs : List Content). IsSame (get_or xs seat vacant) new) mirrors.is same) ∙ ap wide_among (sym mirrors.is))
    where
      shard : (content : Content) → IsSame (cold mirrors.shard) content → wide_at content ≡ wide_in mirrors.shard
      shard (cold other) is = ap tree_of is
      shard (hot found) is = absurd is
      shard vacant is = absurd is

      go : (k : ℕ) → IsSame (get_or (cold mirrors.shard ∷ mirrors.places) k vacant) new
          → wide_among (set (cold mirrors.shard ∷ mirrors.places) k new) ≡ wide_in mirrors.shard
      go zero is = shard new is
      go (suc k) is = refl

  -- what a request makes of a content is the same shard or hot record
  pub content-same : (absent : Bool) (worker : ℕ) (content : Content) (links : List Link) (request : Request) (clock : Reading)
      → IsSame content (content_after absent digest worker content links request clock)
  content-same absent worker (cold shard) links request clock = refl
  content-same absent worker (hot found) links request clock = (refl, refl)
  content-same absent worker vacant links request clock = tt

-- and waits with the stamp of the clock behind it
pub content-waits : (absent : Bool) (digest : Digest) (worker : ℕ) (content : Content) (links : List Link) (request : Request) (clock : Reading)
    → AllByRecursion (λ element. (element.verifier ≡ worker) × (element.stamp.epoch ≡ clock.at.epoch))
    (waiting (pending (content_after absent digest worker content links request clock)))
content-waits absent digest worker (cold shard) links request clock = ((refl, refl), tt)
content-waits absent digest worker (hot found) links request clock = ((refl, refl), tt)
content-waits absent digest worker vacant links request clock = tt

-- the same clock but for its counter
pub record SameEpoch (old new : Reading) : Type 0 where
  pub first : new.first ≡ old.first
  pub epoch : new.at.epoch ≡ old.at.epoch

clock-same : (content : Content) (clock : Reading) → SameEpoch clock (clock_after content clock)
clock-same (cold shard) clock = record { first = refl; epoch = refl }
clock-same (hot found) clock = record { first = refl; epoch = refl }
clock-same vacant clock = record { first = refl; epoch = refl }

-- What is served leaves the seats so, and waits in the clock's epoch.
pub record ServeKeeps (longest : ℕ) (digest : Digest) (worker : ℕ) (clock : Reading) (seats : List Content) (seat : ℕ) (done : Done Content) : Type 0 where
  pub mirrors : SeatsMirror longest digest (set seats seat done.after)
  pub tree : wide_among (set seats seat done.after) ≡ wide_among seats
  pub waits : AllByRecursion (λ element. (element.verifier ≡ worker) × (element.stamp.epoch ≡ clock.at.epoch)) (waiting (pending done.after))
  pub same_epoch : SameEpoch clock done.clock

pub serve_keeps : (absent : Bool) (longest : ℕ) (digest : Digest) (worker : ℕ) (clock : Reading) (seats : List Content) (seat : ℕ) (request : Request) (done : Done Content)
    → GivesDigests digest → SeatsMirror longest digest seats → request.key < 2 ^ key_bits (wide_among seats) → is_place_of longest seats seat request ≡ true
    → serve_at absent digest worker clock (get_or seats seat vacant) request ≡ Some done
    → ServeKeeps longest digest worker clock seats seat done
serve_keeps absent longest digest worker clock seats seat request done digests mirrors small owns served =
    go (served_is_planned absent longest digest worker clock (get_or seats seat vacant) request done serves.own served)
  where
    serves : SeatServes longest digest (hot_paths mirrors.places) (get_or seats seat vacant) request
    serves = seat_serves longest digest seats mirrors seat request small owns

    same : IsPlanned absent digest worker clock (get_or seats seat vacant) request done → IsSame longest digest seats mirrors (get_or seats seat vacant) done.after
    same planned =
        subst (λ (c : Content). IsSame longest digest seats mirrors (get_or seats seat vacant) c) (sym planned.is.content)
        (content-same longest digest seats mirrors absent worker (get_or seats seat vacant) planned.is.links request clock)

    go : IsPlanned absent digest worker clock (get_or seats seat vacant) request done → ServeKeeps longest digest worker clock seats seat done
    go planned = record {
      mirrors = seats_after longest digest seats mirrors seat done.after (same planned)
          (plan_mirrors absent longest digest worker (hot_paths mirrors.places) (get_or seats seat vacant) done.after request clock done.clock planned.plan
          digests serves.fits serves.mirrors serves.own serves.cold_there planned.is);
      tree = tree_after longest digest seats mirrors seat done.after (same planned);
      waits = subst (λ (c : Content). AllByRecursion (λ element. (element.verifier ≡ worker) × (element.stamp.epoch ≡ clock.at.epoch)) (waiting (pending c))) (sym planned.is.content)
          (content-waits absent digest worker (get_or seats seat vacant) planned.is.links request clock);
      same_epoch = subst (SameEpoch clock) (sym planned.is.clock) (clock-same (get_or seats seat vacant) clock);
    }

-- ---- a move

-- the seats as a stage
abbrev pub stage_at : Shard → List Content → Reading → Stage
stage_at shard places clock = record { shard = shard; places = places; clock = clock }

pub stage_mirrors : (longest : ℕ) (digest : Digest) (seats : List Content) (clock : Reading) → (mirrors : SeatsMirror longest digest seats)
    → StageMirrors longest digest (stage_at mirrors.shard mirrors.places clock)
stage_mirrors longest digest seats clock mirrors = record { shard = mirrors.mirrored; blobs = mirrors.blobs; in_range = mirrors.in_range }

renewing_each-first : (clock : Reading) (records : List HotRecord) → (renewing_each clock records).first ≡ clock.first
renewing_each-first clock [] = refl
renewing_each-first clock (found ∷ more) = renewing_each-first (renewing clock found.stamp) more

-- What is moved leaves the seats so, and waits in the clock's epoch.
pub record MoveKeeps (longest : ℕ) (wide : Bool) (digest : Digest) (worker : ℕ) (clock : Reading) (done : Done (List Content)) : Type 0 where
  pub mirrors : SeatsMirror longest digest done.after
  pub tree : wide_among done.after ≡ wide
  pub waits : AllByRecursion (λ element. (element.verifier ≡ worker) × (element.stamp.epoch ≡ clock.at.epoch)) (waiting_at done.after)
  pub same_epoch : SameEpoch clock done.clock

moved_keeps : (longest : ℕ) (digest : Digest) (worker : ℕ) (threshold : Option ℕ) (stage : Stage) (done : Done (List Content))
    → GivesDigests digest → IfSome threshold (λ least. 0 < least) → StageMirrors longest digest stage → length stage.places ≡ 4 → AllByRecursion IsHotPlace stage.places
    → IsMoved digest worker threshold stage done → MoveKeeps longest (wide_in stage.shard) digest worker stage.clock done
moved_keeps longest digest worker threshold stage done digests some mirrors four alone is = record {
  mirrors = subst (SeatsMirror longest digest) (sym is.after) (record {
    shard = is.new.shard;
    places = is.new.places;
    is = refl;
    four = subst (λ (s : Stage). length s.places ≡ 4) (sym is.is.after) (length-moved digest worker stage is.is.descents ∙ four);
    hot_alone = still_alone;
    mirrored = again.shard;
    blobs = again.blobs;
    in_range = again.in_range;
  });
  tree = ap wide_among is.after ∙ (ap (λ (s : Stage). wide_in s.shard) is.is.after ∙ ap tree_of (each-frontier longest digest worker (begun worker stage) is.is.descents));
  waits = subst (λ (xs : List Content). AllByRecursion (λ element. (element.verifier ≡ worker) × (element.stamp.epoch ≡ stage.clock.at.epoch)) (waiting_at xs)) (sym is.after) (
    subst (λ (s : Stage). (s.shard.evictor ≡ worker) × (s.shard.stamp.epoch ≡ stage.clock.at.epoch)) (sym is.is.after) (refl, epoch),
    subst (AllByRecursion (λ element. (element.verifier ≡ worker) × (element.stamp.epoch ≡ stage.clock.at.epoch))) (sym (waits-hot is.new.places still_alone))
        (images-all pending_hot (λ element. (element.verifier ≡ worker) × (element.stamp.epoch ≡ stage.clock.at.epoch)) (hot_records is.new.places)
        (subst (λ (s : Stage). AllByRecursion (IsFresh worker stage.clock.at.epoch) (hot_records s.places)) (sym is.is.after)
        (move_fresh longest digest worker threshold stage is.is.promotable is.is.descents some mirrors is.is.are_promotable is.is.transfers))),
  );
  same_epoch = subst (SameEpoch stage.clock) (sym (is.clock ∙ ap (λ (s : Stage). s.clock) is.is.after)) (record {
    first = each-first longest digest worker (begun worker stage) is.is.descents ∙ renewing_each-first stage.clock (touched_in stage.places);
    epoch = epoch;
  });
}
  where
    again : StageMirrors longest digest is.new
    again = move_mirrors longest digest worker threshold stage is.new done.commands digests some mirrors is.is

    epoch : (moved digest worker stage is.is.descents).clock.at.epoch ≡ stage.clock.at.epoch
    epoch = each-epoch longest digest worker (begun worker stage) is.is.descents ∙ renewing_each-epoch stage.clock (touched_in stage.places)

    still_alone : AllByRecursion IsHotPlace is.new.places
    still_alone = subst (λ (s : Stage). AllByRecursion IsHotPlace s.places) (sym is.is.after) (hot-moved digest worker stage is.is.descents alone)

-- what is done is a move of the stage
pub seats_moved : (longest : ℕ) (digest : Digest) (worker : ℕ) (threshold : Option ℕ) (clock : Reading) (seats : List Content) (done : Done (List Content))
    → GivesDigests digest → IfSome threshold (λ least. 0 < least) → (mirrors : SeatsMirror longest digest seats)
    → move_seats digest worker threshold (stage_of clock seats) ≡ Some done
    → IsMoved digest worker threshold (stage_at mirrors.shard mirrors.places clock) done
seats_moved longest digest worker threshold clock seats done digests some mirrors is =
    done_is_move longest digest worker threshold (stage_at mirrors.shard mirrors.places clock) digests some (stage_mirrors longest digest seats clock mirrors) done
    (subst (λ (xs : List Content). move_seats digest worker threshold (stage_of clock xs) ≡ Some done) mirrors.is is)

pub move_keeps : (longest : ℕ) (digest : Digest) (worker : ℕ) (threshold : Option ℕ) (clock : Reading) (seats : List Content) (done : Done (List Content))
    → GivesDigests digest → IfSome threshold (λ least. 0 < least) → SeatsMirror longest digest seats
    → move_seats digest worker threshold (stage_of clock seats) ≡ Some done
    → MoveKeeps longest (wide_among seats) digest worker clock done
move_keeps longest digest worker threshold clock seats done digests some mirrors is =
    subst (λ (wide : Bool). MoveKeeps longest wide digest worker clock done) (sym (tree_is seats mirrors))
    (moved_keeps longest digest worker threshold (stage_at mirrors.shard mirrors.places clock) done digests some (stage_mirrors longest digest seats clock mirrors) mirrors.four mirrors.hot_alone
    (seats_moved longest digest worker threshold clock seats done digests some mirrors is))
