-- The shipped host at its setup: in each shard one element waits, at the first place, and each key has one place.
use Rattle.std.proofs.Common.{◌≡◌, ℕ, zero, suc, ◌<◌, Bool, true, false, List, [], ◌∷◌, ◌++◌, length, take, get_or, replicate, nat_lt, Some, None, refl, sym, ◌∙◌, ap, subst, arith}
use Rattle.std.specs.Prelude.{◌&&◌}
use Rattle.std.specs.List.{AllByRecursion}
use Rattle.std.proofs.lemmas.Bool.{false≢true}
use Rattle.std.proofs.lemmas.Option.{none-some}
use Rattle.std.proofs.lemmas.List.{length-map, get_or-map}
use Rattle.tree_keys.specs.Path.{tree_of, key_of, root_of, is_prefix, key_path, IsIn}
use Rattle.tree_keys.proofs.PathLaws.{is_prefix-true}
use Rattle.lamport_clocks.specs.Reading.{Reading}
use Rattle.record_hash.specs.Functions.{DigestFunctions}
use Rattle.record_text.specs.declared.request.Request.{Request}
use Rattle.record_text.specs.Longest.{longest_of}
use Rattle.record_text.specs.Tree.{wide_of}
use Rattle.script_text.specs.declared.task.Task.{Task}
use Rattle.host_shard.specs.Shard.{new_shard, pending_shard}
use Rattle.host_shard.specs.Content.{Content, cold, hot, vacant}
use Rattle.host_plan.specs.Setup.{child, first_stamp, paths_below, first_content, first_contents}
use Rattle.host_plan.specs.Moments.{renewing}
use Rattle.host_core.specs.Host.{Done, Host}
use Rattle.host_core.specs.World.{Place, unmoved, set_up}
use Rattle.host_core.specs.Deeds.{pending_of}
use Rattle.round_order.specs.Steady.{HasOne, scanned_done, IsSteady}
use Rattle.round_order.specs.Told.{others_in}
use Rattle.shipped_host.specs.declared.settings.Settings.{Settings}
use Rattle.shipped_host.specs.Settings.{frontier_bits}
use Rattle.shipped_host.specs.ShippedHost.{hot_places, new_seats, is_blob, serves_key, shipped_host}
use Rattle.host_fits.specs.Promise.{CanRun}
use Rattle.host_fits.specs.Mirroring.{PlacesMirror}
use Rattle.host_fits.proofs.StandingLaws.{standing}
use Rattle.round_fits.proofs.ScanLaws.{some_of, cold_move}
use Rattle.one_worker.proofs.ShapeLemmas.{IsKnown}
use Rattle.one_worker.proofs.TurnLemmas.{contents_at}
use Rattle.one_worker.proofs.ToldLemmas.{IsSetUp, same_contents}

both : (a b : Bool) → (a && b) ≡ true → (a ≡ true) × (b ≡ true)
both true b is = (refl, is)
both false b is = absurd (false≢true is)

vacant_at : (count k : ℕ) → get_or (replicate count vacant) k vacant ≡ vacant
vacant_at zero k = refl
vacant_at (suc count) zero = refl
vacant_at (suc count) (suc k) = vacant_at count k

-- there is a path below each
some_below : (levels : ℕ) (path : List Bool) → (first : List Bool) × (rest : List (List Bool)) × (paths_below levels path ≡ first ∷ rest)
some_below zero path = (path, [], refl)
some_below (suc levels) path =
    let front = some_below levels (child path false) in
    (front.0, front.1 ++ paths_below levels (child path true), ap (λ (xs : List (List Bool)). xs ++ paths_below levels (child path true)) front.2)

module _ (functions : DigestFunctions) (settings : Settings) (script : List (List Task)) (can : CanRun functions settings script)
    (cold_only : settings.hot ≡ None) (one : settings.header.verifiers ≡ 1) where
  abbrev pub host : Host Content Request
  host = shipped_host functions settings script

  abbrev first : ℕ
  first = settings.header.first

  abbrev frontiers : List (List Bool)
  frontiers = paths_below (frontier_bits settings.shards) (root_of (wide_of settings.header))

  abbrev frontier_at : ℕ → List Bool
  frontier_at s = get_or frontiers s []

  abbrev seats_at : ℕ → List Content
  seats_at s = new_seats (first_content first (frontier_at s))

  count_is : length host.setup.after ≡ length frontiers
  count_is = length-map (first_contents first frontiers) new_seats ∙ length-map frontiers (first_content first)

  -- the seats of a shard at the setup
  seats_are : (s : ℕ) → s < length host.setup.after → get_or host.setup.after s [] ≡ seats_at s
  seats_are s there =
      get_or-map new_seats (first_contents first frontiers) s vacant [] (omega (arith, there, length-map (first_contents first frontiers) new_seats))
      ∙ ap new_seats (get_or-map (first_content first) frontiers s [] vacant (omega (arith, there, count_is)))

  -- ---- places

  mirrored : (s : ℕ) → s < length host.setup.after → PlacesMirror functions settings s (seats_at s)
  mirrored s there =
      let within : s < length (set_up host).shards = omega (arith, there, length-map host.setup.after unmoved) in
      subst (PlacesMirror functions settings s)
      (sym (contents_at (set_up host) s within) ∙ ap (λ (cs : List (List Content)). get_or cs s []) (same_contents host.setup.after) ∙ seats_are s there)
      ((standing functions settings script [] can tt).mirrored s within)

  -- a request's place is the first of a shard below whose frontier its key is
  owner_at : (s seat : ℕ) (request : Request) → s < length host.setup.after → host.owns s (get_or host.setup.after s []) seat request ≡ true
      → (seat ≡ 0) × (is_prefix (frontier_at s) (key_path (tree_of (frontier_at s)) request.key) ≡ true)
  owner_at s seat request there owns = go seat (ap (λ (cs : List Content). host.owns s cs seat request) (sym (seats_are s there)) ∙ owns)
    where
      go : (k : ℕ) → host.owns s (seats_at s) k request ≡ true → (k ≡ 0) × (is_prefix (frontier_at s) (key_path (tree_of (frontier_at s)) request.key) ≡ true)
      go zero is = (refl, (both _ _ (both _ _ is).0).0)
      go (suc k) is = absurd (false≢true
          (ap (λ (c : Content). serves_key (seats_at s) request.key c && is_blob (longest_of settings.header) request.value) (sym (vacant_at hot_places k)) ∙ is))

  tree_at : (s : ℕ) → s < length host.setup.after → tree_of (frontier_at s) ≡ wide_of settings.header
  tree_at s there = go (frontier_at s) (mirrored s there).tree
    where
      go : (path : List Bool) → IsIn (wide_of settings.header) path → tree_of path ≡ wide_of settings.header
      go [] is = absurd is
      go (bit ∷ path) is = is

  same_place : (s t : ℕ) (request : Request) → s < length host.setup.after → t < length host.setup.after
      → is_prefix (frontier_at s) (key_path (tree_of (frontier_at s)) request.key) ≡ true → is_prefix (frontier_at t) (key_path (tree_of (frontier_at t)) request.key) ≡ true → s ≡ t
  same_place s t request there_s there_t one' other =
      sym (mirrored s there_s).number ∙ ap key_of same ∙ (mirrored t there_t).number
    where
      path : List Bool
      path = key_path (wide_of settings.header) request.key

      front_s : take (length (frontier_at s)) path ≡ frontier_at s
      front_s = is_prefix-true (frontier_at s) path (ap (λ (w : Bool). is_prefix (frontier_at s) (key_path w request.key)) (sym (tree_at s there_s)) ∙ one')

      front_t : take (length (frontier_at t)) path ≡ frontier_at t
      front_t = is_prefix-true (frontier_at t) path (ap (λ (w : Bool). is_prefix (frontier_at t) (key_path w request.key)) (sym (tree_at t there_t)) ∙ other)

      same : frontier_at s ≡ frontier_at t
      same = sym front_s ∙ ap (λ (n : ℕ). take n path) ((mirrored s there_s).levels ∙ sym (mirrored t there_t).levels) ∙ front_t

  home : (p q : Place) (request : Request) → p.shard < length host.setup.after → q.shard < length host.setup.after
      → host.owns p.shard (get_or host.setup.after p.shard []) p.seat request ≡ true → host.owns q.shard (get_or host.setup.after q.shard []) q.seat request ≡ true → p ≡ q
  home p q request there_p there_q owns_p owns_q =
      let at_p = owner_at p.shard p.seat request there_p owns_p in
      let at_q = owner_at q.shard q.seat request there_q owns_q in
      let shards = same_place p.shard q.shard request there_p there_q at_p.1 at_q.1 in
      let seats : p.seat ≡ q.seat = at_p.0 ∙ sym at_q.0 in
      λ k. record { shard = shards k; seat = seats k }

  -- ---- scans

  one_scanned : (i s : ℕ) (clock : Reading) (before : Content) (others : List Content) (done : Done (List Content)) → HasOne host before → pending_of host others ≡ []
      → host.move i clock s (before ∷ others) ≡ Some done → (scan : Done Content) × (done ≡ scanned_done others scan)
  one_scanned i s clock (cold shard) others done waits alone is =
      (_, sym (some_of (nat_lt clock.end (renewing clock shard.stamp).at.counter) _ done (sym (cold_move functions settings script cold_only i clock shard others alone s) ∙ is)))
  one_scanned i s clock (hot found) others done waits alone is = absurd (none-some done is)
  one_scanned i s clock vacant others done waits alone is = absurd (none-some done is)

  -- ---- the setup

  known : IsSteady host true → IsKnown host host.setup.after
  known steady = record {
    steady = steady;
    alone = λ s there. ap (λ (cs : List Content). pending_of host (others_in cs)) (seats_are s there);
    one_scanned = one_scanned;
    home = home;
  }

  pub is_set_up : IsSteady host true → IsSetUp host
  is_set_up steady = record {
    known = known steady;
    one = one;
    some = omega (arith, count_is, ap (λ (xs : List (List Bool)). length xs) below.2);
    first = refl;
    shaped = λ s there. record {
      content = first_content first (frontier_at s);
      are = seats_are s there ∙ ap (λ (cs : List Content). first_content first (frontier_at s) ∷ others_in cs) (sym (seats_are s there));
      one = (pending_shard (new_shard (frontier_at s) (first_stamp first (frontier_at s)) 0), refl);
    };
    waits = λ s there. subst (λ (cs : List Content). AllByRecursion (λ element. element.stamp.epoch ≡ first) (pending_of host cs)) (sym (seats_are s there)) (refl, tt);
  }
    where
      below : (path : List Bool) × (rest : List (List Bool)) × (frontiers ≡ path ∷ rest)
      below = some_below (frontier_bits settings.shards) (root_of (wide_of settings.header))
