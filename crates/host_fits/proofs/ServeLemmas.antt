-- A request that is served fits, wherever its place is.
use Rattle.std.proofs.Common.{◌≡◌, ◌⊎◌, ℕ, zero, suc, ◌^◌, ◌<◌, ◌≤◌, Bool, true, false, List, [], ◌∷◌, length, map, get_or, set, Ok, Option, Some, None, nat_lt, if◌then◌else◌, append-nil, refl, sym, ◌∙◌, ap, subst, inl, inr, arith, IsTrue}
use Rattle.std.specs.Prelude.{◌==◌}
use Rattle.std.specs.List.{AllByRecursion}
use Rattle.std.proofs.lemmas.Bool.{ltb-true}
use Rattle.soundness.specs.Typed.{IsPathTypedIn}
use Rattle.tree_keys.specs.Path.{key_bits, root_of, IsIn, key_of}
use Rattle.tree_keys.proofs.TreeLaws.{key_of-path}
use Rattle.lamport_clocks.specs.declared.stamp.Stamp.{Stamp}
use Rattle.lamport_clocks.specs.Reading.{Reading}
use Rattle.lamport_clocks.specs.Clock.{is_open}
use Rattle.record_text.specs.declared.element.Element.{Element}
use Rattle.record_text.specs.declared.request.Request.{Request}
use Rattle.record_text.specs.declared.value.Value.{Value}
use Rattle.record_text.specs.declared.value.Value.TheVariants as values
use Rattle.record_text.specs.Longest.{longest_of}
use Rattle.record_text.specs.Tree.{wide_of}
use Rattle.log_codec.specs.declared.command.Command.{Command}
use Rattle.merkle_records.specs.Merkle.{Digest}
use Rattle.verifier_cache.specs.declared.entry.Entry.{Entry}
use Rattle.verifier_cache.specs.declared.entry.Hold.TheVariants.{Root}
use Rattle.verifier_cache.specs.Entry.{new_entry}
use Rattle.verifier_commands.specs.Outcome.{blob_of}
use Rattle.verifier_commands.specs.Transition.{Rules, is_root}
use Rattle.soundness.specs.StateHistory.{rules_under}
use Rattle.host_shard.specs.declared.link.Link.{Link}
use Rattle.host_shard.specs.Shard.{Shard}
use Rattle.host_shard.specs.Content.{Content, cold, hot, vacant, wide_at, pending}
use Rattle.host_plan.specs.Request.{value_after}
use Rattle.host_plan.specs.Plan.{IsOpenAt, clock_after, content_after, value_found}
use Rattle.host_core.specs.Host.{Done, scheme, resting}
use Rattle.host_core.specs.Deeds.{IsStamped, IsOpenElement, IsClock, IsReadyAt, IsDeed}
use Rattle.host_core.specs.Clear.{IsNotAfter}
use Rattle.host_laws.specs.Running.{Access, run, accesses_told}
use Rattle.host_laws.specs.Served.{IsBare, CanTake, PlanRuns, access_for, waiting}
use Rattle.host_laws.specs.SettingUp.{set_up_root}
use Rattle.host_laws.proofs.RequestLaws.{plan_runs}
use Rattle.host_laws.proofs.MirrorLaws.{mirrors_serve, plan_typed}
use Rattle.protection_moves.specs.Stage.{hot_paths}
use Rattle.shipped_host.specs.Planned.{IsPlanned}
use Rattle.shipped_host.specs.Seated.{SeatsMirror, wide_among}
use Rattle.shipped_host.specs.ShippedHost.{is_place_of, told, resting_cache}
use Rattle.shipped_host.proofs.PlannedLaws.{served_is_planned}
use Rattle.shipped_host.proofs.SeatLaws.{tree_is, SeatServes, seat_serves, ServeKeeps, serve_keeps}
use Rattle.host_fits.specs.Mirroring.{frontier_in, front_of}
use Rattle.host_fits.proofs.Keeping.{Setting, IsSetting, PlacesMirror, bits_in, served_at, ranged}
use Rattle.host_fits.proofs.EventLemmas.{ask_of}
use Rattle.host_fits.proofs.DeedLemmas.{is_deed}
use Rattle.host_fits.proofs.PlaceLemmas.{all-each, both, done_within, shard_tree, owner_tree}
use Rattle.host_fits.proofs.ClearLemmas.{renewing-rises}

-- ---- requests

-- what was asked is answered so
pub asked_so : (request : Request) (found : Value) (answer : Option (List ℕ)) → values.Blob answer ≡ value_after request found
    → (if request.put then answer else None) ≡ (if request.put then request.value else None)
asked_so request found answer is = go request.put is
  where
    go : (b : Bool) → values.Blob answer ≡ (if b then values.Blob request.value else found) → (if b then answer else None) ≡ (if b then request.value else None)
    go true same = ap blob_of same
    go false same = refl

-- ---- a verifier at rest

bare_if : (b : Bool) (root : Entry) → IsTrue (is_root root.path) → IsBare (if b then root ∷ [] else [])
bare_if true root is = inr (root, is, refl)
bare_if false root is = inl refl

pub bare_at_rest : (setting : Setting) (worker : ℕ) → IsBare (resting_cache setting.functions setting.settings.header (bits_in setting) worker).entries
bare_at_rest setting worker =
    bare_if (worker == 0) (new_entry (root_of (wide_of setting.settings.header)) (values.Node (set_up_root setting.functions.digest (wide_of setting.settings.header) (bits_in setting))) Root) refl

-- what is said of all that waits is said of what does
of_waiting : (P : Element → Type 0) (o : Option Element) (element : Element) → AllByRecursion P (waiting o) → o ≡ Some element → P element
of_waiting P None element all is = absurd (none_is element is)
  where
    none_is : (e : Element) → ◌≡◌ {A = Option Element} None (Some e) → ⊥
    none_is e same = absurd (cc)
of_waiting P (Some first) element all is = subst P (same first element is) all.0
  where
    same : (a b : Element) → Some a ≡ Some b → a ≡ b
    same a b eq = cc

-- ---- what it leaves of the shard's frontier

-- The frontier stays, and waits since the same stamp or since one of this epoch that is not before.
pub record FrontLeft (clock : Reading) (old new : List Content) : Type 0 where
  pub frontier : frontier_in new ≡ frontier_in old
  pub rises : IsNotAfter (front_of old) (front_of new)
  pub since : ((front_of new).epoch ≡ clock.at.epoch) ⊎ (front_of new ≡ front_of old)

front_there : (absent : Bool) (digest : Digest) (worker : ℕ) (clock : Reading) (request : Request) (links : List Link) (shard : Shard) (places : List Content)
    (seat : ℕ) (after : Content) → (seat ≡ 0 → is_open clock shard.stamp.epoch ≡ true)
    → after ≡ content_after absent digest worker (get_or (cold shard ∷ places) seat vacant) links request clock
    → FrontLeft clock (cold shard ∷ places) (set (cold shard ∷ places) seat after)
front_there absent digest worker clock request links shard places zero after open' is =
    subst (λ (c : Content). FrontLeft clock (cold shard ∷ places) (c ∷ places)) (sym is) (record { frontier = refl; rises = renewing-rises clock shard.stamp (open' refl); since = inl refl })
front_there absent digest worker clock request links shard places (suc k) after open' is =
    record { frontier = refl; rises = inr (refl, omega arith); since = inr refl }

-- ---- a request

-- a worker that serves a request at its place
pub record Serves (setting : Setting) (worker : ℕ) (clock : Reading) (s seat : ℕ) (contents : List Content) (request : Request) (found : Done Content) : Type 0 where
  pub settled : IsSetting setting
  pub ready : IsReadyAt (PlacesMirror setting) (ranged setting) worker clock s seat contents
  pub owns : (ranged setting).owns s contents seat request ≡ true
  pub is : (ranged setting).serve worker clock (get_or contents seat vacant) request ≡ Some found

module _ (setting : Setting) (worker : ℕ) (clock : Reading) (s seat : ℕ) (contents : List Content) (request : Request) (found : Done Content)
    (serves : Serves setting worker clock s seat contents request found) where
  abbrev longest : ℕ
  longest = longest_of setting.settings.header

  abbrev digest : Digest
  digest = setting.functions.digest

  abbrev content : Content
  content = get_or contents seat vacant

  abbrev rules : Rules
  rules = rules_under (scheme (ranged setting)) setting.settings.header worker

  abbrev mirrors : SeatsMirror longest digest contents
  mirrors = serves.ready.mirrored.mirrors

  abbrev hot_keys : List (List Bool)
  hot_keys = hot_paths mirrors.places

  abbrev wide : Bool
  wide = wide_of setting.settings.header

  range : (nat_lt request.key (2 ^ key_bits wide) ≡ true) × (is_place_of longest contents seat request ≡ true)
  range = both (nat_lt request.key (2 ^ key_bits wide)) (is_place_of longest contents seat request) serves.owns

  pub small : request.key < 2 ^ key_bits wide
  small = ltb-true request.key (2 ^ key_bits wide) range.0

  small_among : request.key < 2 ^ key_bits (wide_among contents)
  small_among = subst (λ (w : Bool). request.key < 2 ^ key_bits w)
      (sym (tree_is contents mirrors ∙ shard_tree setting s contents serves.ready.mirrored mirrors)) small

  pub there : SeatServes longest digest hot_keys content request
  there = seat_serves longest digest contents mirrors seat request small_among range.1

  -- the content is of the header's tree
  pub tree_there : wide_at content ≡ wide
  tree_there = owner_tree longest digest contents mirrors seat request.key there.own ∙ shard_tree setting s contents serves.ready.mirrored mirrors

  pub planned : IsPlanned setting.settings.absent digest worker clock content request found
  planned = served_is_planned setting.settings.absent longest digest worker clock content request found there.own serves.is

  keeps : ServeKeeps longest digest worker clock contents seat found
  keeps = serve_keeps setting.settings.absent longest digest worker clock contents seat request found serves.settled.digests mirrors small_among range.1 serves.is

  counters : (clock_after content clock).at.counter ≤ clock.end
  counters = (done_within clock.end (clock_after content clock).at.counter (served_at setting worker clock content request) found serves.is).1

  -- the clock can take in what waits there
  pub takes_in : AllByRecursion (IsOpenElement (ranged setting) clock) (waiting (pending content))
  takes_in = serves.ready.open_epochs

  opens : (c : Content) → AllByRecursion (IsOpenElement (ranged setting) clock) (waiting (pending c)) → IsOpenAt clock c
  opens (cold shard) all = all.0.1
  opens (hot record') all = all.0.1
  opens vacant all = tt

  can : CanTake rules (resting (ranged setting) worker clock) content
  can = record {
    rest = record {
      bare = bare_at_rest setting worker;
      room = subst (λ (w : Bool). key_bits w < setting.settings.header.cache) (sym tree_there) serves.settled.room;
      known = λ element is. (of_waiting (IsOpenElement (ranged setting) clock) (pending content) element takes_in is).0;
      open_epoch = opens content takes_in;
    };
    counters = counters;
  }

  pub runs : PlanRuns rules (resting (ranged setting) worker clock) content found.after request planned.plan found.clock
  runs =
      plan_runs setting.settings.absent rules (resting (ranged setting) worker clock) content found.after request planned.plan found.clock can
      (mirrors_serve longest digest hot_keys content request.key there.mirrors there.own there.cold_there) planned.is

  pub logged : run rules (resting (ranged setting) worker clock) found.commands ≡ Ok (runs.told, resting (ranged setting) worker found.clock)
  logged = ap (λ (commands : List Command). run rules (resting (ranged setting) worker clock) commands) planned.logged ∙ runs.runs

  clock_is : (c : Content) → (clock_after c clock).at.counter ≤ clock.end → IsClock (ranged setting) (clock_after c clock)
  clock_is (cold shard) within = record { first = serves.ready.is_clock.first; end = serves.ready.is_clock.end; reading = record { within = within; from_first = serves.ready.is_clock.reading.from_first } }
  clock_is (hot record') within = record { first = serves.ready.is_clock.first; end = serves.ready.is_clock.end; reading = record { within = within; from_first = serves.ready.is_clock.reading.from_first } }
  clock_is vacant within = serves.ready.is_clock

  renewed : AllByRecursion (IsStamped (ranged setting) found.clock.at.epoch) (waiting (pending found.after))
  renewed =
      all-each (λ (element : Element). (element.verifier ≡ worker) × (element.stamp.epoch ≡ clock.at.epoch)) (IsStamped (ranged setting) found.clock.at.epoch)
      (λ element is. (subst (λ (n : ℕ). n < setting.settings.header.verifiers) (sym is.0) serves.ready.known, is.1 ∙ sym keeps.same_epoch.epoch))
      (waiting (pending found.after)) keeps.waits

  -- its access is in the header's tree
  pub accessed : accesses_told runs.told ≡ access_for wide request planned.plan.answer ∷ []
  accessed = runs.access ∙ ap (λ (w : Bool). access_for w request planned.plan.answer ∷ []) tree_there

  asked : map (ask_of clock.at.epoch) (access_for wide request planned.plan.answer ∷ []) ≡ (clock.at.epoch, told request) ∷ []
  asked =
      ap asks (ap (λ (k : ℕ). record { put = request.put; key = k; value = if request.put then planned.plan.answer else None }) (key_of-path wide request.key small)
      ∙ ap (λ (v : Option (List ℕ)). record { put = request.put; key = request.key; value = v }) (asked_so request (value_found setting.settings.absent content planned.is.links request) planned.plan.answer planned.is.answer))
    where
      asks : Request → List (ℕ × Request)
      asks ask = (clock.at.epoch, ask) ∷ []

  pub serve_deed : IsDeed (ranged setting) worker (resting (ranged setting) worker clock) found.commands found.clock (content ∷ []) (found.after ∷ []) ((clock.at.epoch, told request) ∷ [])
  serve_deed =
      is_deed (ranged setting) worker (resting (ranged setting) worker clock) found.commands runs.told found.clock (content ∷ []) (found.after ∷ []) ((clock.at.epoch, told request) ∷ [])
      logged
      (subst (AllByRecursion (IsPathTypedIn wide longest)) (sym planned.logged)
      (subst (λ (w : Bool). AllByRecursion (IsPathTypedIn w longest) planned.plan.commands) tree_there
      (plan_typed setting.settings.absent longest digest worker hot_keys content found.after request clock found.clock planned.plan there.fits there.mirrors there.own there.cold_there planned.is)))
      (subst (IsClock (ranged setting)) (sym planned.is.clock) (clock_is content counters))
      keeps.same_epoch.epoch
      (subst (AllByRecursion (IsStamped (ranged setting) found.clock.at.epoch)) (sym (append-nil (waiting (pending found.after)))) renewed)
      (runs.added ∙ sym (append-nil (waiting (pending content))))
      (runs.evicted ∙ sym (append-nil (waiting (pending found.after))))
      (ap (λ (xs : List Access). map (ask_of clock.at.epoch) xs) accessed ∙ asked)

  -- where it is the shard that serves
  shard_open : seat ≡ 0 → is_open clock mirrors.shard.stamp.epoch ≡ true
  shard_open first =
      (subst (λ (c : Content). AllByRecursion (IsOpenElement (ranged setting) clock) (waiting (pending c)))
      (ap (λ (n : ℕ). get_or contents n vacant) first ∙ ap (λ (cs : List Content). get_or cs 0 vacant) mirrors.is) takes_in).0.1

  pub front : FrontLeft clock contents (set contents seat found.after)
  front =
      subst (λ (cs : List Content). found.after ≡ content_after setting.settings.absent digest worker (get_or cs seat vacant) planned.is.links request clock → FrontLeft clock cs (set cs seat found.after)) (sym mirrors.is)
      (front_there setting.settings.absent digest worker clock request planned.is.links mirrors.shard mirrors.places seat found.after shard_open)
      planned.is.content

  -- the seats mirror again
  pub serve_mirrors : PlacesMirror setting s (set contents seat found.after)
  serve_mirrors = record {
    mirrors = keeps.mirrors;
    tree = subst (IsIn (wide_of setting.settings.header)) (sym front.frontier) serves.ready.mirrored.tree;
    levels = ap (λ (path : List Bool). length path) front.frontier ∙ serves.ready.mirrored.levels;
    number = ap key_of front.frontier ∙ serves.ready.mirrored.number;
    from_first = from front.since;
  }
    where
      from : ((front_of (set contents seat found.after)).epoch ≡ clock.at.epoch) ⊎ (front_of (set contents seat found.after) ≡ front_of contents)
          → setting.settings.header.first ≤ (front_of (set contents seat found.after)).epoch
      from (inl same) = omega (arith, same, serves.ready.is_clock.first, serves.ready.is_clock.reading.from_first)
      from (inr same) = subst (λ (at : Stamp). setting.settings.header.first ≤ at.epoch) (sym same) serves.ready.mirrored.from_first
