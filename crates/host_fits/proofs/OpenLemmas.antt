-- The setup fits, and is clear.
use Rattle.std.proofs.Common.{◌≡◌, ℕ, zero, suc, ◌+◌, ◌*◌, ◌^◌, ◌<◌, ◌≤◌, Bool, true, false, List, [], ◌∷◌, ◌++◌, length, map, replicate, get_or, Some, None, if◌then◌else◌, refl, sym, ◌∙◌, ap, subst, arith}
use Rattle.std.specs.Prelude.{◌==◌}
use Rattle.std.specs.Option.{option_or}
use Rattle.std.specs.List.{AllByRecursion, flat_map}
use Rattle.std.proofs.lemmas.List.{length-append}
use Rattle.std.proofs.lemmas.List.Concat.{flat_map-append}
use Rattle.std.proofs.lemmas.Bool.Decides.{nat_tests}
use Rattle.std.proofs.Math.Nat.{pow-suc}
use Rattle.tree_keys.specs.Path.{same_path, depth, key_of, root_of, IsIn}
use Rattle.tree_keys.proofs.TreeLaws.{in-child, length-in}
use Rattle.lamport_clocks.specs.declared.stamp.Stamp.{Stamp}
use Rattle.lamport_clocks.specs.Clock.{opening_reading}
use Rattle.record_text.specs.declared.element.Element.{Element}
use Rattle.record_text.specs.Longest.{longest_of}
use Rattle.record_text.specs.Tree.{wide_of}
use Rattle.verifier_cache.specs.declared.entry.Entry.{Entry}
use Rattle.verifier_commands.specs.declared.state.State.{State}
use Rattle.verifier_commands.specs.State.{opening, root_entry}
use Rattle.verifier_commands.specs.Change.{Change, did_add_m, did_evict_m, did_add_b, did_evict_b, did_evict_bm, did_get, did_put, did_next_epoch}
use Rattle.soundness.specs.History.{Event}
use Rattle.soundness.specs.StateHistory.{rules_under, events_from}
use Rattle.soundness.specs.Clash.{LastEvicted, none_evicted, last_evicted_after, clash_at, first_clash}
use Rattle.soundness.specs.World.{changes_in}
use Rattle.host_shard.specs.Shard.{new_shard}
use Rattle.host_shard.specs.Content.{Content, vacant, pending}
use Rattle.host_plan.specs.Setup.{child, paths_below, first_stamp, first_content, first_contents}
use Rattle.host_core.specs.Host.{scheme, machinery, resting}
use Rattle.host_core.specs.Deeds.{IsStamped, IsDeed, pending_of}
use Rattle.host_core.specs.Clear.{touching}
use Rattle.host_laws.specs.Running.{Told, Access, IsHistory}
use Rattle.host_laws.specs.Carried.{carrying, carried}
use Rattle.host_laws.specs.Served.{waiting}
use Rattle.host_laws.specs.SettingUp.{IsNew, SetupRuns, set_up_state}
use Rattle.host_laws.proofs.NumberLaws.{number_of-none, key_of-child, count_first, count_between}
use Rattle.host_laws.proofs.RunLaws.{run-history}
use Rattle.host_laws.proofs.SetUpLaws.{setup_runs}
use Rattle.host_laws.proofs.FirstLaws.{new_mirrors}
use Rattle.host_laws.proofs.DepthLaws.{node_in}
use Rattle.shipped_host.specs.ShippedHost.{hot_places, new_seats}
use Rattle.host_fits.proofs.Keeping.{Setting, IsSetting, bits_in, ranged, PlacesMirror, kept_of, home_of}
use Rattle.host_fits.proofs.EventLemmas.{ask_of, touching-events, touching-none}
use Rattle.host_fits.proofs.DeedLemmas.{is_deed}
use Rattle.host_fits.proofs.PlaceLemmas.{waiting_behind, home_longer}

-- ---- the numbers of frontiers

-- these paths are of one tree and have so many bits, and those behind the first spell numbers one behind another from this one on
abbrev AreNumbered : Bool → ℕ → ℕ → List (List Bool) → Type 0
AreNumbered wide bits number [] = Unit {0}
AreNumbered wide bits number (path ∷ paths) =
    IsIn wide path × (key_of path ≡ number) × (length path ≡ bits) × AreNumbered wide bits (suc number) paths

numbered-append : (wide : Bool) (bits number : ℕ) (xs ys : List (List Bool)) → AreNumbered wide bits number xs → AreNumbered wide bits (number + length xs) ys
    → AreNumbered wide bits number (xs ++ ys)
numbered-append wide bits number [] ys first second = subst (λ (n : ℕ). AreNumbered wide bits n ys) (omega arith) second
numbered-append wide bits number (x ∷ xs) ys first second =
    (first.0, first.1, first.2, numbered-append wide bits (suc number) xs ys first.3 (subst (λ (n : ℕ). AreNumbered wide bits n ys) (omega arith) second))

count_below : (levels : ℕ) (path : List Bool) → length (paths_below levels path) ≡ 2 ^ levels
count_below zero path = refl
count_below (suc levels) path =
    omega (arith, length-append (paths_below levels (child path false)) (paths_below levels (child path true)), count_below levels (child path false), count_below levels (child path true), pow-suc 2 levels)

numbered_below : (wide : Bool) (levels bits : ℕ) (path : List Bool) → IsIn wide path → length path + levels ≡ bits
    → AreNumbered wide bits (key_of path * 2 ^ levels) (paths_below levels path)
numbered_below wide zero bits path within short = (within, omega arith, omega (arith, short), tt)
numbered_below wide (suc levels) bits path within short =
    let one = key_of-child wide path false within in
    let two = key_of-child wide path true within in
    let middle = count_between (key_of path) (key_of (child path false)) (key_of (child path true)) (2 ^ levels) one two in
    let start = count_first (key_of path) (key_of (child path false)) (2 ^ levels) levels one refl in
    numbered-append wide bits (key_of path * 2 ^ suc levels) (paths_below levels (child path false)) (paths_below levels (child path true))
    (subst (λ (n : ℕ). AreNumbered wide bits n (paths_below levels (child path false))) start
    (numbered_below wide levels bits (child path false) (in-child wide path false within) (omega (arith, length-append path (false ∷ []), short))))
    (subst (λ (n : ℕ). AreNumbered wide bits n (paths_below levels (child path true))) (omega (arith, middle, start, count_below levels (child path false)))
    (numbered_below wide levels bits (child path true) (in-child wide path true within) (omega (arith, length-append path (true ∷ []), short))))

-- what is longer lies deeper
longer-deeper : (path : List Bool) (bits : ℕ) → suc bits < length path → bits < depth path
longer-deeper [] bits longer = absurd (omega (arith, longer))
longer-deeper (wide ∷ path) bits longer = omega (arith, longer)

-- ---- new places

module _ (setting : Setting) (is_setting : IsSetting setting) where
  abbrev longest : ℕ
  longest = longest_of setting.settings.header

  abbrev first : ℕ
  first = setting.settings.header.first

  -- the root of its tree
  abbrev root : List Bool
  root = root_of (wide_of setting.settings.header)

  abbrev after_of : List (List Bool) → List (List Content)
  after_of frontiers = map new_seats (first_contents first frontiers)

  new_places : (frontiers : List (List Bool)) (number : ℕ) → AreNumbered (wide_of setting.settings.header) (suc (bits_in setting)) number frontiers → (s : ℕ) → s < length (after_of frontiers)
      → PlacesMirror setting (number + s) (get_or (after_of frontiers) s [])
  new_places [] number numbered s within = absurd (omega arith)
  new_places (frontier ∷ frontiers) number numbered zero within = record {
    mirrors = record {
      shard = new_shard frontier (first_stamp first frontier) 0;
      places = replicate hot_places vacant;
      is = refl;
      four = refl;
      hot_alone = (tt, (tt, (tt, (tt, tt))));
      mirrored = new_mirrors longest setting.functions.digest frontier (first_stamp first frontier) 0 (omega (arith, deep, is_setting.shards.some))
          (node_in (wide_of setting.settings.header) frontier numbered.0 (omega (arith, deep, is_setting.shards.short)));
      blobs = tt;
      in_range = tt;
    };
    tree = numbered.0;
    levels = numbered.2;
    number = omega (arith, numbered.1);
    from_first = omega arith;
  }
    where
      deep : depth frontier ≡ bits_in setting
      deep = omega (arith, length-in (wide_of setting.settings.header) frontier numbered.0, numbered.2)
  new_places (frontier ∷ frontiers) number numbered (suc s) within =
      subst (λ (n : ℕ). PlacesMirror setting n (get_or (after_of frontiers) s [])) (omega arith)
      (new_places frontiers (suc number) numbered.3 s (omega (arith, within)))

  pub setup_mirrored : (s : ℕ) → s < length (ranged setting).setup.after → PlacesMirror setting s (get_or (ranged setting).setup.after s [])
  setup_mirrored s within =
      subst (λ (n : ℕ). PlacesMirror setting n (get_or (ranged setting).setup.after s [])) (ap (λ (n : ℕ). n * 2 ^ bits_in setting + s) number_of-none ∙ omega arith)
      (new_places (paths_below (bits_in setting) root) (key_of root * 2 ^ bits_in setting) (numbered_below (wide_of setting.settings.header) (bits_in setting) (suc (bits_in setting)) root refl (omega arith)) s within)

  -- what waits there
  waits_first : (frontiers : List (List Bool)) → pending_of (ranged setting) (flat_map (λ contents. contents) (after_of frontiers))
      ≡ flat_map (λ content. waiting (pending content)) (first_contents first frontiers)
  waits_first [] = refl
  waits_first (frontier ∷ frontiers) =
      flat_map-append (λ (content : Content). waiting (pending content)) (first_content first frontier ∷ replicate hot_places vacant) (flat_map (λ contents. contents) (after_of frontiers))
      ∙ (ap (λ (xs : List Element). (waiting (pending (first_content first frontier)) ++ xs) ++ pending_of (ranged setting) (flat_map (λ contents. contents) (after_of frontiers)))
      (waiting_behind hot_places)
      ∙ ap (λ (xs : List Element). waiting (pending (first_content first frontier)) ++ xs) (waits_first frontiers))

  stamped_first : (frontiers : List (List Bool)) → AllByRecursion (IsStamped (ranged setting) first) (flat_map (λ content. waiting (pending content)) (first_contents first frontiers))
  stamped_first [] = tt
  stamped_first (frontier ∷ frontiers) = ((is_setting.some, refl), stamped_first frontiers)

  abbrev ran : SetupRuns (scheme (ranged setting)) setting.settings.header (bits_in setting)
  ran = setup_runs (scheme (ranged setting)) setting.settings.header (bits_in setting) is_setting.shards

  pub setup_deed : IsDeed (ranged setting) 0 (opening 0 setting.settings.header) (ranged setting).setup.commands (ranged setting).setup.clock
      [] (flat_map (λ contents. contents) (ranged setting).setup.after) []
  setup_deed =
      is_deed (ranged setting) 0 (opening 0 setting.settings.header) (ranged setting).setup.commands ran.told (ranged setting).setup.clock [] (flat_map (λ contents. contents) (ranged setting).setup.after) []
      ran.runs ran.typed
      (record { first = refl; end = refl; reading = record { within = is_setting.shards.counters; from_first = omega arith } })
      refl
      (subst (AllByRecursion (IsStamped (ranged setting) first)) (sym (waits_first (paths_below (bits_in setting) root))) (stamped_first (paths_below (bits_in setting) root)))
      ran.added (ran.evicted ∙ sym (waits_first (paths_below (bits_in setting) root)))
      (ap (λ (xs : List Access). map (ask_of first) xs) ran.accesses)

  -- the verifiers that set nothing up are at rest
  pub others_rest : (i : ℕ) → 1 ≤ i → opening i setting.settings.header ≡ resting (ranged setting) i (opening_reading setting.settings.header.first setting.settings.header.end)
  others_rest i some = both_none (i == 0) (root_entry (wide_of setting.settings.header)) _ (grind (arith, nat_tests))
    where
      both_none : (b : Bool) (x y : Entry) → b ≡ false
          → ◌≡◌ {A = State} (record { cache = record { entries = if b then x ∷ [] else []; room = setting.settings.header.cache }; clock = opening_reading setting.settings.header.first setting.settings.header.end })
          (record { cache = record { entries = if b then y ∷ [] else []; room = setting.settings.header.cache }; clock = opening_reading setting.settings.header.first setting.settings.header.end })
      both_none true x y is = absurd (cc)
      both_none false x y is = refl

  -- ---- nothing clashes

  -- paths that come in as new ones don't clash
  new_clear : (path : List Bool) (told : Told) (last : LastEvicted) → AllByRecursion (λ (one : Stamp × Change). IsNew one.1) told → first_clash last (carried path told) ≡ None
  new_clear path [] last new = refl
  new_clear path (one ∷ told) last new = behind one.1 new.0 (λ other. new_clear path told other new.1)
    where
      behind : (change : Change) → IsNew change → ((other : LastEvicted) → first_clash other (carried path told) ≡ None)
          → first_clash last (carrying path change ++ carried path told) ≡ None
      behind (did_add_m parent after child) is rest = go (same_path child.path path)
        where
          go : (b : Bool) → first_clash last ((if b then did_add_m parent after child ∷ [] else []) ++ carried path told) ≡ None
          go true = ap (λ (k : Bool). option_or (clash_at last k child) (first_clash last (carried path told))) is ∙ rest last
          go false = rest last
      behind (did_evict_m parent after child) is rest = go (same_path child.path path)
        where
          go : (b : Bool) → first_clash last ((if b then did_evict_m parent after child ∷ [] else []) ++ carried path told) ≡ None
          go true = rest (last_evicted_after last (did_evict_m parent after child))
          go false = rest last
      behind (did_add_b child element) is rest = rest last
      behind (did_evict_b child element) is rest = rest last
      behind (did_evict_bm parent after child element) is rest = rest last
      behind (did_get entry) is rest = rest last
      behind (did_put before after) is rest = rest last
      behind (did_next_epoch sealed) is rest = rest last

  history : IsHistory (rules_under (scheme (ranged setting)) setting.settings.header 0) (opening 0 setting.settings.header) (ranged setting).setup.commands ran.told
  history = run-history (rules_under (scheme (ranged setting)) setting.settings.header 0) (opening 0 setting.settings.header) (set_up_state (scheme (ranged setting)) setting.settings.header (bits_in setting)) (ranged setting).setup.commands ran.told ran.runs

  abbrev events : List Event
  events = events_from (machinery (ranged setting) 0) 0 0 (opening 0 setting.settings.header) (ranged setting).setup.commands

  pub setup_clear : (path : List Bool) → first_clash none_evicted (changes_in (touching path events)) ≡ None
  setup_clear path =
      ap (λ (es : List Event). first_clash none_evicted (changes_in (touching path es))) (history.events 0 0)
      ∙ (ap (λ (changes : List Change). first_clash none_evicted changes) (touching-events path 0 0 ran.told)
      ∙ new_clear path ran.told none_evicted ran.new)

  none_kept : (frontiers : List (List Bool)) (s : ℕ) (path : List Bool) → kept_of (get_or (after_of frontiers) s []) path ≡ None
  none_kept [] zero path = refl
  none_kept [] (suc s) path = refl
  none_kept (frontier ∷ frontiers) zero path = refl
  none_kept (frontier ∷ frontiers) (suc s) path = none_kept frontiers s path

  pub setup_apart : (path : List Bool) (s : ℕ) → home_of (wide_of setting.settings.header) (suc (bits_in setting)) path ≡ Some s → (touching path events ≡ []) × (kept_of (get_or (ranged setting).setup.after s []) path ≡ None)
  setup_apart path s home = (
    ap (λ (es : List Event). touching path es) (history.events 0 0) ∙ touching-none path 0 0 ran.told (ran.apart path (longer-deeper path (bits_in setting) longer)),
    none_kept (paths_below (bits_in setting) root) s path,
  )
    where
      longer : suc (bits_in setting) < length path
      longer = home_longer (wide_of setting.settings.header) path (suc (bits_in setting)) s home
