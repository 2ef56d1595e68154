-- The one access of a request, as the operation of a deed that is storing.
use Rattle.std.proofs.Common.{◌≡◌, ◌⊎◌, ℕ, suc, ◌^◌, ◌<◌, Bool, true, false, List, [], ◌∷◌, ◌++◌, length, Option, Some, None, Ok, nat_lt, if◌then◌else◌, refl, sym, ◌∙◌, ap, subst, inl, inr, arith}
use Rattle.std.specs.Prelude.{nat_eq}
use Rattle.std.specs.List.{AllByRecursion}
use Rattle.std.specs.Map.{update}
use Rattle.std.proofs.lemmas.Bool.{cases_eq, lt-ltb, ltb-true, ne_eqb}
use Rattle.std.proofs.lemmas.Option.{none-some, same_Some}
use Rattle.stamp_order.proofs.InOrderLaws.{every-filter}
use Rattle.tree_keys.specs.Path.{key_bits, key_path, key_of, IsBelow, IsIn}
use Rattle.tree_keys.proofs.TreeLaws.{key_of-path}
use Rattle.lamport_clocks.specs.declared.stamp.Stamp.{Stamp}
use Rattle.lamport_clocks.specs.Stamp.{IsLater}
use Rattle.record_text.specs.declared.request.Request.{Request}
use Rattle.record_text.specs.Longest.{longest_of}
use Rattle.record_text.specs.Tree.{wide_of}
use Rattle.log_codec.specs.declared.command.Command.{Command}
use Rattle.verifier_commands.specs.declared.state.State.{State}
use Rattle.verifier_commands.specs.Outcome.{blob_of}
use Rattle.verifier_commands.specs.Change.{Change, did_add_m, did_evict_m, did_add_b, did_evict_b, did_evict_bm, did_get, did_put, did_next_epoch}
use Rattle.soundness.specs.History.{Event}
use Rattle.soundness.specs.StateHistory.{rules_under}
use Rattle.soundness.specs.Certified.{operations_by, operations_in}
use Rattle.soundness.specs.World.{Stored, stored_behind}
use Rattle.host_shard.specs.declared.content.HotRecord.{HotRecord}
use Rattle.host_shard.specs.Shard.{Shard, key_path_in}
use Rattle.host_shard.specs.Content.{Content, cold}
use Rattle.host_shard.specs.Mirrors.{IsKeyOf}
use Rattle.host_core.specs.Host.{scheme}
use Rattle.host_core.specs.Clear.{IsNotAfter}
use Rattle.host_core.specs.Storing.{operates, operating, IsStoringDeed}
use Rattle.host_core.proofs.StoringLaws.{own_operations}
use Rattle.host_laws.specs.Running.{Told, Access, run, accesses_by, accesses_told, as_events, IsHistory}
use Rattle.host_laws.specs.Served.{access_for}
use Rattle.host_laws.proofs.RunLaws.{run-history}
use Rattle.host_holds.specs.Holding.{hot_record_of, stamp_or, held_value, held_since, stored_after}
use Rattle.shipped_host.specs.Seated.{SeatsMirror}
use Rattle.host_fits.specs.Holds.{shard_of, storing_of}
use Rattle.host_fits.specs.Mirroring.{frontier_in}
use Rattle.host_fits.proofs.Keeping.{Setting, bits_in, ranged, PlacesMirror, home_of}
use Rattle.host_fits.proofs.PlaceLemmas.{shard_tree, home-below, home_tests}

-- ---- operations that are told

-- what accesses leave of a map
abbrev written : Access → Stored → Stored
written access stored = if access.put then update nat_eq stored (key_of access.path) (blob_of access.value) else stored

abbrev written_all : Stored → List Access → Stored
written_all stored [] = stored
written_all stored (access ∷ accesses) = written_all (written access stored) accesses

stored_told : (number index : ℕ) (told : Told) (stored : Stored)
    → stored_behind stored (operations_in (as_events number index told)) ≡ written_all stored (accesses_told told)
stored_told number index [] stored = refl
stored_told number index (one ∷ told) stored = go one.1 (λ stored. stored_told number (suc index) told stored)
  where
    event : Event
    event = record { verifier = number; index = index; at = one.0; change = one.1 }

    go : (change : Change) → ((s : Stored) → stored_behind s (operations_in (as_events number (suc index) told)) ≡ written_all s (accesses_told told))
        → stored_behind stored (operations_by event change ++ operations_in (as_events number (suc index) told)) ≡ written_all stored (accesses_by change ++ accesses_told told)
    go (did_add_m parent after child) rest = rest stored
    go (did_evict_m parent after child) rest = rest stored
    go (did_add_b child element) rest = rest stored
    go (did_evict_b child element) rest = rest stored
    go (did_evict_bm parent after child element) rest = rest stored
    go (did_get entry) rest = rest stored
    go (did_put before after) rest = rest (update nat_eq stored (key_of after.path) (blob_of after.value))
    go (did_next_epoch sealed) rest = rest stored

-- accesses to other keys are no operations on a key
other_told : (key number index : ℕ) (told : Told) → AllByRecursion (λ access. nat_eq (key_of access.path) key ≡ false) (accesses_told told)
    → operating key (as_events number index told) ≡ []
other_told key number index [] others = refl
other_told key number index (one ∷ told) others = go one.1 refl others (other_told key number (suc index) told)
  where
    event : Event
    event = record { verifier = number; index = index; at = one.0; change = one.1 }

    Others : List Access → Type 0
    Others accesses = AllByRecursion (λ (access : Access). nat_eq (key_of access.path) key ≡ false) accesses

    Rest : Type 0
    Rest = Others (accesses_told told) → operating key (as_events number (suc index) told) ≡ []

    skip : operates key one.1 ≡ false → operating key (as_events number (suc index) told) ≡ []
        → (if operates key one.1 then event ∷ operating key (as_events number (suc index) told) else operating key (as_events number (suc index) told)) ≡ []
    skip apart rest = ap (λ (b : Bool). if b then event ∷ operating key (as_events number (suc index) told) else operating key (as_events number (suc index) told)) apart ∙ rest

    go : (change : Change) → one.1 ≡ change → Others (accesses_by one.1 ++ accesses_told told) → Rest
        → (if operates key one.1 then event ∷ operating key (as_events number (suc index) told) else operating key (as_events number (suc index) told)) ≡ []
    go (did_add_m parent after child) is all rest = skip (ap (operates key) is) (rest (subst (λ (c : Change). Others (accesses_by c ++ accesses_told told)) is all))
    go (did_evict_m parent after child) is all rest = skip (ap (operates key) is) (rest (subst (λ (c : Change). Others (accesses_by c ++ accesses_told told)) is all))
    go (did_add_b child element) is all rest = skip (ap (operates key) is) (rest (subst (λ (c : Change). Others (accesses_by c ++ accesses_told told)) is all))
    go (did_evict_b child element) is all rest = skip (ap (operates key) is) (rest (subst (λ (c : Change). Others (accesses_by c ++ accesses_told told)) is all))
    go (did_evict_bm parent after child element) is all rest = skip (ap (operates key) is) (rest (subst (λ (c : Change). Others (accesses_by c ++ accesses_told told)) is all))
    go (did_get entry) is all rest =
        let both = subst (λ (c : Change). Others (accesses_by c ++ accesses_told told)) is all in
        skip (ap (operates key) is ∙ both.0) (rest both.1)
    go (did_put before after) is all rest =
        let both = subst (λ (c : Change). Others (accesses_by c ++ accesses_told told)) is all in
        skip (ap (operates key) is ∙ both.0) (rest both.1)
    go (did_next_epoch sealed) is all rest = skip (ap (operates key) is) (rest (subst (λ (c : Change). Others (accesses_by c ++ accesses_told told)) is all))

-- what holds of all stamps holds of the events' on a key
stamps_told : (P : Stamp → Type 0) (key number index : ℕ) (told : Told) → AllByRecursion (λ (one : Stamp × Change). P one.0) told
    → AllByRecursion (λ (event : Event). P event.at) (operating key (as_events number index told))
stamps_told P key number index told all =
    every-filter (λ (event : Event). P event.at) (λ event. operates key event.change) (as_events number index told) (go number index told all)
  where
    go : (number index : ℕ) (told : Told) → AllByRecursion (λ (one : Stamp × Change). P one.0) told → AllByRecursion (λ (event : Event). P event.at) (as_events number index told)
    go number index [] all = tt
    go number index (one ∷ told) all = (all.0, go number (suc index) told all.1)

-- ---- keys and their shards

pub home_small : (limit key home s : ℕ) → (if nat_lt key limit then Some home else None) ≡ Some s → (key < limit) × (home ≡ s)
home_small limit key home s is = go (nat_lt key limit) refl is
  where
    go : (b : Bool) → nat_lt key limit ≡ b → (if b then Some home else None) ≡ Some s → (key < limit) × (home ≡ s)
    go true within same = (ltb-true key limit within, same_Some home s same)
    go false past same = absurd (none-some s same)

pub home_is : (setting : Setting) (key : ℕ) → key < 2 ^ key_bits (wide_of setting.settings.header)
    → (storing_of setting.settings).home key ≡ Some (shard_of setting.settings key)
home_is setting key small =
    ap (λ (b : Bool). if b then Some (shard_of setting.settings key) else None) (lt-ltb key (2 ^ key_bits (wide_of setting.settings.header)) small)

-- a key below the frontier of a shard is the shard's
pub own_shard : (setting : Setting) (s : ℕ) (contents : List Content) (key : ℕ) → PlacesMirror setting s contents
    → (mirrors : SeatsMirror (longest_of setting.settings.header) setting.functions.digest contents)
    → IsKeyOf mirrors.shard (key_path_in mirrors.shard key) → shard_of setting.settings key ≡ s
own_shard setting s contents key places mirrors own = (home_tests wide (key_path wide key) (suc (bits_in setting)) s home).2
  where
    wide : Bool
    wide = wide_of setting.settings.header

    below : IsBelow mirrors.shard.frontier (key_path wide key)
    below = subst (λ (w : Bool). IsBelow mirrors.shard.frontier (key_path w key)) (shard_tree setting s contents places mirrors) own.below

    home : home_of wide (suc (bits_in setting)) (key_path wide key) ≡ Some s
    home = home-below wide mirrors.shard.frontier (key_path wide key) (suc (bits_in setting)) s
        (subst (λ (cs : List Content). IsIn wide (frontier_in cs)) mirrors.is places.tree)
        (subst (λ (cs : List Content). length (frontier_in cs) ≡ suc (bits_in setting)) mirrors.is places.levels)
        (subst (λ (cs : List Content). key_of (frontier_in cs) ≡ s) mirrors.is places.number) below

-- ---- a deed that does one access

module _ (setting : Setting) (worker : ℕ) (from last : State) (commands : List Command) (told : Told) (s : ℕ) (old new : List Content)
    (request : Request) (answer : Option (List ℕ)) where
  -- What is known of it: it does the request's access; its key is the shard's, and what is held then is what the request leaves; and
  -- it is done behind the stamp since which the key waits, and up to the one since which it waits then.
  pub record OneAccess : Type 0 where
    pub runs_so : run (rules_under (scheme (ranged setting)) setting.settings.header worker) from commands ≡ Ok (told, last)
    pub access : accesses_told told ≡ access_for (wide_of setting.settings.header) request answer ∷ []
    pub in_range : request.key < 2 ^ key_bits (wide_of setting.settings.header)
    pub asked : (if request.put then answer else None) ≡ (if request.put then request.value else None)
    pub own : shard_of setting.settings request.key ≡ s
    pub held : (key : ℕ) → key < 2 ^ key_bits (wide_of setting.settings.header) → held_value new key ≡ stored_after request (held_value old) key
    pub behind : AllByRecursion (λ (one : Stamp × Change). IsLater one.0 (held_since old request.key)) told
    pub up_to : AllByRecursion (λ (one : Stamp × Change). IsNotAfter one.0 (held_since new request.key)) told
    pub rises : (key : ℕ) → IsNotAfter (held_since old key) (held_since new key)

  module _ (one : OneAccess) where
    history : IsHistory (rules_under (scheme (ranged setting)) setting.settings.header worker) from commands told
    history = run-history (rules_under (scheme (ranged setting)) setting.settings.header worker) from last commands told one.runs_so

    abbrev done_on : ℕ → ℕ → List Event
    done_on index key = operating key (as_events worker index told)

    abbrev wide : Bool
    wide = wide_of setting.settings.header

    key_is : key_of (key_path wide request.key) ≡ request.key
    key_is = key_of-path wide request.key one.in_range

    none_on : (index key : ℕ) → (key ≡ request.key → ⊥) → done_on index key ≡ []
    none_on index key apart =
        other_told key worker index told
        (subst (AllByRecursion (λ (access : Access). nat_eq (key_of access.path) key ≡ false)) (sym one.access)
        (ne_eqb (key_of (key_path wide request.key)) key (λ same. apart (sym same ∙ key_is)), tt))

    -- what the access leaves of a map
    leaves : (stored : Stored) (key : ℕ) → written (access_for wide request answer) stored key ≡ stored_after request stored key
    leaves stored key =
        ap (λ (k : ℕ). (if request.put then update nat_eq stored k answer else stored) key) key_is
        ∙ go request.put one.asked
      where
        go : (b : Bool) → (if b then answer else None) ≡ (if b then request.value else None)
            → (if b then update nat_eq stored request.key answer else stored) key ≡ (if b then update nat_eq stored request.key request.value else stored) key
        go true same = ap (λ (v : Option (List ℕ)). update nat_eq stored request.key v key) same
        go false same = refl

    -- and of another that has the same of the key
    same_left : (one other : Stored) (key : ℕ) → one key ≡ other key → stored_after request one key ≡ stored_after request other key
    same_left one other key same = go request.put
      where
        go : (b : Bool) → (if b then update nat_eq one request.key request.value else one) key ≡ (if b then update nat_eq other request.key request.value else other) key
        go true = ap (λ (o : Option (List ℕ)). if nat_eq request.key key then request.value else o) same
        go false = same

    pub one_access_stores : IsStoringDeed (PlacesMirror setting) (storing_of setting.settings) (ranged setting) worker from commands s old new
    one_access_stores = record {
      apart = λ index key not_home. ap (operating key) (history.events worker index) ∙ elsewhere index key not_home (cases_eq key request.key);
      stores = λ index key stored home same.
          ap (λ (events : List Event). stored_behind stored (operations_in (operating key events)) key) (history.events worker index)
          ∙ (own_operations key (as_events worker index told) stored stored refl
          ∙ (ap (λ (map : Stored). map key) (stored_told worker index told stored)
          ∙ (ap (λ (accesses : List Access). written_all stored accesses key) one.access
          ∙ (leaves stored key
          ∙ (same_left stored (held_value old) key same
          ∙ sym (one.held key (home_small (2 ^ key_bits wide) key (shard_of setting.settings key) s home).0))))));
      behind = λ index key home.
          subst (λ (events : List Event). AllByRecursion (λ (event : Event). IsLater event.at (held_since old key)) (operating key events)) (sym (history.events worker index))
          (behind_on index key (cases_eq key request.key));
      up_to = λ index key home.
          subst (λ (events : List Event). AllByRecursion (λ (event : Event). IsNotAfter event.at (held_since new key)) (operating key events)) (sym (history.events worker index))
          (up_to_on index key (cases_eq key request.key));
      rises = λ key home. one.rises key;
    }
      where
        elsewhere : (index key : ℕ) → ((storing_of setting.settings).home key ≡ Some s → ⊥) → (key ≡ request.key) ⊎ (key ≡ request.key → ⊥) → done_on index key ≡ []
        elsewhere index key not_home (inl same) =
            absurd (not_home (ap (storing_of setting.settings).home same ∙ (home_is setting request.key one.in_range ∙ ap Some one.own)))
        elsewhere index key not_home (inr apart) = none_on index key apart

        behind_on : (index key : ℕ) → (key ≡ request.key) ⊎ (key ≡ request.key → ⊥)
            → AllByRecursion (λ (event : Event). IsLater event.at (held_since old key)) (done_on index key)
        behind_on index key (inl same) =
            stamps_told (λ at. IsLater at (held_since old key)) key worker index told
            (subst (λ (k : ℕ). AllByRecursion (λ (one : Stamp × Change). IsLater one.0 (held_since old k)) told) (sym same) one.behind)
        behind_on index key (inr apart) = subst (AllByRecursion (λ (event : Event). IsLater event.at (held_since old key))) (sym (none_on index key apart)) tt

        up_to_on : (index key : ℕ) → (key ≡ request.key) ⊎ (key ≡ request.key → ⊥)
            → AllByRecursion (λ (event : Event). IsNotAfter event.at (held_since new key)) (done_on index key)
        up_to_on index key (inl same) =
            stamps_told (λ at. IsNotAfter at (held_since new key)) key worker index told
            (subst (λ (k : ℕ). AllByRecursion (λ (one : Stamp × Change). IsNotAfter one.0 (held_since new k)) told) (sym same) one.up_to)
        up_to_on index key (inr apart) = subst (AllByRecursion (λ (event : Event). IsNotAfter event.at (held_since new key))) (sym (none_on index key apart)) tt

-- ---- the stamp since which a key waits

-- the stamp since which a key waits is that of its hot record, and else of the shard
pub since_hot : (key : ℕ) (shard : Shard) (places : List Content) (found : HotRecord) → hot_record_of key places ≡ Some found → held_since (cold shard ∷ places) key ≡ found.stamp
since_hot key shard places found is = ap (λ (o : Option HotRecord). stamp_or o shard.stamp) is

pub since_cold : (key : ℕ) (shard : Shard) (places : List Content) → hot_record_of key places ≡ None → held_since (cold shard ∷ places) key ≡ shard.stamp
since_cold key shard places is = ap (λ (o : Option HotRecord). stamp_or o shard.stamp) is

pub same_since : (s : Stamp) → IsNotAfter s s
same_since s = inr (refl, omega arith)
