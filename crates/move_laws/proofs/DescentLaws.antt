-- Transfers that are done one after another: what holds of each holds of all of them.
use Rattle.std.proofs.Common.{◌≡◌, ◌≢◌, ℕ, ◌+◌, ◌<◌, ◌≤◌, Bool, List, [], ◌∷◌, ◌++◌, map, Option, Some, Ok, refl, sym, ◌∙◌, ap, subst, arith, if◌then◌else◌}
use Rattle.std.specs.Prelude.{◌==◌}
use Rattle.std.specs.List.{AllByRecursion, flat_map}
use Rattle.std.proofs.Math.Nat.{le-max_left}
use Rattle.std.proofs.lemmas.List.Concat.{flat_map-append}
use Rattle.tree_keys.specs.Path.{key_bits, tree_of, IsIn, IsBelow}
use Rattle.lamport_clocks.specs.declared.stamp.Stamp.{Stamp}
use Rattle.lamport_clocks.specs.Reading.{Reading}
use Rattle.record_text.specs.declared.element.Element.{Element}
use Rattle.record_text.specs.declared.value.Value.{Value}
use Rattle.merkle_records.specs.Merkle.{Digest, GivesDigests}
use Rattle.verifier_cache.specs.declared.entry.Entry.{Entry}
use Rattle.verifier_commands.specs.Change.{Change, did_add_m, did_evict_m, did_add_b, did_evict_b, did_evict_bm, did_get, did_put, did_next_epoch}
use Rattle.verifier_commands.specs.Transition.{Rules}
use Rattle.soundness.specs.Certified.{sealed_by}
use Rattle.soundness.specs.Permutation.{count_of}
use Rattle.soundness.specs.Typed.{IsPathTypedIn}
use Rattle.host_shard.specs.declared.link.Link.{Link}
use Rattle.host_shard.specs.declared.content.HotRecord.{HotRecord}
use Rattle.host_shard.specs.Content.{vacant}
use Rattle.host_shard.specs.Shard.{key_path_in, wide_in}
use Rattle.host_laws.specs.Served.{IsBare}
use Rattle.host_laws.specs.Running.{Told, Access, run, added_told, evicted_told, accesses_told}
use Rattle.host_laws.specs.Carried.{carried}
use Rattle.host_laws.proofs.RunLaws.{run-none, run-append}
use Rattle.host_laws.proofs.ToldLaws.{added_told-append, evicted_told-append, accesses_told-append, carried-append, all-append}
use Rattle.protection_moves.specs.Stage.{Stage, hot_records, hot_paths}
use Rattle.protection_moves.specs.Transfer.{Transfer, demotes, promotes, clock_by}
use Rattle.protection_moves.specs.Descent.{Descent, AreDescents, promoted_record, done_by, done_by_each, commands_by, commands_by_each}
use Rattle.move_laws.specs.Kept.{AreCarried}
use Rattle.move_laws.specs.Stages.{StageMirrors, IsTakable}
use Rattle.move_laws.specs.Transfers.{IsFit, TransferRuns, IsBetween, adds_by, evicts_by, holding}
use Rattle.move_laws.proofs.CountLaws.{weight, count-append}
use Rattle.move_laws.proofs.PlaceLaws.{AreApart, all-map, replaced-weight}
use Rattle.move_laws.proofs.KeyLaws.{paths_in}
use Rattle.move_laws.proofs.VacantLaws.{AreDifferent, pairs-different, all-images, placed-weight}
use Rattle.move_laws.proofs.TransferLaws.{transfer_runs, transfer_mirrors, transfer_typed}

-- ---- records that are carried by one list of changes and then by another

-- what is said of what was kept before
carried-weaker : (path : List Bool) (one other after : Option Value) (changes : List Change) → ((value : Value) → other ≡ Some value → one ≡ Some value)
    → AreCarried path other after changes → AreCarried path one after changes
carried-weaker path one other after [] wider are = λ value is. wider value (are value is)
carried-weaker path one other after (did_add_m parent middle child ∷ changes) wider are =
    (are.0, ((λ known. wider child.value (are.1.0 known)), carried-weaker path one other after changes wider are.1.1))
carried-weaker path one other after (did_evict_m middle later gone ∷ changes) wider are = are
carried-weaker path one other after (did_add_b child element ∷ changes) wider are = absurd are
carried-weaker path one other after (did_evict_b child element ∷ changes) wider are = absurd are
carried-weaker path one other after (did_evict_bm parent later child element ∷ changes) wider are = absurd are
carried-weaker path one other after (did_get entry ∷ changes) wider are = absurd are
carried-weaker path one other after (did_put old new ∷ changes) wider are = absurd are
carried-weaker path one other after (did_next_epoch sealed ∷ changes) wider are = absurd are

pub are_carried-append : (path : List Bool) (before between after : Option Value) (first second : List Change) → AreCarried path before between first
    → AreCarried path between after second → AreCarried path before after (first ++ second)
are_carried-append path before between after [] second are rest = carried-weaker path before between after second are rest
are_carried-append path before between after (did_add_m parent middle child ∷ first) second are rest =
    (are.0, (are.1.0, are_carried-append path before between after first second are.1.1 rest))
are_carried-append path before between after (did_evict_m middle later gone ∷ first) second are rest =
    (are.0, are_carried-append path (Some gone.value) between after first second are.1 rest)
are_carried-append path before between after (did_add_b child element ∷ first) second are rest = absurd are
are_carried-append path before between after (did_evict_b child element ∷ first) second are rest = absurd are
are_carried-append path before between after (did_evict_bm parent later child element ∷ first) second are rest = absurd are
are_carried-append path before between after (did_get entry ∷ first) second are rest = absurd are
are_carried-append path before between after (did_put old new ∷ first) second are rest = absurd are
are_carried-append path before between after (did_next_epoch sealed ∷ first) second are rest = absurd are

-- ---- the clock

-- one transfer doesn't turn it back, and leaves its epoch and its bounds
by-up : (clock : Reading) (transfer : Transfer) → clock.at.counter ≤ (clock_by clock transfer).at.counter
by-up clock (demotes found) = omega (arith, le-max_left clock.at.counter (if found.stamp.epoch == clock.at.epoch then found.stamp.counter else 0))
by-up clock (promotes key) = omega arith

by-epoch : (clock : Reading) (transfer : Transfer) → (clock_by clock transfer).at.epoch ≡ clock.at.epoch
by-epoch clock (demotes found) = refl
by-epoch clock (promotes key) = refl

by-first : (clock : Reading) (transfer : Transfer) → (clock_by clock transfer).first ≡ clock.first
by-first clock (demotes found) = refl
by-first clock (promotes key) = refl

by-end : (clock : Reading) (transfer : Transfer) → (clock_by clock transfer).end ≡ clock.end
by-end clock (demotes found) = refl
by-end clock (promotes key) = refl

takable-on : (rules : Rules) (clock : Reading) (transfer : Transfer) (element : Element) → IsTakable rules clock element → IsTakable rules (clock_by clock transfer) element
takable-on rules clock (demotes found) element is = is
takable-on rules clock (promotes key) element is = is

clock-done : (digest : Digest) (worker : ℕ) (stage : Stage) (transfer : Transfer) (links : List Link)
    → (done_by digest worker stage transfer links).clock ≡ clock_by stage.clock transfer
clock-done digest worker stage (demotes found) links = refl
clock-done digest worker stage (promotes key) links = refl

frontier-done : (longest : ℕ) (digest : Digest) (worker : ℕ) (stage : Stage) (transfer : Transfer) (links : List Link)
    → (done_by digest worker stage transfer links).shard.frontier ≡ stage.shard.frontier
frontier-done longest digest worker stage (demotes found) links = refl
frontier-done longest digest worker stage (promotes key) links = refl

module _ (longest : ℕ) (digest : Digest) (worker : ℕ) where
  abbrev next : Stage → Descent → Stage
  next stage descent = done_by digest worker stage descent.transfer descent.links

  pub each-up : (stage : Stage) (descents : List Descent) → stage.clock.at.counter ≤ (done_by_each digest worker stage descents).clock.at.counter
  each-up stage [] = omega arith
  each-up stage (descent ∷ descents) =
      omega (
        arith,
        by-up stage.clock descent.transfer,
        ap (λ (clock : Reading). clock.at.counter) (clock-done digest worker stage descent.transfer descent.links),
        each-up (next stage descent) descents,
      )

  pub each-epoch : (stage : Stage) (descents : List Descent) → (done_by_each digest worker stage descents).clock.at.epoch ≡ stage.clock.at.epoch
  each-epoch stage [] = refl
  each-epoch stage (descent ∷ descents) =
      each-epoch (next stage descent) descents
      ∙ (ap (λ (clock : Reading). clock.at.epoch) (clock-done digest worker stage descent.transfer descent.links) ∙ by-epoch stage.clock descent.transfer)

  pub each-first : (stage : Stage) (descents : List Descent) → (done_by_each digest worker stage descents).clock.first ≡ stage.clock.first
  each-first stage [] = refl
  each-first stage (descent ∷ descents) =
      each-first (next stage descent) descents
      ∙ (ap (λ (clock : Reading). clock.first) (clock-done digest worker stage descent.transfer descent.links) ∙ by-first stage.clock descent.transfer)

  pub each-end : (stage : Stage) (descents : List Descent) → (done_by_each digest worker stage descents).clock.end ≡ stage.clock.end
  each-end stage [] = refl
  each-end stage (descent ∷ descents) =
      each-end (next stage descent) descents
      ∙ (ap (λ (clock : Reading). clock.end) (clock-done digest worker stage descent.transfer descent.links) ∙ by-end stage.clock descent.transfer)

  pub each-frontier : (stage : Stage) (descents : List Descent) → (done_by_each digest worker stage descents).shard.frontier ≡ stage.shard.frontier
  each-frontier stage [] = refl
  each-frontier stage (descent ∷ descents) = each-frontier (next stage descent) descents ∙ frontier-done longest digest worker stage descent.transfer descent.links

  -- ---- descents that can be done

  -- each transfer can be done when its turn comes
  abbrev pub AreFit : Stage → List Descent → Type 0
  AreFit stage [] = Unit {0}
  AreFit stage (descent ∷ descents) = IsFit stage descent.transfer × AreFit (next stage descent) descents

  -- the elements that all add, and those that all evict
  abbrev pub adds_by_each : List Descent → List Element
  adds_by_each [] = []
  adds_by_each (descent ∷ descents) = adds_by descent.transfer ++ adds_by_each descents

  abbrev pub evicts_by_each : Stage → List Descent → List Element
  evicts_by_each stage [] = []
  evicts_by_each stage (descent ∷ descents) = evicts_by worker stage descent.transfer descent.links ++ evicts_by_each (next stage descent) descents

  -- the stage mirrors behind them
  pub descents_mirror : (stage : Stage) (descents : List Descent) → GivesDigests digest → StageMirrors longest digest stage → AreFit stage descents
      → AreDescents digest worker stage descents → StageMirrors longest digest (done_by_each digest worker stage descents)
  descents_mirror stage [] digests mirrors fit ways = mirrors
  descents_mirror stage (descent ∷ descents) digests mirrors fit ways =
      descents_mirror (next stage descent) descents digests (transfer_mirrors longest digest worker stage descent.transfer descent.links digests mirrors fit.0 ways.0) fit.1 ways.1

  -- what they log is of the frontier's tree and typed
  pub descents_typed : (wide : Bool) (stage : Stage) (descents : List Descent) → IsIn wide stage.shard.frontier → GivesDigests digest → StageMirrors longest digest stage → AreFit stage descents
      → AreDescents digest worker stage descents → AllByRecursion (IsPathTypedIn wide longest) (commands_by_each digest worker stage descents)
  descents_typed wide stage [] within digests mirrors fit ways = tt
  descents_typed wide stage (descent ∷ descents) within digests mirrors fit ways =
      all-append (IsPathTypedIn wide longest) (commands_by stage descent.transfer descent.links) _
      (transfer_typed wide longest digest stage descent.transfer descent.links within mirrors fit.0 ways.0)
      (descents_typed wide (next stage descent) descents (subst (IsIn wide) (sym (frontier-done longest digest worker stage descent.transfer descent.links)) within) digests (transfer_mirrors longest digest worker stage descent.transfer descent.links digests mirrors fit.0 ways.0) fit.1 ways.1)

  -- no key is hot twice
  pub apart_by_number : (stage : Stage) → StageMirrors longest digest stage → AreApart (hot_records stage.places)
  apart_by_number stage mirrors = go (hot_records stage.places)
      (subst AreDifferent (paths_in stage.shard (hot_records stage.places) mirrors.in_range) (pairs-different (hot_paths stage.places) mirrors.shard.mirrors.hot_keys.once))
    where
      go : (records : List HotRecord) → AreDifferent (map (λ (r : HotRecord). key_path_in stage.shard r.key) records) → AreApart records
      go [] different = tt
      go (found ∷ records) different = (
        all-map (λ r. key_path_in stage.shard found.key ≢ key_path_in stage.shard r.key) (λ r. r.key ≡ found.key → ⊥) (λ r apart same. apart (ap (key_path_in stage.shard) (sym same))) records
            (all-images (λ (r : HotRecord). key_path_in stage.shard r.key) (λ y. key_path_in stage.shard found.key ≢ y) records different.0),
        go records different.1,
      )

  -- what waits in hot places comes in or stays, and goes out or was there
  step-weight : (x : Element) (stage : Stage) (transfer : Transfer) (links : List Link) → StageMirrors longest digest stage → IsFit stage transfer
      → weight x (hot_records (done_by digest worker stage transfer links).places) + count_of x (adds_by transfer)
      ≡ weight x (hot_records stage.places) + count_of x (evicts_by worker stage transfer links)
  step-weight x stage (demotes found) links mirrors fit =
      replaced-weight x vacant stage.places found fit (apart_by_number stage mirrors)
  step-weight x stage (promotes key) links mirrors fit =
      omega (arith, placed-weight x (promoted_record worker stage key links) stage.places fit.room)

  pub descents-weight : (x : Element) (stage : Stage) (descents : List Descent) → GivesDigests digest → StageMirrors longest digest stage → AreFit stage descents
      → AreDescents digest worker stage descents
      → weight x (hot_records (done_by_each digest worker stage descents).places) + count_of x (adds_by_each descents)
      ≡ weight x (hot_records stage.places) + count_of x (evicts_by_each stage descents)
  descents-weight x stage [] digests mirrors fit ways = refl
  descents-weight x stage (descent ∷ descents) digests mirrors fit ways =
      omega (
        arith,
        step-weight x stage descent.transfer descent.links mirrors fit.0,
        count-append x (adds_by descent.transfer) (adds_by_each descents),
        count-append x (evicts_by worker stage descent.transfer descent.links) (evicts_by_each (next stage descent) descents),
        descents-weight x (next stage descent) descents digests (transfer_mirrors longest digest worker stage descent.transfer descent.links digests mirrors fit.0 ways.0) fit.1 ways.1,
      )

-- ---- they run

pub record DescentsRun (rules : Rules) (entries : List Entry) (room : ℕ) (stage : Stage) (descents : List Descent) : Type 0 where
  pub told : Told
  pub runs : run rules (holding entries room stage) (commands_by_each rules.scheme.digest rules.number stage descents)
      ≡ Ok (told, holding entries room (done_by_each rules.scheme.digest rules.number stage descents))
  pub added : added_told told ≡ adds_by_each rules.scheme.format.longest rules.scheme.digest rules.number descents
  pub evicted : evicted_told told ≡ evicts_by_each rules.scheme.format.longest rules.scheme.digest rules.number stage descents
  pub no_access : accesses_told told ≡ []
  pub unsealed : flat_map (λ (one : Stamp × Change). sealed_by one.1) told ≡ []
  pub within : AllByRecursion (λ (one : Stamp × Change). IsBetween stage.clock (done_by_each rules.scheme.digest rules.number stage descents).clock one.0) told
  pub kept : (path : List Bool) → AreCarried path (stage.shard.records path)
      ((done_by_each rules.scheme.digest rules.number stage descents).shard.records path) (carried path told)
  pub own : (path : List Bool) → (IsBelow stage.shard.frontier path → ⊥) → carried path told ≡ []

all-widen : (P Q : Stamp → Type 0) → ((at : Stamp) → P at → Q at) → (told : Told) → AllByRecursion (λ (one : Stamp × Change). P one.0) told
    → AllByRecursion (λ (one : Stamp × Change). Q one.0) told
all-widen P Q step [] all = tt
all-widen P Q step (one ∷ told) all = (step one.0 all.0, all-widen P Q step told all.1)

module _ (rules : Rules) (entries : List Entry) (room : ℕ) (digests : GivesDigests rules.scheme.digest) (bare : IsBare entries) where
  abbrev longest : ℕ
  longest = rules.scheme.format.longest

  abbrev digest : Digest
  digest = rules.scheme.digest

  abbrev after : Stage → Descent → Stage
  after stage descent = done_by rules.scheme.digest rules.number stage descent.transfer descent.links

  both_run : (stage : Stage) (descent : Descent) (descents : List Descent) → TransferRuns rules entries room stage descent.transfer descent.links
      → DescentsRun rules entries room (after stage descent) descents → DescentsRun rules entries room stage (descent ∷ descents)
  both_run stage descent descents first rest = record {
    told = first.told ++ rest.told;
    runs = run-append rules (holding entries room stage) (commands_by stage descent.transfer descent.links) _ first.told rest.told _ _ first.runs rest.runs;
    added = added_told-append first.told rest.told ∙ (ap (λ (xs : List Element). xs ++ added_told rest.told) first.added ∙ ap (λ (xs : List Element). adds_by descent.transfer ++ xs) rest.added);
    evicted = evicted_told-append first.told rest.told
        ∙ (ap (λ (xs : List Element). xs ++ evicted_told rest.told) first.evicted
        ∙ ap (λ (xs : List Element). evicts_by rules.number stage descent.transfer descent.links ++ xs) rest.evicted);
    no_access = accesses_told-append first.told rest.told ∙ (ap (λ (xs : List Access). xs ++ accesses_told rest.told) first.no_access ∙ rest.no_access);
    unsealed = flat_map-append (λ (one : Stamp × Change). sealed_by one.1) first.told rest.told
        ∙ (ap (λ (xs : List ℕ). xs ++ flat_map (λ (one : Stamp × Change). sealed_by one.1) rest.told) first.unsealed ∙ rest.unsealed);
    within = all-append (λ (one : Stamp × Change). IsBetween stage.clock last one.0) first.told rest.told
        (all-widen (IsBetween stage.clock (clock_by stage.clock descent.transfer)) (IsBetween stage.clock last) (λ at is. (is.0, is.1, omega (arith, is.2, counter, later))) first.told first.within)
        (all-widen (IsBetween (after stage descent).clock last) (IsBetween stage.clock last)
        (λ at is. (is.0 ∙ epoch, omega (arith, is.1, counter, by-up stage.clock descent.transfer), is.2)) rest.told rest.within);
    kept = λ path. subst (AreCarried path (stage.shard.records path) ((done_by_each digest rules.number (after stage descent) descents).shard.records path))
        (sym (carried-append path first.told rest.told))
        (are_carried-append path (stage.shard.records path) ((after stage descent).shard.records path) _ (carried path first.told) (carried path rest.told) (first.kept path) (rest.kept path));
    own = λ path is. carried-append path first.told rest.told
        ∙ (ap (λ (xs : List Change). xs ++ carried path rest.told) (first.own path is)
        ∙ rest.own path (λ below. is (subst (λ (frontier : List Bool). IsBelow frontier path) (frontier-done longest digest rules.number stage descent.transfer descent.links) below)));
  }
    where
      last : Reading
      last = (done_by_each rules.scheme.digest rules.number (after stage descent) descents).clock

      counter : (after stage descent).clock.at.counter ≡ (clock_by stage.clock descent.transfer).at.counter
      counter = ap (λ (clock : Reading). clock.at.counter) (clock-done digest rules.number stage descent.transfer descent.links)

      epoch : (after stage descent).clock.at.epoch ≡ stage.clock.at.epoch
      epoch = ap (λ (clock : Reading). clock.at.epoch) (clock-done digest rules.number stage descent.transfer descent.links) ∙ by-epoch stage.clock descent.transfer

      later : (after stage descent).clock.at.counter ≤ last.at.counter
      later = each-up longest digest rules.number (after stage descent) descents

  all-takable : (clock : Reading) (transfer : Transfer) (elements : List Element) → AllByRecursion (IsTakable rules clock) elements
      → AllByRecursion (IsTakable rules (clock_by clock transfer)) elements
  all-takable clock transfer [] all = tt
  all-takable clock transfer (element ∷ elements) all = (takable-on rules clock transfer element all.0, all-takable clock transfer elements all.1)

  first-part : (P : Element → Type 0) (xs ys : List Element) → AllByRecursion P (xs ++ ys) → AllByRecursion P xs × AllByRecursion P ys
  first-part P [] ys all = (tt, all)
  first-part P (x ∷ xs) ys all = let rest = first-part P xs ys all.1 in ((all.0, rest.0), rest.1)

  -- Descents run one after another, where each can be done and the counters that they take don't pass the end.
  pub descents_run : (stage : Stage) (descents : List Descent) → key_bits (wide_in stage.shard) < room → StageMirrors rules.scheme.format.longest rules.scheme.digest stage
      → AreFit rules.scheme.format.longest rules.scheme.digest rules.number stage descents → AreDescents rules.scheme.digest rules.number stage descents
      → AllByRecursion (IsTakable rules stage.clock) (adds_by_each rules.scheme.format.longest rules.scheme.digest rules.number descents)
      → (done_by_each rules.scheme.digest rules.number stage descents).clock.at.counter ≤ stage.clock.end
      → DescentsRun rules entries room stage descents
  descents_run stage [] roomy mirrors fit ways takable within = record {
    told = [];
    runs = run-none rules (holding entries room stage);
    added = refl;
    evicted = refl;
    no_access = refl;
    unsealed = refl;
    within = tt;
    kept = λ path. (λ value is. is);
    own = λ path is. refl;
  }
  descents_run stage (descent ∷ descents) roomy mirrors fit ways takable within =
      both_run stage descent descents
      (transfer_runs rules entries room stage descent.transfer descent.links bare roomy mirrors fit.0
      (record { takable = parts.0; counters = omega (arith, within, each-up longest digest rules.number (after stage descent) descents, ap (λ (clock : Reading). clock.at.counter) same) }) ways.0)
      (descents_run (after stage descent) descents still_roomy (transfer_mirrors longest digest rules.number stage descent.transfer descent.links digests mirrors fit.0 ways.0) fit.1 ways.1
      (subst (λ (clock : Reading). AllByRecursion (IsTakable rules clock) (adds_by_each longest digest rules.number descents)) (sym same)
      (all-takable stage.clock descent.transfer (adds_by_each longest digest rules.number descents) parts.1))
      (omega (arith, within, ap (λ (clock : Reading). clock.end) same, by-end stage.clock descent.transfer)))
    where
      same : (after stage descent).clock ≡ clock_by stage.clock descent.transfer
      same = clock-done rules.scheme.digest rules.number stage descent.transfer descent.links

      still_roomy : key_bits (wide_in (after stage descent).shard) < room
      still_roomy = subst (λ (frontier : List Bool). key_bits (tree_of frontier) < room)
          (sym (frontier-done longest digest rules.number stage descent.transfer descent.links)) roomy

      parts : AllByRecursion (IsTakable rules stage.clock) (adds_by descent.transfer)
          × AllByRecursion (IsTakable rules stage.clock) (adds_by_each rules.scheme.format.longest rules.scheme.digest rules.number descents)
      parts = first-part (IsTakable rules stage.clock) (adds_by descent.transfer) (adds_by_each rules.scheme.format.longest rules.scheme.digest rules.number descents) takable
