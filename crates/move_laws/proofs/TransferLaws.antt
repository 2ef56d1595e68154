-- A transfer runs, and the stage mirrors again behind it.
use Rattle.std.proofs.Common.{◌≡◌, ℕ, ◌+◌, ◌<◌, ◌≤◌, Bool, true, false, List, [], ◌∷◌, length, Option, Some, None, IsSome, if◌then◌else◌, refl, sym, ◌∙◌, ap, subst, arith}
use Rattle.std.specs.List.{AllByRecursion}
use Rattle.std.proofs.lemmas.Option.{same_Some}
use Rattle.std.proofs.Math.Nat.{le-max_left}
use Rattle.std.specs.Prelude.{◌==◌}
use Rattle.tree_keys.specs.Path.{key_bits, side, same_path, IsIn, IsBelow}
use Rattle.tree_keys.proofs.PathLaws.{same_path-apart}
use Rattle.tree_keys.proofs.TreeLaws.{in-below, key_path-data}
use Rattle.verifier_commands.proofs.BelowLaws.{below_apart}
use Rattle.lamport_clocks.specs.declared.stamp.Stamp.{Stamp}
use Rattle.lamport_clocks.specs.Reading.{Reading}
use Rattle.record_text.specs.declared.value.Value.{Value}
use Rattle.record_text.specs.declared.value.Value.TheVariants as values
use Rattle.record_text.specs.Texts.{value_text}
use Rattle.record_text.specs.Value.{IsOf}
use Rattle.log_codec.specs.declared.command.Command.{Command}
use Rattle.merkle_records.specs.Merkle.{Digest, GivesDigests}
use Rattle.verifier_cache.specs.declared.entry.Entry.{Entry}
use Rattle.verifier_cache.specs.declared.entry.Hold.TheVariants.{B}
use Rattle.verifier_commands.specs.Transition.{Rules}
use Rattle.soundness.specs.Typed.{IsPathTypedIn}
use Rattle.host_shard.specs.declared.link.Link.{Link}
use Rattle.host_shard.specs.declared.content.HotRecord.{HotRecord}
use Rattle.host_shard.specs.Tree.{Tree}
use Rattle.host_shard.specs.Chain.{last_value}
use Rattle.host_shard.specs.Shard.{key_path_in, wide_in, Shard, tree_of}
use Rattle.host_shard.specs.Content.{hot_path, pending_hot}
use Rattle.host_shard.specs.Mirrors.{HasKeyOf, IsShard, IsKeyOf}
use Rattle.host_plan.specs.Moments.{taking, giving}
use Rattle.host_laws.specs.Served.{IsBare}
use Rattle.host_laws.proofs.DepthLaws.{depth_in, some_path}
use Rattle.host_laws.proofs.BetweenLaws.{clear-bare, length-bare}
use Rattle.host_laws.proofs.ToldLaws.{all-append}
use Rattle.protection_moves.specs.Stage.{Stage, hot_records}
use Rattle.protection_moves.specs.Transfer.{Transfer, demotes, promotes}
use Rattle.protection_moves.specs.Descent.{with_back, AreLinks, visit_but_last, come_back, become_hot, commands_by, done_by}
use Rattle.move_laws.specs.Stages.{StageMirrors, IsOne}
use Rattle.move_laws.proofs.PlaceLaws.{all-are, all-map, one_of-all}
use Rattle.move_laws.specs.Transfers.{IsPromotable, IsFit, CanDo, TransferRuns}
use Rattle.move_laws.proofs.WayLemmas.{IsStep, IsWay, way_length}
use Rattle.move_laws.proofs.AlongLemmas.{Along, IsOnward, along, back_ends, hot_ends}
use Rattle.move_laws.proofs.AboveLaws.{apart_from}
use Rattle.move_laws.proofs.BackLemmas.{back_shard, back_own, end, blob, back_way, back_sound, back_mirrors}
use Rattle.move_laws.proofs.HotLemmas.{recorded, hot_way, hot_end, hot_sound, last_data, hot_mirrors}

not_below : (frontier path : List Bool) → (IsBelow frontier path → ⊥) → side frontier path ≡ None
not_below frontier path is = go (side frontier path) is
  where
    go : (s : Option Bool) → (IsSome s → ⊥) → s ≡ None
    go None none = refl
    go (Some on) none = absurd (none refl)

-- taking in and handing out goes on
onward-taking : (clock : Reading) (stamp : Stamp) → IsOnward clock (taking clock stamp)
onward-taking clock stamp = (refl, omega (arith, le-max_left clock.at.counter (if stamp.epoch == clock.at.epoch then stamp.counter else 0)))

onward-giving : (clock : Reading) → IsOnward clock (giving clock)
onward-giving clock = (refl, omega arith)

-- The stage mirrors again behind a transfer.
pub transfer_mirrors : (longest : ℕ) (digest : Digest) (worker : ℕ) (stage : Stage) (transfer : Transfer) (links : List Link) → GivesDigests digest
    → StageMirrors longest digest stage → IsFit stage transfer → AreLinks stage.shard transfer links
    → StageMirrors longest digest (done_by digest worker stage transfer links)
transfer_mirrors longest digest worker stage (demotes found) links digests mirrors fit chain = back_mirrors longest digest stage mirrors found fit links chain worker digests
transfer_mirrors longest digest worker stage (promotes key) links digests mirrors fit chain = hot_mirrors longest digest stage mirrors key fit links chain worker digests

-- the shard in which a transfer's links lead
abbrev pub shard_for : Stage → Transfer → Shard
shard_for stage (demotes found) = with_back stage.shard found
shard_for stage (promotes key) = stage.shard

-- and the key to which they do
abbrev pub key_for : Stage → Transfer → List Bool
key_for stage (demotes found) = hot_path found
key_for stage (promotes key) = key_path_in stage.shard key

-- That is a shard, and the key is one of it.
pub transfer_shard : (longest : ℕ) (digest : Digest) (stage : Stage) (transfer : Transfer) → StageMirrors longest digest stage → IsFit stage transfer
    → IsShard longest (shard_for stage transfer)
transfer_shard longest digest stage (demotes found) mirrors fit = back_shard longest digest stage mirrors found fit
transfer_shard longest digest stage (promotes key) mirrors fit = mirrors.shard.fits

pub transfer_own : (longest : ℕ) (digest : Digest) (stage : Stage) (transfer : Transfer) → StageMirrors longest digest stage → IsFit stage transfer
    → IsKeyOf (shard_for stage transfer) (key_for stage transfer)
transfer_own longest digest stage (demotes found) mirrors fit = back_own longest digest stage mirrors found fit
transfer_own longest digest stage (promotes key) mirrors fit = fit.own

-- each hot key is one of the shard
pub hot_own : (longest : ℕ) (digest : Digest) (stage : Stage) → StageMirrors longest digest stage
    → AllByRecursion (λ found. IsKeyOf stage.shard (hot_path found)) (hot_records stage.places)
hot_own longest digest stage mirrors =
    all-map (IsOne (hot_records stage.places)) (λ found. IsKeyOf stage.shard (hot_path found))
    (λ found is. let own = back_own longest digest stage mirrors found is in record { whole = own.whole; below = own.below })
    (hot_records stage.places) (all-are (hot_records stage.places))

-- ---- what is logged is of the frontier's tree and typed

along_typed : (wide : Bool) (longest : ℕ) (tree : Tree) (key : List Bool) (late : Bool) (at_end : List Bool → Link → List Command)
    → ((at : List Bool) (value : Value) (link : Link) → IsIn wide at → IsStep longest tree key late at value link → link.path ≡ key → AllByRecursion (IsPathTypedIn wide longest) (at_end at link))
    → (at : List Bool) (value : Value) (links : List Link) → IsIn wide at → IsWay longest tree key late at value links
    → AllByRecursion (IsPathTypedIn wide longest) (visit_but_last at links at_end)
along_typed wide longest tree key late at_end ends at value [] within way = tt
along_typed wide longest tree key late at_end ends at value (link ∷ []) within way = ends at value link within way.0 way.1
along_typed wide longest tree key late at_end ends at value (link ∷ next ∷ links) within way =
    let below = in-below wide at link.path way.0.on within way.0.below in (
      ((below, within), subst (IsOf longest link.path) (sym way.0.as_it_is) way.0.kind),
      all-append (IsPathTypedIn wide longest) (visit_but_last link.path (next ∷ links) at_end) _
          (along_typed wide longest tree key late at_end ends link.path link.taken (next ∷ links) below way.1) (((below, within), tt), tt),
    )

pub transfer_typed : (wide : Bool) (longest : ℕ) (digest : Digest) (stage : Stage) (transfer : Transfer) (links : List Link)
    → IsIn wide stage.shard.frontier → StageMirrors longest digest stage → IsFit stage transfer → AreLinks stage.shard transfer links
    → AllByRecursion (IsPathTypedIn wide longest) (commands_by stage transfer links)
transfer_typed wide longest digest stage (demotes found) links within mirrors fit chain =
    along_typed wide longest (tree_of (with_back stage.shard found)) (hot_path found) true (come_back (pending_hot found))
    (λ at value link above step is_key.
    let below = in-below wide at link.path step.on above step.below in
    ((subst (IsIn wide) is_key below, (key_path-data found.wide found.key, blob longest digest stage mirrors found fit)), (((below, above), tt), tt)))
    stage.shard.frontier stage.shard.value links within (back_way longest digest stage mirrors found fit links chain)
transfer_typed wide longest digest stage (promotes key) links within mirrors fit chain =
    along_typed wide longest (tree_of stage.shard) (key_path_in stage.shard key) false (become_hot (giving stage.clock).at)
    (λ at value link above step is_key.
    let below = in-below wide at link.path step.on above step.below in
    (((below, above), subst (IsOf longest link.path) (sym step.as_it_is) step.kind), (((below, above), tt), tt)))
    stage.shard.frontier stage.shard.value links within (hot_way longest digest stage mirrors key fit links chain)

-- ---- it runs

runs_back : (rules : Rules) (entries : List Entry) (room : ℕ) (stage : Stage) (found : HotRecord) (links : List Link)
    → IsBare entries → key_bits (wide_in stage.shard) < room → StageMirrors rules.scheme.format.longest rules.scheme.digest stage
    → IsOne (hot_records stage.places) found → CanDo rules stage (demotes found) → AreLinks stage.shard (demotes found) links
    → TransferRuns rules entries room stage (demotes found) links
runs_back rules entries room stage found [] bare roomy mirrors is_hot can chain =
    absurd (apart_from rules.scheme.format.longest rules.scheme.digest stage mirrors (hot_path found) (key_path-data found.wide found.key) chain)
runs_back rules entries room stage found (link ∷ more) bare roomy mirrors is_hot can chain = record {
  told = way.told;
  runs = way.works entries room (clear-bare entries shard.frontier bare mirrors.shard.fits.below_root)
      (omega (arith, length-bare entries bare, few, depth_in shard.frontier mirrors.shard.fits.below_root, mirrors.shard.fits.below_root, key_path-data found.wide found.key, ap (λ (wide : Bool). key_bits wide) has.tree, roomy));
  added = way.added;
  evicted = way.evicted;
  no_access = way.no_access;
  unsealed = way.unsealed;
  within = way.within;
  kept = way.kept;
  own = λ path is. way.outside path (not_below shard.frontier path is);
}
  where
    longest : ℕ
    longest = rules.scheme.format.longest

    shard : Shard
    shard = stage.shard

    key : List Bool
    key = hot_path found

    has : HasKeyOf stage.shard found
    has = one_of-all (HasKeyOf stage.shard) (hot_records stage.places) found mirrors.in_range is_hot

    tree : Tree
    tree = tree_of (with_back stage.shard found)

    base : Tree
    base = (with_back stage.shard found).records

    is_way : IsWay rules.scheme.format.longest tree key true stage.shard.frontier stage.shard.value (link ∷ more)
    is_way = back_way longest rules.scheme.digest stage mirrors found is_hot (link ∷ more) chain

    few : length (link ∷ more) + length stage.shard.frontier ≤ length key
    few = way_length longest tree key true shard.frontier shard.value (link ∷ more) is_way

    kept_base : (k : List Bool) → same_path k key ≡ false → base k ≡ stage.shard.records k
    kept_base k apart = ap (λ (b : Bool). if b then Some (values.Blob found.value) else shard.records k) apart

    based : (k : List Bool) (on : Bool) → side stage.shard.frontier k ≡ Some on → same_path k key ≡ false → tree k ≡ stage.shard.records k
    based k on below apart =
        ap (λ (b : Bool). if b then Some shard.value else base k) (same_path-apart k shard.frontier (below_apart shard.frontier k on below)) ∙ kept_base k apart

    way : Along rules tree stage.shard.records base key false (values.Blob found.value) stage.shard.frontier B stage.shard.value (link ∷ more) stage.clock
        (taking stage.clock found.stamp) (visit_but_last stage.shard.frontier (link ∷ more) (come_back (pending_hot found)))
        (pending_hot found ∷ []) []
    way =
        along rules tree shard.records base key false (values.Blob found.value) stage.clock (taking stage.clock found.stamp) (come_back (pending_hot found))
        (pending_hot found ∷ []) [] (onward-taking stage.clock found.stamp)
        (λ at value one apart step. back_sound longest rules.scheme.digest stage mirrors found is_hot (link ∷ more) chain at value one apart step)
        (λ at hold value one some at_based step is_key.
        back_ends rules tree shard.records base key (pending_hot found) stage.clock at hold value one some kept_base step is_key refl
        (end longest rules.scheme.digest stage mirrors found is_hot) can.takable.0.0 can.takable.0.1 can.counters (onward-taking stage.clock found.stamp))
        shard.frontier B shard.value link more (some_path shard.frontier mirrors.shard.fits.below_root) based is_way

runs_hot : (rules : Rules) (entries : List Entry) (room : ℕ) (stage : Stage) (key : ℕ) (links : List Link)
    → IsBare entries → key_bits (wide_in stage.shard) < room → StageMirrors rules.scheme.format.longest rules.scheme.digest stage
    → IsPromotable stage key → CanDo rules stage (promotes key) → AreLinks stage.shard (promotes key) links
    → TransferRuns rules entries room stage (promotes key) links
runs_hot rules entries room stage key [] bare roomy mirrors fit can chain =
    absurd (apart_from rules.scheme.format.longest rules.scheme.digest stage mirrors (key_path_in stage.shard key) fit.own.whole chain)
runs_hot rules entries room stage key (link ∷ more) bare roomy mirrors fit can chain = record {
  told = way.told;
  runs = way.works entries room (clear-bare entries shard.frontier bare mirrors.shard.fits.below_root)
      (omega (arith, length-bare entries bare, few, depth_in shard.frontier mirrors.shard.fits.below_root, mirrors.shard.fits.below_root, key_path-data (wide_in stage.shard) key, roomy));
  added = way.added;
  evicted = way.evicted
      ∙ ap (λ (v : Value). record { path = path; value = v; stamp = (giving stage.clock).at; verifier = rules.number } ∷ [])
      (last_data longest rules.scheme.digest stage mirrors key fit (link ∷ more) chain);
  no_access = way.no_access;
  unsealed = way.unsealed;
  within = way.within;
  kept = way.kept;
  own = λ k is. way.outside k (not_below shard.frontier k is);
}
  where
    longest : ℕ
    longest = rules.scheme.format.longest

    shard : Shard
    shard = stage.shard

    path : List Bool
    path = key_path_in stage.shard key

    tree : Tree
    tree = tree_of stage.shard

    last : Value
    last = last_value stage.shard.value (link ∷ more)

    is_way : IsWay rules.scheme.format.longest tree path false stage.shard.frontier stage.shard.value (link ∷ more)
    is_way = hot_way longest rules.scheme.digest stage mirrors key fit (link ∷ more) chain

    few : length (link ∷ more) + length stage.shard.frontier ≤ length path
    few = way_length longest tree path false shard.frontier shard.value (link ∷ more) is_way

    based : (k : List Bool) (on : Bool) → side stage.shard.frontier k ≡ Some on → same_path k path ≡ false → tree k ≡ stage.shard.records k
    based k on below apart =
        ap (λ (b : Bool). if b then Some shard.value else shard.records k) (same_path-apart k shard.frontier (below_apart shard.frontier k on below))

    at_end : tree path ≡ Some last
    at_end = hot_end longest rules.scheme.digest stage mirrors key fit (link ∷ more) chain

    sound : (at : List Bool) (value : Value) (one : Link) → (step : IsStep rules.scheme.format.longest tree path false at value one)
        → (step.pointer.deferred ≡ false) × (step.pointer.digest ≡ rules.scheme.digest (value_text one.taken))
    sound = hot_sound longest rules.scheme.digest stage mirrors key fit (link ∷ more) chain

    way : Along rules tree stage.shard.records stage.shard.records path true last stage.shard.frontier B stage.shard.value (link ∷ more) stage.clock
        (giving stage.clock) (visit_but_last stage.shard.frontier (link ∷ more) (become_hot (giving stage.clock).at)) []
        (record { path = path; value = last; stamp = (giving stage.clock).at; verifier = rules.number } ∷ [])
    way =
        along rules tree shard.records shard.records path true last stage.clock (giving stage.clock) (become_hot (giving stage.clock).at)
        [] (record { path = path; value = last; stamp = (giving stage.clock).at; verifier = rules.number } ∷ []) (onward-giving stage.clock)
        (λ at value one apart step. sound at value one step)
        (λ at hold value one some at_based step is_key.
        hot_ends rules tree shard.records shard.records path last stage.clock at hold value one some (λ k apart. refl)
        (sym (recorded longest rules.scheme.digest stage mirrors key fit (link ∷ more) chain)) step is_key
        (same_Some one.taken last (sym step.there ∙ (ap tree is_key ∙ at_end))) (sound at value one step).1 can.counters)
        shard.frontier B shard.value link more (some_path shard.frontier mirrors.shard.fits.below_root) based is_way

-- A transfer runs behind the frontier of its shard.
pub transfer_runs : (rules : Rules) (entries : List Entry) (room : ℕ) (stage : Stage) (transfer : Transfer) (links : List Link)
    → IsBare entries → key_bits (wide_in stage.shard) < room → StageMirrors rules.scheme.format.longest rules.scheme.digest stage
    → IsFit stage transfer → CanDo rules stage transfer → AreLinks stage.shard transfer links
    → TransferRuns rules entries room stage transfer links
transfer_runs rules entries room stage (demotes found) links bare roomy mirrors fit can chain = runs_back rules entries room stage found links bare roomy mirrors fit can chain
transfer_runs rules entries room stage (promotes key) links bare roomy mirrors fit can chain = runs_hot rules entries room stage key links bare roomy mirrors fit can chain
