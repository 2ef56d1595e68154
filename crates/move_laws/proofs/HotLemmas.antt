-- A key of a stage that mirrors becomes hot: the way to its record, and that the stage mirrors again.
use Rattle.std.proofs.Common.{◌≡◌, ◌≢◌, ◌⊎◌, ℕ, ◌<◌, Bool, true, false, List, Option, Some, None, is_some, IsSome, if◌then◌else◌, refl, sym, ◌∙◌, ap, subst, inl, inr, arith}
use Rattle.std.specs.List.{IsAmong, AllPairs}
use Rattle.std.proofs.lemmas.Bool.{false≢true}
use Rattle.std.proofs.lemmas.Option.{same_Some}
use Rattle.tree_keys.specs.Path.{is_prefix, same_path, IsData}
use Rattle.tree_keys.proofs.PathLaws.{same_path-self, same_path-true, same_path-apart}
use Rattle.tree_keys.proofs.TreeLaws.{data-no_node}
use Rattle.record_text.specs.declared.value.Pointer.{Pointer}
use Rattle.record_text.specs.declared.value.Value.{Value}
use Rattle.record_text.specs.declared.value.Value.TheVariants as values
use Rattle.record_text.specs.Texts.{value_text}
use Rattle.record_text.specs.Value.{IsBlob, IsOf}
use Rattle.merkle_records.specs.Merkle.{Digest, GivesDigests}
use Rattle.host_shard.specs.declared.link.Link.{Link}
use Rattle.host_shard.specs.declared.content.HotRecord.{HotRecord}
use Rattle.host_shard.specs.Tree.{Tree, IsPointerIn, IsReached}
use Rattle.host_shard.specs.Chain.{last_value, closed_records}
use Rattle.host_shard.specs.Shard.{key_path_in, Shard, tree_of}
use Rattle.host_shard.specs.Mirrors.{HasKeyOf, IsKept, IsWaiting}
use Rattle.host_shard.specs.Content.{hot_path}
use Rattle.host_laws.proofs.FrontierLaws.{frontier_there}
use Rattle.protection_moves.specs.Stage.{Stage, hot_records, hot_paths, placed}
use Rattle.protection_moves.specs.Transfer.{promotes}
use Rattle.protection_moves.specs.Descent.{data_of, AreLinks, promoted_record, shard_without, done_by}
use Rattle.move_laws.specs.Stages.{StageMirrors, IsOne}
use Rattle.move_laws.specs.Transfers.{IsPromotable}
use Rattle.move_laws.proofs.PlaceLaws.{all-are, all-map}
use Rattle.move_laws.proofs.KeyLaws.{have_keys-on}
use Rattle.move_laws.proofs.VacantLaws.{among-member, member-among, one-member, member-one, pairs-different, different-pairs, one-placed, one-placed_other, all-placed, placed-one, different-placed}
use Rattle.move_laws.proofs.WayLemmas.{IsStep, IsWay, last_pointer, way_of, way_end}
use Rattle.move_laws.proofs.ClosedLemmas.{Ground, kinds_behind, reached_behind, kept_behind, waits_behind, hot_waits_behind, key_waits}
use Rattle.move_laws.proofs.AboveLaws.{closed_some, above_is_kept, apart_from}

there_is : (o : Option Value) → IsSome o → (value : Value) × (o ≡ Some value)
there_is None is = absurd (false≢true is)
there_is (Some value) is = (value, refl)

module _ (longest : ℕ) (digest : Digest) (stage : Stage) (mirrors : StageMirrors longest digest stage) where
  abbrev shard : Shard
  shard = stage.shard

  abbrev old : Tree
  old = tree_of stage.shard

  -- ---- a record that becomes hot

  module _ (key : ℕ) (can : IsPromotable stage key) (links : List Link) (chain : AreLinks stage.shard (promotes key) links) where
    abbrev path_to : List Bool
    path_to = key_path_in stage.shard key

    abbrev last : Value
    last = last_value stage.shard.value links

    apart : stage.shard.frontier ≢ key_path_in stage.shard key
    apart = apart_from longest digest stage mirrors path_to can.own.whole

    -- its record is the shard's
    pub recorded : old (key_path_in stage.shard key) ≡ stage.shard.records (key_path_in stage.shard key)
    recorded = ap (λ (b : Bool). if b then Some shard.value else shard.records path_to) (same_path-apart path_to shard.frontier (λ same. apart (sym same)))

    there : (value : Value) × (old (key_path_in stage.shard key) ≡ Some value)
    there = there_is (old path_to) (subst (λ (o : Option Value). IsSome o) (sym recorded) can.there)

    cold_pointer : (at : List Bool) (on : Bool) (pointer : Pointer) → IsPointerIn old at on pointer → pointer.path ≡ key_path_in stage.shard key → pointer.deferred ≡ false
    cold_pointer at on pointer is to = go pointer.deferred refl
      where
        go : (b : Bool) → pointer.deferred ≡ b → pointer.deferred ≡ false
        go false not_so = not_so
        go true deferred = absurd (can.cold (subst (IsAmong (hot_paths stage.places)) to (mirrors.shard.mirrors.waits at on pointer is deferred)))

    from : (at : List Bool) × (on : Bool) × (pointer : Pointer) × (IsReached old stage.shard.frontier at) × (IsPointerIn old at on pointer)
        × (pointer.path ≡ key_path_in stage.shard key)
    from = last_pointer old shard.frontier path_to (mirrors.shard.mirrors.reached path_to (ap (λ (o : Option Value). is_some o) there.1)) apart

    pub hot_way : IsWay longest old (key_path_in stage.shard key) false stage.shard.frontier stage.shard.value links
    hot_way =
        way_of longest old path_to false mirrors.shard.fits.kinds there.0 there.1 from.0 from.1 from.2
        (record { is = from.4; to = from.5; deferred = cold_pointer from.0 from.1 from.2 from.4 from.5 })
        shard.frontier shard.value links (frontier_there stage.shard) from.3 chain

    pub hot_end : old (key_path_in stage.shard key) ≡ Some (last_value stage.shard.value links)
    hot_end = way_end longest old path_to false shard.frontier shard.value links (frontier_there stage.shard) hot_way

    hot_ground : Ground longest digest old stage.shard.records stage.shard.frontier stage.shard.value (key_path_in stage.shard key) true (last_value stage.shard.value links) links
    hot_ground = record {
      kinds = mirrors.shard.fits.kinds;
      whole = can.own.whole;
      apart = apart;
      is_top = λ k. refl;
      way = hot_way;
      end = hot_end;
      reached = mirrors.shard.mirrors.reached;
    }

    -- each pointer on the way is kept
    pub hot_sound : (at : List Bool) (v : Value) (link : Link) → (step : IsStep longest old (key_path_in stage.shard key) false at v link)
        → (step.pointer.deferred ≡ false) × (step.pointer.digest ≡ digest (value_text link.taken))
    hot_sound at v link step = (
      fresh,
      kept.digest_of
          ∙ ap (λ (w : Value). digest (value_text w)) (same_Some kept.value link.taken (sym kept.there ∙ (ap old step.to ∙ step.there))),
    )
      where
        fresh : step.pointer.deferred ≡ false
        fresh = go (same_path link.path path_to) refl
          where
            go : (b : Bool) → same_path link.path path_to ≡ b → step.pointer.deferred ≡ false
            go true same = step.late_if_last (same_path-true link.path path_to same)
            go false other =
                (above_is_kept longest digest stage mirrors path_to at step.on step.pointer can.own.whole step.is_in (ap (λ (k : List Bool). is_prefix k path_to) step.to ∙ step.begins)
                (λ same. false≢true (sym other ∙ (ap (λ (k : List Bool). same_path k path_to) (sym step.to ∙ same) ∙ same_path-self path_to)))).0

        kept : IsKept digest old step.pointer
        kept = mirrors.shard.mirrors.kept at step.on step.pointer step.is_in fresh

    -- its value is data
    pub last_data : last_value stage.shard.value links ≡ values.Blob (data_of (last_value stage.shard.value links))
    last_data = go last (mirrors.shard.fits.kinds path_to last hot_end)
      where
        go : (value : Value) → IsOf longest path_to value → value ≡ values.Blob (data_of value)
        go (values.Blob blob) kind = refl
        go (values.Node node) kind = absurd (data-no_node path_to can.own.whole kind.0)

    last_blob : IsBlob longest (data_of (last_value stage.shard.value links))
    last_blob = (subst (IsOf longest path_to) last_data (mirrors.shard.fits.kinds path_to last hot_end)).1

    -- the stage mirrors again
    pub hot_mirrors : (worker : ℕ) → GivesDigests digest → StageMirrors longest digest (done_by digest worker stage (promotes key) links)
    hot_mirrors worker digests = record {
      shard = record {
        fits = record {
          below_root = mirrors.shard.fits.below_root;
          no_data = mirrors.shard.fits.no_data;
          kinds = kinds_behind longest digest old shard.records shard.frontier shard.value path_to true last links hot_ground digests;
        };
        mirrors = record {
          kept = kept_behind longest digest old shard.records shard.frontier shard.value path_to true last links hot_ground
              (λ at on pointer is fresh aside. mirrors.shard.mirrors.kept at on pointer is fresh);
          waits = waits_behind longest digest old shard.records shard.frontier shard.value path_to true last links hot_ground new_hot
              (λ loan. own_hot) (λ at on pointer is deferred aside. still_hot pointer.path (mirrors.shard.mirrors.waits at on pointer is deferred));
          reached = reached_behind longest digest old shard.records shard.frontier shard.value path_to true last links hot_ground;
          hot_waits = hot_waits_after;
          hot_keys = record { whole = whole_after; once = once };
          touched = touched;
        };
      };
      blobs = all-placed (λ r. IsBlob longest r.value) new stage.places last_blob mirrors.blobs;
      in_range = all-placed (HasKeyOf (done_by digest worker stage (promotes key) links).shard) new stage.places (record { tree = refl; range = can.in_range })
          (have_keys-on stage.shard (done_by digest worker stage (promotes key) links).shard refl (hot_records stage.places) mirrors.in_range);
    }
      where
        new : HotRecord
        new = promoted_record worker stage key links

        new_hot : List (List Bool)
        new_hot = hot_paths (placed new stage.places)

        own_hot : IsAmong new_hot path_to
        own_hot = member-among _ _ (one-member hot_path (hot_records (placed new stage.places)) new (one-placed new stage.places can.room))

        still_hot : (path : List Bool) → IsAmong (hot_paths stage.places) path → IsAmong new_hot path
        still_hot path is =
            let was = member-one hot_path (hot_records stage.places) path (among-member _ path is) in
            subst (IsAmong new_hot) (sym was.2)
            (member-among _ _ (one-member hot_path (hot_records (placed new stage.places)) was.0 (one-placed_other new stage.places was.0 was.1)))

        was_hot : (path : List Bool) → IsAmong new_hot path → (path ≡ path_to) ⊎ IsAmong (hot_paths stage.places) path
        was_hot path is = go now.0 now.1 now.2
          where
            now : (r : HotRecord) × (IsOne (hot_records (placed new stage.places)) r) × (path ≡ hot_path r)
            now = member-one hot_path (hot_records (placed new stage.places)) path (among-member _ path is)

            go : (r : HotRecord) → IsOne (hot_records (placed new stage.places)) r → path ≡ hot_path r
                → (path ≡ path_to) ⊎ IsAmong (hot_paths stage.places) path
            go r one same = further (placed-one new stage.places r one)
              where
                further : (r ≡ new) ⊎ IsOne (hot_records stage.places) r → (path ≡ path_to) ⊎ IsAmong (hot_paths stage.places) path
                further (inl it) = inl (same ∙ ap hot_path it)
                further (inr was) =
                    inr (subst (IsAmong (hot_paths stage.places)) (sym same)
                    (member-among _ _ (one-member hot_path (hot_records stage.places) r was)))

        hot_waits_after : (path : List Bool) → IsAmong new_hot path
            → IsWaiting (tree_of (done_by digest worker stage (promotes key) links).shard) path
        hot_waits_after path is = go (was_hot path is)
          where
            go : (path ≡ path_to) ⊎ IsAmong (hot_paths stage.places) path
                → IsWaiting (tree_of (done_by digest worker stage (promotes key) links).shard) path
            go (inl same) =
                subst (IsWaiting (tree_of (done_by digest worker stage (promotes key) links).shard)) (sym same)
                (key_waits longest digest old shard.records shard.frontier shard.value path_to true last links hot_ground refl)
            go (inr was) =
                hot_waits_behind longest digest old shard.records shard.frontier shard.value path_to true last links hot_ground path
                (mirrors.shard.mirrors.hot_keys.whole path was) (λ same. can.cold (subst (IsAmong (hot_paths stage.places)) same was))
                (mirrors.shard.mirrors.hot_waits path was)

        whole_after : (path : List Bool) → IsAmong new_hot path → IsData path
        whole_after path is = go (was_hot path is)
          where
            go : (path ≡ path_to) ⊎ IsAmong (hot_paths stage.places) path → IsData path
            go (inl same) = subst IsData (sym same) can.own.whole
            go (inr was) = mirrors.shard.mirrors.hot_keys.whole path was

        once : AllPairs (λ a b. a ≢ b) new_hot
        once =
            different-pairs _ (different-placed hot_path new stage.places
            (all-map (IsOne (hot_records stage.places)) (λ r. hot_path r ≢ path_to)
            (λ r is same. can.cold (subst (IsAmong (hot_paths stage.places)) same
            (member-among _ _ (one-member hot_path (hot_records stage.places) r is))))
            (hot_records stage.places) (all-are (hot_records stage.places)))
            (pairs-different _ mirrors.shard.mirrors.hot_keys.once))

        touched : (path : List Bool) → 0 < shard.touches path → IsSome ((shard_without digest stage.shard key links).records path)
        touched path some = go (same_path path path_to) refl
          where
            go : (b : Bool) → same_path path path_to ≡ b → IsSome (if b then None else closed_records digest true shard.records links last path)
            go true same = absurd (omega (arith, some, ap shard.touches (same_path-true path path_to same), can.untouched))
            go false other = closed_some digest true shard.records links last path (mirrors.shard.mirrors.touched path some)
