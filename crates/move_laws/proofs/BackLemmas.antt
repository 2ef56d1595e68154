-- The shard of a stage that mirrors, with a hot record that comes back: the way to it, and that the stage mirrors again.
use Rattle.std.proofs.Common.{◌≡◌, ◌≢◌, ◌⊎◌, ℕ, Bool, true, false, List, Option, Some, is_some, IsSome, if◌then◌else◌, refl, sym, ◌∙◌, ap, subst, inl, inr}
use Rattle.std.specs.List.{IsAmong, AllPairs}
use Rattle.std.proofs.lemmas.Bool.{false≢true}
use Rattle.std.proofs.lemmas.Option.{same_Some}
use Rattle.tree_keys.specs.Path.{side, is_prefix, same_path, IsData}
use Rattle.tree_keys.proofs.PathLaws.{same_path-self, same_path-true, same_path-apart}
use Rattle.tree_keys.proofs.SideLaws.{is_prefix-self}
use Rattle.tree_keys.proofs.TreeLaws.{key_path-data}
use Rattle.record_text.specs.declared.value.Pointer.{Pointer}
use Rattle.record_text.specs.declared.value.Value.{Value}
use Rattle.record_text.specs.declared.value.Value.TheVariants as values
use Rattle.record_text.specs.Texts.{value_text}
use Rattle.record_text.specs.Value.{IsBlob, IsOf}
use Rattle.merkle_records.specs.Merkle.{Digest, GivesDigests}
use Rattle.host_shard.specs.declared.link.Link.{Link}
use Rattle.host_shard.specs.declared.content.HotRecord.{HotRecord}
use Rattle.host_shard.specs.Tree.{Tree, with_record, IsPointerIn, IsReached, at_start, by_pointer}
use Rattle.host_shard.specs.Chain.{closed_records}
use Rattle.host_shard.specs.Shard.{Shard, tree_of}
use Rattle.host_shard.specs.Content.{hot_path, vacant}
use Rattle.host_shard.specs.Mirrors.{HasKeyOf, IsShard, IsKeyOf, IsKept, IsWaiting}
use Rattle.host_laws.proofs.DepthLaws.{whole_none}
use Rattle.host_laws.proofs.FrontierLaws.{frontier_there}
use Rattle.protection_moves.specs.Stage.{Stage, hot_records, hot_paths, replaced}
use Rattle.protection_moves.specs.Transfer.{demotes}
use Rattle.protection_moves.specs.Descent.{with_back, AreLinks, done_by}
use Rattle.move_laws.specs.Stages.{StageMirrors, IsOne}
use Rattle.move_laws.proofs.PlaceLaws.{all-replaced, one_of-all, one-replaced}
use Rattle.move_laws.proofs.KeyLaws.{has_key-on, same_path_of}
use Rattle.move_laws.proofs.VacantLaws.{among-member, member-among, one-member, member-one, pairs-different, different-pairs, one-vacant, different-vacant}
use Rattle.move_laws.proofs.WayLemmas.{AreOf, IsStep, IsWay, IsLast, side_in, reached_below, way_of}
use Rattle.move_laws.proofs.ClosedLemmas.{Ground, kinds_behind, reached_behind, kept_behind, waits_behind, hot_waits_behind}
use Rattle.move_laws.proofs.AboveLaws.{side-prefix-of, closed_some, different_one, above_is_kept, apart_from}

module _ (longest : ℕ) (digest : Digest) (stage : Stage) (mirrors : StageMirrors longest digest stage) where
  abbrev shard : Shard
  shard = stage.shard

  abbrev old : Tree
  old = tree_of stage.shard

  -- ---- a record that comes back

  module _ (found : HotRecord) (is_hot : IsOne (hot_records stage.places) found) where
    abbrev back : Shard
    back = with_back stage.shard found

    abbrev tree : Tree
    tree = tree_of (with_back stage.shard found)

    abbrev key : List Bool
    key = hot_path found

    abbrev value : Value
    value = values.Blob found.value

    whole : IsData (hot_path found)
    whole = key_path-data found.wide found.key

    among : IsAmong (hot_paths stage.places) (hot_path found)
    among = member-among _ _ (one-member hot_path (hot_records stage.places) found is_hot)

    pub end : tree (hot_path found) ≡ Some (values.Blob found.value)
    end =
        ap (λ (b : Bool). if b then Some shard.value else with_record shard.records key value key)
        (same_path-apart key shard.frontier (λ same. apart_from longest digest stage mirrors key whole (sym same)))
        ∙ ap (λ (b : Bool). if b then Some value else shard.records key) (same_path-self key)

    -- all others are as before
    others : (k : List Bool) → same_path k key ≡ false → tree k ≡ old k
    others k apart =
        ap (λ (o : Option Value). if same_path k shard.frontier then Some shard.value else o) (ap (λ (b : Bool). if b then Some value else shard.records k) apart)

    pub blob : IsBlob longest found.value
    blob = one_of-all (λ r. IsBlob longest r.value) (hot_records stage.places) found mirrors.blobs is_hot

    kinds : AreOf longest tree
    kinds path v is = go (same_path path key) refl
      where
        go : (b : Bool) → same_path path key ≡ b → IsOf longest path v
        go true same =
            subst (λ (k : List Bool). IsOf longest k v) (sym (same_path-true path key same))
            (subst (IsOf longest key) (same_Some value v (sym end ∙ (ap tree (sym (same_path-true path key same)) ∙ is))) (whole, blob))
        go false apart = mirrors.shard.fits.kinds path v (sym (others path apart) ∙ is)

    -- a pointer is one from before, and the other way round
    pointer_back : (at : List Bool) (on : Bool) (pointer : Pointer) → IsPointerIn tree at on pointer → IsPointerIn old at on pointer
    pointer_back at on pointer is = record {
      value = is.value;
      there = sym (others at (same_path-apart at key (λ same. whole_none longest at is.value on pointer (kinds at is.value is.there)
          (subst IsData (sym same) whole) is.leads))) ∙ is.there;
      leads = is.leads;
    }

    pointer_on : (at : List Bool) (on : Bool) (pointer : Pointer) → IsPointerIn old at on pointer → IsPointerIn tree at on pointer
    pointer_on at on pointer is = record {
      value = is.value;
      there = others at (same_path-apart at key (λ same. whole_none longest at is.value on pointer (mirrors.shard.fits.kinds at is.value is.there)
          (subst IsData (sym same) whole) is.leads)) ∙ is.there;
      leads = is.leads;
    }

    reached_on : (k : List Bool) → IsReached old shard.frontier k → IsReached tree shard.frontier k
    reached_on k at_start = at_start
    reached_on k (by_pointer path on pointer reached is) = by_pointer path on pointer (reached_on path reached) (pointer_on path on pointer is)

    -- the pointer that waits for it
    waiting : IsWaiting old (hot_path found)
    waiting = mirrors.shard.mirrors.hot_waits key among

    last : IsLast tree (hot_path found) true waiting.at waiting.on waiting.pointer
    last = record { is = pointer_on waiting.at waiting.on waiting.pointer waiting.is; to = waiting.to; deferred = waiting.deferred }

    reached_last : IsReached tree shard.frontier waiting.at
    reached_last = reached_on waiting.at (mirrors.shard.mirrors.reached waiting.at (ap (λ (o : Option Value). is_some o) waiting.is.there))

    -- the shard in which it stands, and its key
    pub back_shard : IsShard longest (with_back stage.shard found)
    back_shard = record { below_root = mirrors.shard.fits.below_root; no_data = mirrors.shard.fits.no_data; kinds = kinds }

    pub back_own : IsKeyOf (with_back stage.shard found) (hot_path found)
    back_own = record {
      whole = whole;
      below = ap (λ (o : Option Bool). is_some o)
          (side-prefix-of shard.frontier waiting.at key waiting.on (reached_below longest old shard.frontier waiting.at mirrors.shard.fits.kinds
          (mirrors.shard.mirrors.reached waiting.at (ap (λ (o : Option Value). is_some o) waiting.is.there)))
          (ap (side waiting.at) (sym waiting.to) ∙ side_in longest old waiting.at waiting.on waiting.pointer mirrors.shard.fits.kinds waiting.is)).1;
    }

    module _ (links : List Link) (chain : AreLinks stage.shard (demotes found) links) where
      pub back_way : IsWay longest tree (hot_path found) true shard.frontier shard.value links
      back_way =
          way_of longest tree key true kinds value end waiting.at waiting.on waiting.pointer last shard.frontier shard.value links
          (frontier_there (with_back stage.shard found)) reached_last chain

      back_reached : (k : List Bool) → IsSome (tree k) → IsReached tree shard.frontier k
      back_reached k there = go (same_path k key) refl
        where
          go : (b : Bool) → same_path k key ≡ b → IsReached tree shard.frontier k
          go true same =
              subst (IsReached tree shard.frontier) (waiting.to ∙ sym (same_path-true k key same)) (by_pointer waiting.at waiting.on waiting.pointer reached_last last.is)
          go false apart = reached_on k (mirrors.shard.mirrors.reached k (subst (λ (o : Option Value). IsSome o) (others k apart) there))

      back_ground : Ground longest digest tree back.records shard.frontier shard.value (hot_path found) false (values.Blob found.value) links
      back_ground = record {
        kinds = kinds;
        whole = whole;
        apart = apart_from longest digest stage mirrors key whole;
        is_top = λ k. refl;
        way = back_way;
        end = end;
        reached = back_reached;
      }

      -- each pointer above is kept
      pub back_sound : (at : List Bool) (v : Value) (link : Link) → same_path link.path (hot_path found) ≡ false
          → (step : IsStep longest tree (hot_path found) true at v link)
          → (step.pointer.deferred ≡ false) × (step.pointer.digest ≡ digest (value_text link.taken))
      back_sound at v link apart step =
          let kept = above_is_kept longest digest stage mirrors key at step.on step.pointer whole (pointer_back at step.on step.pointer step.is_in)
          (ap (λ (k : List Bool). is_prefix k key) step.to ∙ step.begins)
          (λ same. false≢true (sym apart ∙ (ap (λ (k : List Bool). same_path k key) (sym step.to ∙ same) ∙ same_path-self key))) in (
            kept.0,
            kept.1.digest_of
                ∙ ap (λ (w : Value). digest (value_text w))
                (same_Some kept.1.value link.taken (sym kept.1.there ∙ (ap old step.to ∙ (sym (others link.path apart) ∙ step.there)))),
          )

      -- the stage mirrors again
      pub back_mirrors : (worker : ℕ) → GivesDigests digest → StageMirrors longest digest (done_by digest worker stage (demotes found) links)
      back_mirrors worker digests = record {
        shard = record {
          fits = record {
            below_root = mirrors.shard.fits.below_root;
            no_data = mirrors.shard.fits.no_data;
            kinds = kinds_behind longest digest tree back.records shard.frontier shard.value key false value links back_ground digests;
          };
          mirrors = record {
            kept = kept_behind longest digest tree back.records shard.frontier shard.value key false value links back_ground kept_before;
            waits = waits_behind longest digest tree back.records shard.frontier shard.value key false value links back_ground new_hot
                (λ loan. absurd (false≢true loan)) waits_before;
            reached = reached_behind longest digest tree back.records shard.frontier shard.value key false value links back_ground;
            hot_waits = hot_waits_after;
            hot_keys = record { whole = λ path is. mirrors.shard.mirrors.hot_keys.whole path (was_hot path is).0; once = once };
            touched = λ path some. touched path (mirrors.shard.mirrors.touched path some);
          };
        };
        blobs = all-replaced (λ r. IsBlob longest r.value) (λ r. IsBlob longest r.value) found.key vacant stage.places (λ r is other. is) tt mirrors.blobs;
        in_range = all-replaced (HasKeyOf stage.shard) (HasKeyOf (done_by digest worker stage (demotes found) links).shard) found.key vacant stage.places
            (λ r is other. has_key-on stage.shard (done_by digest worker stage (demotes found) links).shard refl r is) tt mirrors.in_range;
      }
        where
          new_hot : List (List Bool)
          new_hot = hot_paths (replaced found.key vacant stage.places)

          has_key : (r : HotRecord) → IsOne (hot_records stage.places) r → HasKeyOf stage.shard r
          has_key r is = one_of-all (HasKeyOf stage.shard) (hot_records stage.places) r mirrors.in_range is

          different : (r : HotRecord) → IsOne (hot_records stage.places) r → (r.key ≡ found.key → ⊥) → hot_path r ≢ key
          different r is other same = go (different_one hot_path (hot_records stage.places) r found (pairs-different _ mirrors.shard.mirrors.hot_keys.once) is is_hot)
            where
              go : (r ≡ found) ⊎ (hot_path r ≢ key) → ⊥
              go (inl one) = other (ap (λ (h : HotRecord). h.key) one)
              go (inr apart) = apart same

          was_hot : (path : List Bool) → IsAmong new_hot path → IsAmong (hot_paths stage.places) path × (path ≢ key)
          was_hot path is =
              let new = member-one hot_path (hot_records (replaced found.key vacant stage.places)) path (among-member _ path is) in
              let was = one-vacant found.key stage.places new.0 new.1 in (
                subst (IsAmong (hot_paths stage.places)) (sym new.2)
                    (member-among _ _ (one-member hot_path (hot_records stage.places) new.0 was.0)),
                (λ same. different new.0 was.0 was.1 (sym new.2 ∙ same)),
              )

          is_still : (path : List Bool) → IsAmong (hot_paths stage.places) path → path ≢ key → IsAmong new_hot path
          is_still path is other =
              let was = member-one hot_path (hot_records stage.places) path (among-member _ path is) in
              subst (IsAmong new_hot) (sym was.2)
              (member-among _ _ (one-member hot_path (hot_records (replaced found.key vacant stage.places)) was.0
              (one-replaced found.key vacant stage.places was.0 was.1 (λ same. other (was.2 ∙ same_path_of stage.shard was.0 found (has_key was.0 was.1) (has_key found is_hot) same)))))

          kept_before : (at : List Bool) (on : Bool) (pointer : Pointer) → IsPointerIn tree at on pointer → pointer.deferred ≡ false → is_prefix pointer.path key ≡ false
              → IsKept digest tree pointer
          kept_before at on pointer is fresh aside =
              let kept = mirrors.shard.mirrors.kept at on pointer (pointer_back at on pointer is) fresh in
              record { value = kept.value; there = others pointer.path (no_key pointer.path aside) ∙ kept.there; digest_of = kept.digest_of }
            where
              no_key : (j : List Bool) → is_prefix j key ≡ false → same_path j key ≡ false
              no_key j apart = same_path-apart j key (λ same. false≢true (sym apart ∙ subst (λ (i : List Bool). is_prefix i key ≡ true) (sym same) (is_prefix-self key)))

          waits_before : (at : List Bool) (on : Bool) (pointer : Pointer) → IsPointerIn tree at on pointer → pointer.deferred ≡ true → is_prefix pointer.path key ≡ false
              → IsAmong new_hot pointer.path
          waits_before at on pointer is deferred aside =
              is_still pointer.path (mirrors.shard.mirrors.waits at on pointer (pointer_back at on pointer is) deferred)
              (λ same. false≢true (sym aside ∙ subst (λ (i : List Bool). is_prefix i key ≡ true) (sym same) (is_prefix-self key)))

          hot_waits_after : (path : List Bool) → IsAmong new_hot path
              → IsWaiting (tree_of (done_by digest worker stage (demotes found) links).shard) path
          hot_waits_after path is =
              let was = was_hot path is in
              let before = mirrors.shard.mirrors.hot_waits path was.0 in
              hot_waits_behind longest digest tree back.records shard.frontier shard.value key false value links back_ground path
              (mirrors.shard.mirrors.hot_keys.whole path was.0) was.1
              (record { at = before.at; on = before.on; pointer = before.pointer; is = pointer_on before.at before.on before.pointer before.is; to = before.to; deferred = before.deferred })

          once : AllPairs (λ a b. a ≢ b) new_hot
          once = different-pairs _ (different-vacant hot_path found.key stage.places (pairs-different _ mirrors.shard.mirrors.hot_keys.once))

          touched : (path : List Bool) → IsSome (shard.records path) → IsSome (closed_records digest false back.records links value path)
          touched path there = closed_some digest false back.records links value path (go (same_path path key))
            where
              go : (b : Bool) → IsSome (if b then Some value else shard.records path)
              go true = refl
              go false = there
