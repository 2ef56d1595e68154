-- The transfers of a move can be done, each when its turn comes.
use Rattle.std.proofs.Common.{◌≡◌, ◌≢◌, ◌⊎◌, ℕ, zero, suc, ◌+◌, ◌<◌, ◌≤◌, ◌^◌, Bool, true, false, not, List, [], ◌∷◌, ◌++◌, map, take, length, cond, Option, Some, None, IsSome, get_or, if◌then◌else◌, refl, sym, ◌∙◌, ap, subst, inl, inr, arith}
use Rattle.std.specs.Prelude.{filter, IfSome}
use Rattle.std.specs.List.{AllByRecursion, AllPairs, IsAmong}
use Rattle.std.proofs.lemmas.Bool.{false≢true}
use Rattle.tree_keys.specs.Path.{same_path, key_bits, key_path}
use Rattle.tree_keys.proofs.PathLaws.{same_path-apart}
use Rattle.tree_keys.proofs.TreeLaws.{key_path-injective}
use Rattle.lamport_clocks.specs.Reading.{Reading}
use Rattle.record_text.specs.declared.value.Value.{Value}
use Rattle.record_text.specs.declared.value.Value.TheVariants as values
use Rattle.record_text.specs.Value.{IsBlob}
use Rattle.merkle_records.specs.Merkle.{Digest}
use Rattle.host_shard.specs.declared.link.Link.{Link}
use Rattle.host_shard.specs.declared.content.HotRecord.{HotRecord}
use Rattle.host_shard.specs.Chain.{last_value, closed_records}
use Rattle.host_shard.specs.Content.{hot_path, Content, hot, vacant}
use Rattle.host_shard.specs.Mirrors.{HasKeyOf, IsKeyOf, Mirrors}
use Rattle.host_shard.specs.Shard.{key_path_in, wide_in}
use Rattle.host_plan.specs.Moments.{renewing}
use Rattle.protection_moves.specs.Stage.{Stage, hot_records, hot_paths, vacancies, replaced, placed, is_touched, touched_in, untouched_in}
use Rattle.protection_moves.specs.Renewing.{renewed_record, renewed_places}
use Rattle.protection_moves.specs.Transfer.{Transfer, demotes, promotes, IsPromotable, ArePromotable, transfers_of}
use Rattle.protection_moves.specs.Descent.{Descent, with_back, promoted_record, done_by, done_by_each}
use Rattle.protection_moves.specs.Move.{begun}
use Rattle.protection_moves.proofs.RenewingLaws.{renewing_each-epoch}
use Rattle.protection_moves.proofs.TouchedLaws.{all-filter, all-order, touched_all}
use Rattle.move_laws.specs.Stages.{StageMirrors, IsOne}
use Rattle.move_laws.specs.Transfers.{IsFit}
use Rattle.move_laws.proofs.PlaceLaws.{HasNone, AreApart, all-are, all-map, all-replaced, one_of-all}
use Rattle.move_laws.proofs.KeyLaws.{paths_in, have_keys-on}
use Rattle.move_laws.proofs.VacantLaws.{AreDifferent, among-member, member-among, one-member, member-one, all-images, images-all, one-vacant, vacancies-vacant, vacancies-hot, all-placed, placed-one, vacancies-placed}
use Rattle.move_laws.proofs.AboveLaws.{closed_some}
use Rattle.move_laws.proofs.RenewLaws.{IsFresh, still_there, renewed-keys, renewed-all, renewed-fresh}
use Rattle.move_laws.proofs.StageLemmas.{all_split, all_untouched, apart_untouched}
use Rattle.move_laws.proofs.DescentLaws.{AreFit, apart_by_number}

-- ---- what is known when a transfer's turn comes

-- a key of the shard that isn't hot and has a record, whose touches are forgotten
pub record IsReady (stage : Stage) (key : ℕ) : Type 0 where
  pub in_range : key < 2 ^ key_bits (wide_in stage.shard)
  pub own : IsKeyOf stage.shard (key_path_in stage.shard key)
  pub cold : IsAmong (hot_paths stage.places) (key_path_in stage.shard key) → ⊥
  pub there : IsSome (stage.shard.records (key_path_in stage.shard key))
  pub untouched : stage.shard.touches (key_path_in stage.shard key) ≡ 0

-- These records are to come back, and these keys are to become hot.
pub record AreReady (longest : ℕ) (worker epoch : ℕ) (stage : Stage) (back : List HotRecord) (keys : List ℕ) : Type 0 where
  pub there : AllByRecursion (IsOne (hot_records stage.places)) back
  pub apart : AreApart back
  pub ready : AllByRecursion (IsReady stage) keys
  pub different : AreDifferent (map (key_path_in stage.shard) keys)
  pub room : length keys ≤ vacancies stage.places + length back
  pub of_epoch : stage.clock.at.epoch ≡ epoch
  pub fresh : AllByRecursion (λ found. IsFresh worker epoch found ⊎ IsOne back found) (hot_records stage.places)

module _ (longest : ℕ) (digest : Digest) (worker epoch : ℕ) where
  -- once a record came back
  ready-back : (stage : Stage) (found : HotRecord) (links : List Link) (back : List HotRecord) (keys : List ℕ)
      → AreReady longest worker epoch stage (found ∷ back) keys
      → AreReady longest worker epoch (done_by digest worker stage (demotes found) links) back keys
  ready-back stage found links back keys are = record {
    there = still_there found.key vacant stage.places back are.there.1 are.apart.0;
    apart = are.apart.1;
    ready = all-ready keys are.ready;
    different = are.different;
    room = omega (arith, are.room, vacancies-vacant stage.places found are.there.0);
    of_epoch = are.of_epoch;
    fresh = all-replaced (λ r. IsFresh worker epoch r ⊎ IsOne (found ∷ back) r) (λ r. IsFresh worker epoch r ⊎ IsOne back r) found.key vacant stage.places
        other tt are.fresh;
  }
    where
      other : (r : HotRecord) → IsFresh worker epoch r ⊎ IsOne (found ∷ back) r → (r.key ≡ found.key → ⊥) → IsFresh worker epoch r ⊎ IsOne back r
      other r (inl fresh) apart = inl fresh
      other r (inr (inl same)) apart = absurd (apart (ap (λ (h : HotRecord). h.key) same))
      other r (inr (inr is)) apart = inr is

      was_hot : (path : List Bool) → IsAmong (hot_paths (replaced found.key vacant stage.places)) path → IsAmong (hot_paths stage.places) path
      was_hot path is =
          let new = member-one hot_path (hot_records (replaced found.key vacant stage.places)) path (among-member _ path is) in
          subst (IsAmong (hot_paths stage.places)) (sym new.2)
          (member-among _ _ (one-member hot_path (hot_records stage.places) new.0 (one-vacant found.key stage.places new.0 new.1).0))

      base_some : (path : List Bool) → IsSome (stage.shard.records path) → IsSome ((with_back stage.shard found).records path)
      base_some path there = go (same_path path (hot_path found))
        where
          go : (b : Bool) → IsSome (if b then Some (values.Blob found.value) else stage.shard.records path)
          go true = refl
          go false = there

      one : (key : ℕ) → IsReady stage key → IsReady (done_by digest worker stage (demotes found) links) key
      one key is = record {
        in_range = is.in_range;
        own = record { whole = is.own.whole; below = is.own.below };
        cold = λ among. is.cold (was_hot (key_path_in stage.shard key) among);
        there = closed_some digest false (with_back stage.shard found).records links (values.Blob found.value) (key_path_in stage.shard key)
            (base_some (key_path_in stage.shard key) is.there);
        untouched = is.untouched;
      }

      all-ready : (more : List ℕ) → AllByRecursion (IsReady stage) more
          → AllByRecursion (IsReady (done_by digest worker stage (demotes found) links)) more
      all-ready [] all = tt
      all-ready (key ∷ more) all = (one key all.0, all-ready more all.1)

  -- once a key became hot
  ready-hot : (stage : Stage) (key : ℕ) (links : List Link) (keys : List ℕ) → AreReady longest worker epoch stage [] (key ∷ keys)
      → AreReady longest worker epoch (done_by digest worker stage (promotes key) links) [] keys
  ready-hot stage key links keys are = record {
    there = tt;
    apart = tt;
    ready = all-ready keys are.ready.1 (all-images (key_path_in stage.shard) (λ path. key_path_in stage.shard key ≢ path) keys are.different.0);
    different = are.different.1;
    room = omega (arith, are.room, vacancies-placed new stage.places (omega (arith, are.room)));
    of_epoch = are.of_epoch;
    fresh = all-placed (λ r. IsFresh worker epoch r ⊎ IsOne [] r) new stage.places (inl (refl, are.of_epoch)) are.fresh;
  }
    where
      new : HotRecord
      new = promoted_record worker stage key links

      was_hot : (path : List Bool) → path ≢ key_path_in stage.shard key → IsAmong (hot_paths (placed new stage.places)) path → IsAmong (hot_paths stage.places) path
      was_hot path other is = go now.0 now.1 now.2
        where
          now : (r : HotRecord) × (IsOne (hot_records (placed new stage.places)) r) × (path ≡ hot_path r)
          now = member-one hot_path (hot_records (placed new stage.places)) path (among-member _ path is)

          go : (r : HotRecord) → IsOne (hot_records (placed new stage.places)) r → path ≡ hot_path r → IsAmong (hot_paths stage.places) path
          go r one same = further (placed-one new stage.places r one)
            where
              further : (r ≡ new) ⊎ IsOne (hot_records stage.places) r → IsAmong (hot_paths stage.places) path
              further (inl it) = absurd (other (same ∙ ap hot_path it))
              further (inr was) =
                  subst (IsAmong (hot_paths stage.places)) (sym same)
                  (member-among _ _ (one-member hot_path (hot_records stage.places) r was))

      one : (more : ℕ) → IsReady stage more → key_path_in stage.shard key ≢ key_path_in stage.shard more
          → IsReady (done_by digest worker stage (promotes key) links) more
      one more is apart = record {
        in_range = is.in_range;
        own = record { whole = is.own.whole; below = is.own.below };
        cold = λ among. is.cold (was_hot (key_path_in stage.shard more) (λ same. apart (sym same)) among);
        there = subst (λ (b : Bool). IsSome (if b then None else closed (key_path_in stage.shard more)))
            (sym (same_path-apart (key_path_in stage.shard more) (key_path_in stage.shard key) (λ same. apart (sym same))))
            (closed_some digest true stage.shard.records links (last_value stage.shard.value links) (key_path_in stage.shard more) is.there);
        untouched = is.untouched;
      }
        where
          closed : List Bool → Option Value
          closed = closed_records digest true stage.shard.records links (last_value stage.shard.value links)

      all-ready : (more : List ℕ) → AllByRecursion (IsReady stage) more → AllByRecursion (λ other. key_path_in stage.shard key ≢ key_path_in stage.shard other) more
          → AllByRecursion (IsReady (done_by digest worker stage (promotes key) links)) more
      all-ready [] all apart = tt
      all-ready (other ∷ more) all apart = (one other all.0 apart.0, all-ready more all.1 apart.1)

  -- Descents with these transfers can be done, and leave hot records of this worker and this epoch alone.
  pub record GoWell (stage : Stage) (descents : List Descent) : Type 0 where
    pub fit : AreFit longest digest worker stage descents
    pub fresh : AllByRecursion (IsFresh worker epoch) (hot_records (done_by_each digest worker stage descents).places)

  only_fresh : (records : List HotRecord) → AllByRecursion (λ found. IsFresh worker epoch found ⊎ IsOne [] found) records → AllByRecursion (IsFresh worker epoch) records
  only_fresh records all = all-map (λ found. IsFresh worker epoch found ⊎ IsOne [] found) (IsFresh worker epoch) go records all
    where
      go : (found : HotRecord) → IsFresh worker epoch found ⊎ IsOne [] found → IsFresh worker epoch found
      go found (inl is) = is
      go found (inr nothing) = absurd nothing

  transfers_in : List Descent → List Transfer
  transfers_in descents = map (λ (descent : Descent). descent.transfer) descents

  no_descent : {transfer : Transfer} {transfers : List Transfer} → ◌≡◌ {A = List Transfer} [] (transfer ∷ transfers) → ⊥
  no_descent is = cc

  first_transfer : (a b : Transfer) (xs ys : List Transfer) → a ∷ xs ≡ b ∷ ys → a ≡ b
  first_transfer a b xs ys is = cc

  other_transfers : (a b : Transfer) (xs ys : List Transfer) → a ∷ xs ≡ b ∷ ys → xs ≡ ys
  other_transfers a b xs ys is = cc

  hot_go : (keys : List ℕ) (descents : List Descent) (stage : Stage) → map (λ (descent : Descent). descent.transfer) descents ≡ map promotes keys
      → AreReady longest worker epoch stage [] keys → GoWell stage descents
  hot_go [] [] stage is are = record { fit = tt; fresh = only_fresh (hot_records stage.places) are.fresh }
  hot_go [] (descent ∷ descents) stage is are = absurd (no_descent (sym is))
  hot_go (key ∷ keys) [] stage is are = absurd (no_descent is)
  hot_go (key ∷ keys) (descent ∷ descents) stage is are =
      let one : descent.transfer ≡ promotes key = first_transfer _ _ _ _ is in
      let rest = hot_go keys descents (done_by digest worker stage descent.transfer descent.links) (other_transfers _ _ _ _ is)
      (subst (λ (e : Transfer). AreReady longest worker epoch (done_by digest worker stage e descent.links) [] keys) (sym one) (ready-hot stage key descent.links keys are)) in
      record {
        fit = (
          subst (IsFit stage) (sym one) (record {
            in_range = are.ready.0.in_range;
            own = are.ready.0.own;
            cold = are.ready.0.cold;
            there = are.ready.0.there;
            untouched = are.ready.0.untouched;
            room = omega (arith, are.room);
          }),
          rest.fit,
        );
        fresh = rest.fresh;
      }

  pub all_go : (back : List HotRecord) (keys : List ℕ) (descents : List Descent) (stage : Stage)
      → map (λ (descent : Descent). descent.transfer) descents ≡ map demotes back ++ map promotes keys → AreReady longest worker epoch stage back keys → GoWell stage descents
  all_go [] keys descents stage is are = hot_go keys descents stage is are
  all_go (found ∷ back) keys [] stage is are = absurd (no_descent is)
  all_go (found ∷ back) keys (descent ∷ descents) stage is are =
      let one : descent.transfer ≡ demotes found = first_transfer _ _ _ _ is in
      let rest = all_go back keys descents (done_by digest worker stage descent.transfer descent.links) (other_transfers _ _ _ _ is)
      (subst (λ (e : Transfer). AreReady longest worker epoch (done_by digest worker stage e descent.links) back keys) (sym one) (ready-back stage found descent.links back keys are)) in
      record { fit = (subst (IsFit stage) (sym one) are.there.0, rest.fit); fresh = rest.fresh }

-- ---- at the beginning

-- no hot record that was touched has the key of one that was not
one_by_key : (records : List HotRecord) (r other : HotRecord) → AreApart records → IsOne records r → IsOne records other → other.key ≡ r.key → other ≡ r
one_by_key [] r other apart is also same = absurd is
one_by_key (first ∷ records) r other apart (inl one) (inl two) same = two ∙ sym one
one_by_key (first ∷ records) r other apart (inl one) (inr two) same =
    absurd (one_of-all (λ h. h.key ≡ first.key → ⊥) records other apart.0 two (same ∙ ap (λ (h : HotRecord). h.key) one))
one_by_key (first ∷ records) r other apart (inr one) (inl two) same =
    absurd (one_of-all (λ h. h.key ≡ first.key → ⊥) records r apart.0 one (sym same ∙ ap (λ (h : HotRecord). h.key) two))
one_by_key (first ∷ records) r other apart (inr one) (inr two) same = one_by_key records r other apart.1 one two same

all-pass : (test : HotRecord → Bool) (records : List HotRecord) → AllByRecursion (λ r. test r ≡ true) (filter test records)
all-pass test [] = tt
all-pass test (r ∷ records) = go (test r) refl (all-pass test records)
  where
    go : (b : Bool) → test r ≡ b → AllByRecursion (λ other. test other ≡ true) (filter test records)
        → AllByRecursion (λ other. test other ≡ true) (cond b (r ∷ filter test records) (filter test records))
    go true is rest = (is, rest)
    go false is rest = rest

all-both : (P Q R : HotRecord → Type 0) → ((r : HotRecord) → P r → Q r → R r) → (records : List HotRecord) → AllByRecursion P records → AllByRecursion Q records
    → AllByRecursion R records
all-both P Q R step [] one other = tt
all-both P Q R step (r ∷ records) one other = (step r one.0 other.0, all-both P Q R step records one.1 other.1)

touched_apart : (places : List Content) → AreApart (hot_records places)
    → AllByRecursion (λ r. HasNone r.key (untouched_in places)) (touched_in places)
touched_apart places apart =
    all-both (IsOne (hot_records places)) (λ r. is_touched r ≡ true) (λ r. HasNone r.key (untouched_in places)) one (touched_in places)
    (all-order (IsOne (hot_records places)) _ _ (all-filter (IsOne (hot_records places)) is_touched (hot_records places) (all-are (hot_records places))))
    (all-order (λ r. is_touched r ≡ true) _ _ (all-pass is_touched (hot_records places)))
  where
    no_both : (b : Bool) → not b ≡ true → b ≡ true → ⊥
    no_both true is also = false≢true is
    no_both false is also = false≢true also

    one : (r : HotRecord) → IsOne (hot_records places) r → is_touched r ≡ true → HasNone r.key (untouched_in places)
    one r is touched =
        all-both (IsOne (hot_records places)) (λ other. not (is_touched other) ≡ true) (λ other. other.key ≡ r.key → ⊥)
        (λ other also not_touched same. no_both (is_touched other) not_touched
        (ap is_touched (one_by_key (hot_records places) r other apart is also same) ∙ touched))
        (untouched_in places)
        (all_untouched (IsOne (hot_records places)) places (all-are (hot_records places)))
        (all-order (λ other. not (is_touched other) ≡ true) _ _ (all-pass (λ other. not (is_touched other)) (hot_records places)))

-- what isn't renewed is where it was
renewed-there : (worker : ℕ) (clock : Reading) (places : List Content) (records back : List HotRecord)
    → AllByRecursion (IsOne (hot_records places)) back → AllByRecursion (λ r. HasNone r.key back) records
    → AllByRecursion (IsOne (hot_records (renewed_places worker clock places records))) back
renewed-there worker clock places [] back there apart = there
renewed-there worker clock places (found ∷ more) back there apart =
    renewed-there worker (renewing clock found.stamp) _ more back
    (still_there found.key (hot (renewed_record worker clock found)) places back there apart.0) apart.1

renewed-vacancies : (worker : ℕ) (clock : Reading) (places : List Content) (records : List HotRecord)
    → vacancies (renewed_places worker clock places records) ≡ vacancies places
renewed-vacancies worker clock places [] = refl
renewed-vacancies worker clock places (found ∷ more) =
    renewed-vacancies worker (renewing clock found.stamp) _ more ∙ vacancies-hot found.key (renewed_record worker clock found) places

-- ---- the keys that are promotable

all-among : (P : ℕ → Type 0) (keys : List ℕ) → ((key : ℕ) → IsAmong keys key → P key) → AllByRecursion P keys
all-among P [] each = tt
all-among P (key ∷ keys) each = (
  each key (0, (omega arith, refl)),
  all-among P keys (λ other is. each other (suc is.0, (omega (arith, is.1.0), is.1.1))),
)

all-take : {A : Type 0} (P : A → Type 0) (n : ℕ) (xs : List A) → AllByRecursion P xs → AllByRecursion P (take n xs)
all-take P zero xs all = tt
all-take P (suc n) [] all = tt
all-take P (suc n) (x ∷ xs) all = (all.0, all-take P n xs all.1)

length-front : (n : ℕ) (xs : List ℕ) → length (take n xs) ≤ n
length-front zero xs = omega arith
length-front (suc n) [] = omega arith
length-front (suc n) (x ∷ xs) = omega (arith, length-front n xs)

-- keys that rise have paths that are apart
module _ where
  different_keys : (wide : Bool) (keys : List ℕ) → AllPairs (λ a b. a < b) keys → AllByRecursion (λ key. key < 2 ^ key_bits wide) keys
      → AreDifferent (map (key_path wide) keys)
  different_keys wide [] rising small = tt
  different_keys wide (key ∷ keys) rising small = (
    images-all (key_path wide) (λ path. key_path wide key ≢ path) keys (go keys small.1 (λ i d within. rising zero (suc i) d (omega arith) (omega (arith, within)))),
    different_keys wide keys (λ i j d before within. rising (suc i) (suc j) d (omega (arith, before)) (omega (arith, within))) small.1,
  )
    where
      go : (more : List ℕ) → AllByRecursion (λ other. other < 2 ^ key_bits wide) more → ((i d : ℕ) → i < length more → key < get_or more i d)
          → AllByRecursion (λ other. key_path wide key ≢ key_path wide other) more
      go [] all above = tt
      go (other ∷ more) all above = (
        (λ same. let less : key < other = above zero 0 (omega arith) in omega (arith, less, key_path-injective wide key other small.0 all.0 same)),
        go more all.1 (λ i d within. above (suc i) d (omega (arith, within))),
      )

  different-front : (wide : Bool) (n : ℕ) (keys : List ℕ) → AreDifferent (map (key_path wide) keys) → AreDifferent (map (key_path wide) (take n keys))
  different-front wide zero keys different = tt
  different-front wide (suc n) [] different = tt
  different-front wide (suc n) (key ∷ keys) different = (
    images-all (key_path wide) (λ path. key_path wide key ≢ path) (take n keys)
        (all-take (λ other. key_path wide key ≢ key_path wide other) n keys (all-images (key_path wide) (λ path. key_path wide key ≢ path) keys different.0)),
    different-front wide n keys different.1,
  )

-- the hot keys are of the shard's tree once those that were touched are renewed
begun_keys : (longest : ℕ) (digest : Digest) (worker : ℕ) (stage : Stage) → StageMirrors longest digest stage
    → AllByRecursion (HasKeyOf stage.shard) (hot_records (begun worker stage).places)
begun_keys longest digest worker stage mirrors =
    renewed-all (HasKeyOf stage.shard) (λ number clock found has. record { tree = has.tree; range = has.range }) worker stage.clock stage.places (touched_in stage.places)
    (touched_all (HasKeyOf stage.shard) stage.places mirrors.in_range) mirrors.in_range

-- and the same as before
begun_paths : (longest : ℕ) (digest : Digest) (worker : ℕ) (stage : Stage) → StageMirrors longest digest stage
    → hot_paths (begun worker stage).places ≡ hot_paths stage.places
begun_paths longest digest worker stage mirrors =
    paths_in stage.shard (hot_records (begun worker stage).places) (begun_keys longest digest worker stage mirrors)
    ∙ (renewed-keys (key_path_in stage.shard) worker stage.clock stage.places (touched_in stage.places)
    ∙ sym (paths_in stage.shard (hot_records stage.places) mirrors.in_range))

-- the transfers of a move are ready at its beginning
pub begun-ready : (longest : ℕ) (digest : Digest) (worker : ℕ) (threshold : Option ℕ) (stage : Stage) (promotable : List ℕ)
    → IfSome threshold (λ least. 0 < least) → StageMirrors longest digest stage → AreApart (hot_records stage.places) → ArePromotable stage threshold promotable
    → AreReady longest worker stage.clock.at.epoch (begun worker stage) (untouched_in stage.places)
    (take (vacancies stage.places + length (untouched_in stage.places)) promotable)
begun-ready longest digest worker threshold stage promotable some mirrors apart are = record {
  there = renewed-there worker stage.clock stage.places touched back (all_untouched (IsOne (hot_records stage.places)) stage.places (all-are (hot_records stage.places)))
      (touched_apart stage.places apart);
  apart = apart_untouched stage.places apart;
  ready = all-take (IsReady (begun worker stage)) most promotable (all-among (IsReady (begun worker stage)) promotable (λ key is. ready key ((are.promotable key).0 is)));
  different = different-front (wide_in stage.shard) most promotable (different_keys (wide_in stage.shard) promotable are.rising
      (all-among (λ key. key < 2 ^ key_bits (wide_in stage.shard)) promotable (λ key is. small threshold key ((are.promotable key).0 is))));
  room = omega (arith, length-front most promotable, renewed-vacancies worker stage.clock stage.places touched);
  of_epoch = renewing_each-epoch stage.clock touched;
  fresh = renewed-fresh worker stage.clock stage.places touched back
      (all-map (IsOne (touched ++ back)) (λ found. IsFresh worker stage.clock.at.epoch found ⊎ IsOne (touched ++ back) found) (λ found is. inr is)
      (hot_records stage.places) (all_split stage.places));
}
  where
    touched : List HotRecord
    touched = touched_in stage.places

    back : List HotRecord
    back = untouched_in stage.places

    most : ℕ
    most = vacancies stage.places + length (untouched_in stage.places)

    same_hot : hot_paths (begun worker stage).places ≡ hot_paths stage.places
    same_hot = begun_paths longest digest worker stage mirrors

    small : (least : Option ℕ) (key : ℕ) → IsPromotable stage least key → key < 2 ^ key_bits (wide_in stage.shard)
    small None key is = absurd is
    small (Some least) key is = is.in_range

    ready : (key : ℕ) → IsPromotable stage threshold key → IsReady (begun worker stage) key
    ready key is = go threshold some is
      where
        go : (least : Option ℕ) → IfSome least (λ n. 0 < n) → IsPromotable stage least key → IsReady (begun worker stage) key
        go None positive promotable' = absurd promotable'
        go (Some least) positive promotable' = record {
          in_range = promotable'.in_range;
          own = record { whole = promotable'.own.whole; below = promotable'.own.below };
          cold = λ among. promotable'.cold (subst (λ (paths : List (List Bool)). IsAmong paths (key_path_in stage.shard key)) same_hot among);
          there = mirrors.shard.mirrors.touched (key_path_in stage.shard key) (omega (arith, positive, promotable'.often));
          untouched = refl;
        }

-- ---- the stage once the frontier is taken in

-- it mirrors
pub begun_mirrors : (longest : ℕ) (digest : Digest) (worker : ℕ) (stage : Stage) → StageMirrors longest digest stage → StageMirrors longest digest (begun worker stage)
begun_mirrors longest digest worker stage mirrors = record {
  shard = record {
    fits = record { below_root = mirrors.shard.fits.below_root; no_data = mirrors.shard.fits.no_data; kinds = mirrors.shard.fits.kinds };
    mirrors = subst (Mirrors digest (begun worker stage).shard) (sym (begun_paths longest digest worker stage mirrors))
        (record {
          kept = mirrors.shard.mirrors.kept;
          waits = mirrors.shard.mirrors.waits;
          reached = mirrors.shard.mirrors.reached;
          hot_waits = mirrors.shard.mirrors.hot_waits;
          hot_keys = mirrors.shard.mirrors.hot_keys;
          touched = λ path some. absurd (omega (arith, some));
        });
  };
  blobs = renewed-all (λ found. IsBlob longest found.value) (λ number clock found is. is) worker stage.clock stage.places (touched_in stage.places)
      (touched_all (λ found. IsBlob longest found.value) stage.places mirrors.blobs) mirrors.blobs;
  in_range = have_keys-on stage.shard (begun worker stage).shard refl (hot_records (begun worker stage).places) (begun_keys longest digest worker stage mirrors);
}

-- What is hot behind a move was handed out in it.
pub move_fresh : (longest : ℕ) (digest : Digest) (worker : ℕ) (threshold : Option ℕ) (stage : Stage) (promotable : List ℕ) (descents : List Descent)
    → IfSome threshold (λ least. 0 < least) → StageMirrors longest digest stage → ArePromotable stage threshold promotable
    → map (λ (descent : Descent). descent.transfer) descents ≡ transfers_of stage promotable
    → AllByRecursion (IsFresh worker stage.clock.at.epoch) (hot_records (done_by_each digest worker (begun worker stage) descents).places)
move_fresh longest digest worker threshold stage promotable descents some mirrors are is =
    (all_go longest digest worker stage.clock.at.epoch (untouched_in stage.places) (take (vacancies stage.places + length (untouched_in stage.places)) promotable) descents (begun worker stage)
    is (begun-ready longest digest worker threshold stage promotable some mirrors (apart_by_number longest digest worker stage mirrors) are)).fresh

-- Descents that are the transfers of a move can be done, each when its turn comes.
pub move_fits : (longest : ℕ) (digest : Digest) (worker : ℕ) (threshold : Option ℕ) (stage : Stage) (promotable : List ℕ) (descents : List Descent)
    → IfSome threshold (λ least. 0 < least) → StageMirrors longest digest stage → ArePromotable stage threshold promotable
    → map (λ (descent : Descent). descent.transfer) descents ≡ transfers_of stage promotable → AreFit longest digest worker (begun worker stage) descents
move_fits longest digest worker threshold stage promotable descents some mirrors are is =
    (all_go longest digest worker stage.clock.at.epoch (untouched_in stage.places) (take (vacancies stage.places + length (untouched_in stage.places)) promotable) descents (begun worker stage)
    is (begun-ready longest digest worker threshold stage promotable some mirrors (apart_by_number longest digest worker stage mirrors) are)).fit
