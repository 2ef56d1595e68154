-- What a request and a move make of the data values that are held.
use Rattle.std.proofs.Common.{◌≡◌, ◌≢◌, ◌⊎◌, ℕ, ◌^◌, ◌<◌, Bool, true, false, List, [], ◌∷◌, get_or, set, Option, Some, None, IsSome, IfSome, not, refl, sym, ◌∙◌, ap, subst, inl, inr, if◌then◌else◌}
use Rattle.std.specs.Prelude.{nat_eq, ◌&&◌}
use Rattle.std.specs.List.{IsAmong}
use Rattle.std.specs.Map.{update}
use Rattle.std.proofs.lemmas.Bool.{cases_eq, eq-eqb, ne_eqb, false≢true, true≢false}
use Rattle.tree_keys.specs.Path as paths
use Rattle.tree_keys.specs.Path.{key_bits, key_path, IsBelow, IsData}
use Rattle.tree_keys.proofs.PathLaws.{same_path-apart}
use Rattle.tree_keys.proofs.TreeLaws.{key_path-data, key_path-injective}
use Rattle.lamport_clocks.specs.Reading.{Reading}
use Rattle.log_codec.specs.declared.command.Command.{Command}
use Rattle.record_text.specs.declared.request.Request.{Request}
use Rattle.record_text.specs.declared.value.Value.{Value}
use Rattle.record_text.specs.declared.value.Value.TheVariants as values
use Rattle.merkle_records.specs.Merkle.{Digest, GivesDigests}
use Rattle.verifier_commands.specs.Outcome.{blob_of}
use Rattle.soundness.specs.World.{Stored, blob_in}
use Rattle.host_shard.specs.declared.link.Link.{Link}
use Rattle.host_shard.specs.declared.content.HotRecord.{HotRecord}
use Rattle.host_shard.specs.Tree.{Tree}
use Rattle.host_shard.specs.Chain.{IsChain, last_value, closed_records}
use Rattle.host_shard.specs.Shard.{key_path_in, wide_in, Shard, tree_of}
use Rattle.host_shard.specs.Content.{hot_path, Content, cold, hot, vacant}
use Rattle.host_shard.specs.Mirrors.{HasKeyOf}
use Rattle.host_plan.specs.Plan.{IsServable}
use Rattle.host_plan.specs.Request.{is_missed, value_after, gone_along, served, served_hot}
use Rattle.protection_moves.proofs.TouchedLaws.{all-filter, all-order}
use Rattle.protection_moves.specs.Stage.{Stage, hot_records, hot_paths, touched_in, is_touched, replaced, placed}
use Rattle.protection_moves.specs.Transfer.{Transfer, demotes, promotes}
use Rattle.protection_moves.specs.Descent.{Descent, data_of, with_back, promoted_record, done_by, done_by_each, AreDescents}
use Rattle.protection_moves.specs.Descent as descent
use Rattle.protection_moves.specs.Move.{begun, IsMove}
use Rattle.move_laws.specs.Stages.{StageMirrors, IsOne}
use Rattle.move_laws.specs.Transfers.{IsPromotable, IsFit}
use Rattle.move_laws.proofs.PlaceLaws.{HasNone, AreApart, all-are, apart-filter, apart-order, one_of-all}
use Rattle.move_laws.proofs.TransferLaws.{transfer_mirrors}
use Rattle.move_laws.proofs.DescentLaws.{AreFit, apart_by_number, each-frontier}
use Rattle.move_laws.proofs.KeyLaws.{path_in, range_in}
use Rattle.move_laws.proofs.FitLaws.{begun_mirrors, move_fits}
use Rattle.host_laws.proofs.StayLaws.{found_gone}
use Rattle.host_holds.specs.Holding.{hot_record_of, value_or, held_value, stored_after}
use Rattle.host_holds.proofs.ChainLemmas.{others_stay, ends_with, some_link, finds}
use Rattle.host_holds.proofs.HotLaws.{none_hot, hot-none, hot-found, others-replaced, vacant-none, hot-placed, others-placed, own-set, others-set, renewed-values}

-- ---- keys

-- keys in range that are apart have paths that are
paths_apart : (wide : Bool) (a b : ℕ) → a < 2 ^ key_bits wide → b < 2 ^ key_bits wide → (a ≡ b → ⊥) → key_path wide a ≢ key_path wide b
paths_apart wide a b small_a small_b apart same = apart (key_path-injective wide a b small_a small_b same)

data_is : (value : Value) → data_of value ≡ blob_of value
data_is (values.Blob blob) = refl
data_is (values.Node node) = refl

-- what a stage holds of a key
abbrev held_at : Stage → ℕ → Option (List ℕ)
held_at stage key = held_value (cold stage.shard ∷ stage.places) key

-- a get leaves all, and a put all but its key's
set_own : (request : Request) (stored : Stored) (value : Option (List ℕ))
    → (request.put ≡ true → value ≡ request.value) → (request.put ≡ false → value ≡ stored request.key) → value ≡ stored_after request stored request.key
set_own request stored value put get = go request.put put get
  where
    go : (b : Bool) → (b ≡ true → value ≡ request.value) → (b ≡ false → value ≡ stored request.key)
        → value ≡ (if b then update nat_eq stored request.key request.value else stored) request.key
    go true put get = put refl ∙ sym (ap (λ (b : Bool). if b then request.value else stored request.key) (eq-eqb request.key request.key refl))
    go false put get = get refl

set_other : (request : Request) (stored : Stored) (key : ℕ) → (key ≡ request.key → ⊥) → stored key ≡ stored_after request stored key
set_other request stored key apart = go request.put
  where
    go : (b : Bool) → stored key ≡ (if b then update nat_eq stored request.key request.value else stored) key
    go true = sym (ap (λ (b : Bool). if b then request.value else stored key) (ne_eqb request.key key (λ same. apart (sym same))))
    go false = refl

module _ (longest : ℕ) (digest : Digest) (worker : ℕ) (stage : Stage) (mirrors : StageMirrors longest digest stage) where
  abbrev shard : Shard
  shard = stage.shard

  abbrev places : List Content
  places = stage.places

  apart : AreApart (hot_records places)
  apart = apart_by_number longest digest worker stage mirrors

  -- ---- a request

  module _ (absent : Bool) (request : Request) (clock : Reading) (links : List Link) (small : request.key < 2 ^ key_bits (wide_in shard)) where
    -- at the shard
    pub shard_served : (IsAmong (hot_paths places) (key_path_in shard request.key) → ⊥)
        → IsChain (tree_of shard) (key_path_in shard request.key) shard.frontier shard.value links
        → (key : ℕ) → key < 2 ^ key_bits (wide_in shard)
        → held_value (cold (served digest worker shard links request clock (is_missed absent shard links request)) ∷ places) key
        ≡ stored_after request (held_value (cold shard ∷ places)) key
    shard_served cold_there chain key in_range = go (is_missed absent shard links request) refl (cases_eq key request.key)
      where
        path : List Bool
        path = key_path_in shard request.key

        last : Value
        last = value_after request (last_value shard.value links)

        none : hot_record_of request.key places ≡ None
        none = hot-none request.key places (none_hot shard request.key places mirrors.in_range cold_there)

        held_there : held_value (cold shard ∷ places) request.key ≡ blob_in (shard.records path)
        held_there = ap (λ (o : Option HotRecord). value_or o (shard.records path)) none

        missed_get : (a b c : Bool) → ((a && not b) && c) ≡ true → b ≡ false
        missed_get true false c is = refl
        missed_get true true c is = absurd (false≢true is)
        missed_get false b c is = absurd (false≢true is)

        ended : closed_records digest false shard.records links last path ≡ Some last
        ended = some_link longest shard (tree_of shard) path shard.value links (λ all. closed_records digest false shard.records all last path ≡ Some last)
            mirrors.shard.fits (key_path-data (wide_in shard) request.key) chain
            (λ link rest way. ends_with (tree_of shard) path digest false shard.records shard.frontier shard.value link rest last way)

        blob_put : (b : Bool) → b ≡ true → blob_of (if b then values.Blob request.value else last_value shard.value links) ≡ request.value
        blob_put true is = refl
        blob_put false is = absurd (false≢true is)

        blob_get : (b : Bool) → b ≡ false → blob_of (if b then values.Blob request.value else last_value shard.value links) ≡ blob_of (last_value shard.value links)
        blob_get true is = absurd (true≢false is)
        blob_get false is = refl

        below : IsBelow shard.frontier path
        below = some_link longest shard (tree_of shard) path shard.value links (λ all. IsBelow shard.frontier path) mirrors.shard.fits (key_path-data (wide_in shard) request.key) chain
            (λ link rest way. subst IsSome (sym way.0.on_side) refl)

        can : IsServable longest digest shard path
        can = record {
          hot = hot_paths places;
          fits = mirrors.shard.fits;
          mirrors = mirrors.shard.mirrors;
          own = record { whole = key_path-data (wide_in shard) request.key; below = below };
          cold = cold_there;
        }

        closed : (key ≡ request.key) ⊎ (key ≡ request.key → ⊥)
            → value_or (hot_record_of key places) (closed_records digest false shard.records links last (key_path_in shard key))
            ≡ stored_after request (held_value (cold shard ∷ places)) key
        closed (inl same) =
            subst (λ (k : ℕ). value_or (hot_record_of k places) (closed_records digest false shard.records links last (key_path_in shard k)) ≡ stored_after request (held_value (cold shard ∷ places)) k) (sym same)
            (ap (λ (o : Option HotRecord). value_or o (closed_records digest false shard.records links last path)) none
            ∙ (ap blob_in ended
            ∙ set_own request (held_value (cold shard ∷ places)) (blob_of last)
            (blob_put request.put)
            (λ get. blob_get request.put get
            ∙ (finds longest shard path links mirrors.shard.fits (key_path-data (wide_in shard) request.key) mirrors.shard.mirrors.reached chain ∙ sym held_there))))
        closed (inr other) =
            ap (value_or (hot_record_of key places))
            (others_stay (tree_of shard) path digest false shard.records shard.frontier shard.value links last (key_path_in shard key)
            (key_path-data (wide_in shard) request.key) (key_path-data (wide_in shard) key) (paths_apart (wide_in shard) key request.key in_range small other) chain)
            ∙ set_other request (held_value (cold shard ∷ places)) key other

        go : (b : Bool) → is_missed absent shard links request ≡ b → (key ≡ request.key) ⊎ (key ≡ request.key → ⊥)
            → value_or (hot_record_of key places) ((gone_along digest shard links request b).records (key_path_in shard key))
            ≡ stored_after request (held_value (cold shard ∷ places)) key
        go true missed same =
            sym (ap (λ (b : Bool). (if b then update nat_eq (held_value (cold shard ∷ places)) request.key request.value else held_value (cold shard ∷ places)) key)
            (missed_get absent request.put _ missed))
        go false gone same =
            ap (λ (left : Shard). value_or (hot_record_of key places) (left.records (key_path_in shard key))) (found_gone longest digest shard links request can chain)
            ∙ closed same

  module _ (request : Request) (clock : Reading) where
    -- at a hot place
    pub hot_served : (i : ℕ) (found : HotRecord) → get_or places i vacant ≡ hot found → found.key ≡ request.key
        → (key : ℕ) → held_value (cold shard ∷ set places i (hot (served_hot worker found request clock))) key
        ≡ stored_after request (held_value (cold shard ∷ places)) key
    hot_served i found there own key = go (cases_eq key request.key)
      where
        new : HotRecord
        new = served_hot worker found request clock

        set_there : IsOne (hot_records places) found × (hot_record_of new.key (set places i (hot new)) ≡ Some new)
        set_there = own-set places i found new there refl apart

        held_there : held_value (cold shard ∷ places) request.key ≡ found.value
        held_there =
            ap (λ (k : ℕ). held_value (cold shard ∷ places) k) (sym own)
            ∙ ap (λ (o : Option HotRecord). value_or o (shard.records (key_path_in shard found.key))) (hot-found places found set_there.0 apart)

        put_it : (b : Bool) → b ≡ true → (if b then request.value else found.value) ≡ request.value
        put_it true is = refl
        put_it false is = absurd (false≢true is)

        got : (b : Bool) → b ≡ false → (if b then request.value else found.value) ≡ found.value
        got true is = absurd (true≢false is)
        got false is = refl

        go : (key ≡ request.key) ⊎ (key ≡ request.key → ⊥)
            → value_or (hot_record_of key (set places i (hot new))) (shard.records (key_path_in shard key)) ≡ stored_after request (held_value (cold shard ∷ places)) key
        go (inl same) =
            subst (λ (k : ℕ). value_or (hot_record_of k (set places i (hot new))) (shard.records (key_path_in shard k)) ≡ stored_after request (held_value (cold shard ∷ places)) k) (sym same)
            (subst (λ (k : ℕ). value_or (hot_record_of k (set places i (hot new))) (shard.records (key_path_in shard k)) ≡ new.value) own
            (ap (λ (o : Option HotRecord). value_or o (shard.records (key_path_in shard found.key))) set_there.1)
            ∙ set_own request (held_value (cold shard ∷ places)) new.value (put_it request.put) (λ get. got request.put get ∙ sym held_there))
        go (inr other) =
            ap (λ (o : Option HotRecord). value_or o (shard.records (key_path_in shard key)))
            (others-set places i found new key there refl (λ same. other (same ∙ own)))
            ∙ set_other request (held_value (cold shard ∷ places)) key other

  -- ---- a transfer

  module _ (key : ℕ) (in_range : key < 2 ^ key_bits (wide_in shard)) where
    -- a record that comes back comes with its value
    demoted : (found : HotRecord) (links : List Link) → IsOne (hot_records places) found
        → IsChain (tree_of (with_back shard found)) (hot_path found) shard.frontier shard.value links
        → held_at (done_by digest worker stage (demotes found) links) key ≡ held_at stage key
    demoted found links is chain = go (cases_eq key found.key)
      where
        path : List Bool
        path = hot_path found

        back : Tree
        back = (with_back shard found).records

        now : List Content
        now = replaced found.key vacant places

        has : HasKeyOf stage.shard found
        has = one_of-all (HasKeyOf stage.shard) (hot_records places) found mirrors.in_range is

        whole : IsData path
        whole = key_path-data found.wide found.key

        ended : closed_records digest false back links (values.Blob found.value) path ≡ Some (values.Blob found.value)
        ended = some_link longest shard (tree_of (with_back shard found)) path shard.value links
            (λ all. closed_records digest false back all (values.Blob found.value) path ≡ Some (values.Blob found.value))
            mirrors.shard.fits (whole) chain
            (λ link rest way. ends_with (tree_of (with_back shard found)) path digest false back shard.frontier shard.value link rest (values.Blob found.value) way)

        go : (key ≡ found.key) ⊎ (key ≡ found.key → ⊥)
            → value_or (hot_record_of key now) (closed_records digest false back links (values.Blob found.value) (key_path_in shard key)) ≡ held_at stage key
        go (inl same) =
            subst (λ (k : ℕ). value_or (hot_record_of k now) (closed_records digest false back links (values.Blob found.value) (key_path_in shard k)) ≡ held_at stage k) (sym same)
            (ap (λ (o : Option HotRecord). value_or o (closed_records digest false back links (values.Blob found.value) (key_path_in shard found.key))) (vacant-none found.key places)
            ∙ (ap (λ (k : List Bool). blob_in (closed_records digest false back links (values.Blob found.value) k)) (sym (path_in shard found has))
            ∙ (ap blob_in ended
            ∙ sym (ap (λ (o : Option HotRecord). value_or o (shard.records (key_path_in shard found.key))) (hot-found places found is apart)))))
        go (inr other) =
            let away : key_path_in shard key ≢ path =
            (λ same. paths_apart (wide_in shard) key found.key in_range (range_in shard found has) other (same ∙ path_in shard found has)) in
            ap (value_or (hot_record_of key now))
            (others_stay (tree_of (with_back shard found)) path digest false back shard.frontier shard.value links (values.Blob found.value) (key_path_in shard key)
            (whole) (key_path-data (wide_in shard) key) away chain
            ∙ ap (λ (b : Bool). if b then Some (values.Blob found.value) else shard.records (key_path_in shard key)) (same_path-apart (key_path_in shard key) path away))
            ∙ ap (λ (o : Option HotRecord). value_or o (shard.records (key_path_in shard key))) (others-replaced found.key key vacant places other refl)

    -- a record that becomes hot leaves with its value
    promoted : (hot_key : ℕ) (links : List Link) → IsPromotable stage hot_key
        → IsChain (tree_of shard) (key_path_in shard hot_key) shard.frontier shard.value links
        → held_at (done_by digest worker stage (promotes hot_key) links) key ≡ held_at stage key
    promoted hot_key links fit chain = go (cases_eq key hot_key)
      where
        path : List Bool
        path = key_path_in shard hot_key

        new : HotRecord
        new = promoted_record worker stage hot_key links

        no_one : HasNone hot_key (hot_records places)
        no_one = none_hot shard hot_key places mirrors.in_range fit.cold

        left : Tree
        left = (done_by digest worker stage (promotes hot_key) links).shard.records

        go : (key ≡ hot_key) ⊎ (key ≡ hot_key → ⊥) → value_or (hot_record_of key (placed new places)) (left (key_path_in shard key)) ≡ held_at stage key
        go (inl same) =
            subst (λ (k : ℕ). value_or (hot_record_of k (placed new places)) (left (key_path_in shard k)) ≡ held_at stage k) (sym same)
            (ap (λ (o : Option HotRecord). value_or o (left path)) (hot-placed new places no_one fit.room)
            ∙ (data_is (last_value shard.value links)
            ∙ (finds longest shard path links mirrors.shard.fits (key_path-data (wide_in shard) hot_key) mirrors.shard.mirrors.reached chain
            ∙ sym (ap (λ (o : Option HotRecord). value_or o (shard.records path)) (hot-none hot_key places no_one)))))
        go (inr other) =
            let away = paths_apart (wide_in shard) key hot_key in_range fit.in_range other in
            ap (value_or (hot_record_of key (placed new places)))
            (ap (λ (b : Bool). if b then None else closed_records digest true shard.records links (last_value shard.value links) (key_path_in shard key))
            (same_path-apart (key_path_in shard key) path away)
            ∙ others_stay (tree_of shard) path digest true shard.records shard.frontier shard.value links (last_value shard.value links) (key_path_in shard key)
            (key_path-data (wide_in shard) hot_key) (key_path-data (wide_in shard) key) away chain)
            ∙ ap (λ (o : Option HotRecord). value_or o (shard.records (key_path_in shard key))) (others-placed new key places other)

    pub transferred : (transfer : Transfer) (links : List Link) → IsFit stage transfer → descent.AreLinks shard transfer links
        → held_at (done_by digest worker stage transfer links) key ≡ held_at stage key
    transferred (demotes found) links fit chain = demoted found links fit chain
    transferred (promotes hot_key) links fit chain = promoted hot_key links fit chain

    -- the touched hot records keep their values
    begun_same : held_at (begun worker stage) key ≡ held_at stage key
    begun_same =
        renewed-values worker stage.clock key (shard.records (key_path_in shard key)) places (touched_in places)
        (all-order (IsOne (hot_records places)) _ _ (all-filter (IsOne (hot_records places)) is_touched (hot_records places) (all-are (hot_records places))))
        (apart-order _ _ (apart-filter is_touched (hot_records places) apart)) apart

-- ---- a move

each_same : (longest : ℕ) (digest : Digest) (worker : ℕ) (stage : Stage) (descents : List Descent) (key : ℕ) → key < 2 ^ key_bits (wide_in stage.shard) → GivesDigests digest
    → StageMirrors longest digest stage → AreFit longest digest worker stage descents → AreDescents digest worker stage descents
    → held_at (done_by_each digest worker stage descents) key ≡ held_at stage key
each_same longest digest worker stage [] key in_range digests mirrors fit ways = refl
each_same longest digest worker stage (one ∷ descents) key in_range digests mirrors fit ways =
    each_same longest digest worker (done_by digest worker stage one.transfer one.links) descents key
    (subst (λ (frontier : List Bool). key < 2 ^ key_bits (paths.tree_of frontier)) (sym (each-frontier longest digest worker stage (one ∷ []))) in_range) digests
    (transfer_mirrors longest digest worker stage one.transfer one.links digests mirrors fit.0 ways.0) fit.1 ways.1
    ∙ transferred longest digest worker stage mirrors key in_range one.transfer one.links fit.0 ways.0

-- A move keeps the data value of each key.
pub move_same : (longest : ℕ) (digest : Digest) (worker : ℕ) (threshold : Option ℕ) (old new : Stage) (commands : List Command) (key : ℕ) → key < 2 ^ key_bits (wide_in old.shard)
    → GivesDigests digest → IfSome threshold (λ least. 0 < least) → StageMirrors longest digest old → IsMove digest worker threshold old commands new
    → held_value (cold new.shard ∷ new.places) key ≡ held_value (cold old.shard ∷ old.places) key
move_same longest digest worker threshold old new commands key in_range digests some mirrors is =
    ap (λ (stage : Stage). held_at stage key) is.after
    ∙ (each_same longest digest worker (begun worker old) is.descents key in_range digests (begun_mirrors longest digest worker old mirrors)
    (move_fits longest digest worker threshold old is.promotable is.descents some mirrors is.are_promotable is.transfers) is.ways
    ∙ begun_same longest digest worker old mirrors key in_range)
