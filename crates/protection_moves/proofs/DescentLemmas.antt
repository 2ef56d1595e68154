-- A descent along a chain: its commands are commands, and what it leaves of the shard is a shard.
use Rattle.std.proofs.Common.{◌≡◌, ℕ, suc, ◌<◌, ◌^◌, Bool, true, false, List, [], ◌∷◌, ◌++◌, length, ◌-◌, Option, Some, None, IsSome, if◌then◌else◌, refl, sym, ◌∙◌, ap, subst, arith}
use Rattle.std.proofs.lemmas.Bool.{false≢true}
use Rattle.std.proofs.lemmas.Option.{none-some, same_Some}
use Rattle.std.proofs.Math.Path.{fun_ext}
use Rattle.std.specs.Prelude.{slice_get}
use Rattle.std.specs.List.{AllByRecursion}
use Rattle.tree_keys.specs.Path as paths
use Rattle.tree_keys.specs.Bits.{bits_of}
use Rattle.tree_keys.specs.Path.{key_path, key_bits, depth, side, same_path, IsData, IsPath}
use Rattle.tree_keys.proofs.PathLaws.{same_path-true}
use Rattle.tree_keys.proofs.TreeLaws.{data-path, node-path}
use Rattle.lamport_clocks.specs.declared.stamp.Stamp.{Stamp}
use Rattle.record_text.specs.declared.element.Element.{Element}
use Rattle.record_text.specs.declared.value.Pointer.{Pointer}
use Rattle.record_text.specs.declared.value.Value.{Value}
use Rattle.record_text.specs.declared.value.Value.TheVariants as values
use Rattle.record_text.specs.Value.{IsOf}
use Rattle.record_text.specs.Element.{IsStamp}
use Rattle.record_text.specs.Longest.{longest_blob}
use Rattle.log_codec.specs.declared.command.Command.{Command}
use Rattle.log_codec.specs.Command.{IsPathCommand}
use Rattle.merkle_records.specs.Merkle.{Digest, GivesDigests, pointer_to, deferred_pointer}
use Rattle.merkle_records.proofs.KindLaws.{is_prefix-side, IsOf-with_side}
use Rattle.host_shard.specs.declared.link.Link.{Link}
use Rattle.host_shard.specs.declared.content.HotRecord.{HotRecord}
use Rattle.host_shard.specs.Tree.{Tree}
use Rattle.host_shard.specs.Chain.{IsChain, aimed, aimed_on, last_value, closed_value, closed_records}
use Rattle.host_shard.specs.Shard.{wide_in, key_path_in, Shard, tree_of, rehashed}
use Rattle.host_shard.specs.Content.{hot_path, pending_hot}
use Rattle.host_shard.specs.Mirrors.{IsShard, IsKeyOf}
use Rattle.host_shard.proofs.ShardLaws.{rehashed_is}
use Rattle.host_shard.proofs.ChainLaws.{AreOf, frontier_kind, next_of}
use Rattle.protection_moves.specs.declared.saving.Saved.{Saved}
use Rattle.protection_moves.specs.declared.saving.SavedRecord.{SavedRecord}
use Rattle.protection_moves.specs.Descent.{visit_but_last, come_back, become_hot, without_record, with_back, shard_without}
use Rattle.protection_moves.specs.Lending.{IsReturning}
use Rattle.protection_moves.specs.Turn.{last_path, deferring, IsLent, shard_but}
use Rattle.protection_moves.specs.Saving.{saved_along, CanRestore, IsSavedOf}
use Rattle.protection_moves.proofs.SavingLemmas.{closed_there, closed_elsewhere, saved_was, elsewhere_links}

-- ---- commands

-- the path of a value isn't longer than the keys of its tree
length-IsOf : (longest : ℕ) (path : List Bool) (value : Value) → IsOf longest path value → IsPath path
length-IsOf longest path (values.Blob blob) kind = data-path path kind.0
length-IsOf longest path (values.Node node) kind = node-path path kind.0

-- all of two lists joined
pub AllByRecursion-append : {X : Type 0} (P : X → Type 0) (xs ys : List X) → AllByRecursion P xs → AllByRecursion P ys → AllByRecursion P (xs ++ ys)
AllByRecursion-append P [] ys hs gs = gs
AllByRecursion-append P (x ∷ xs) ys hs gs = (hs.0, AllByRecursion-append P xs ys hs.1 gs)

-- a chain that is gone along, where what is done at its end is made of commands
visit_typed : (longest : ℕ) (tree : Tree) (key at : List Bool) (value : Value) (links : List Link) (turn : List Bool → Link → List Command)
    → IsData key → AreOf longest tree → IsOf longest at value → IsChain tree key at value links
    → ((from : List Bool) (link : Link) → IsPath from → IsOf longest link.path link.value → AllByRecursion (IsPathCommand longest) (turn from link))
    → AllByRecursion (IsPathCommand longest) (visit_but_last at links turn)
visit_typed longest tree key at value [] turn whole kinds kind chain typed = tt
visit_typed longest tree key at value (link ∷ []) turn whole kinds kind chain typed =
    typed at link (length-IsOf longest at value kind) (next_of longest tree key at value link whole kinds kind chain.0).value
visit_typed longest tree key at value (link ∷ next ∷ links) turn whole kinds kind chain typed =
    let this = next_of longest tree key at value link whole kinds kind chain.0 in
    let above = length-IsOf longest at value kind in
    let path = length-IsOf longest link.path link.value this.value in (
      (this.value, above),
      AllByRecursion-append (IsPathCommand longest) (visit_but_last link.path (next ∷ links) turn) _
          (visit_typed longest tree key link.path link.taken (next ∷ links) turn whole kinds this.taken chain.1 typed)
          ((path, above), tt),
    )

come_back_typed : (longest : ℕ) (element : Element) (from : List Bool) (link : Link) → IsOf longest element.path element.value → IsStamp element.stamp → element.verifier < 2 ^ 16
    → IsPath from → IsOf longest link.path link.value → AllByRecursion (IsPathCommand longest) (come_back element from link)
come_back_typed longest element from link kind stamp verifier above value = ((kind, stamp, verifier), ((length-IsOf longest link.path link.value value, above), tt))

become_hot_typed : (longest : ℕ) (stamp : Stamp) (from : List Bool) (link : Link) → IsStamp stamp
    → IsPath from → IsOf longest link.path link.value → AllByRecursion (IsPathCommand longest) (become_hot stamp from link)
become_hot_typed longest stamp from link stamped above value = ((value, above), ((length-IsOf longest link.path link.value value, above, stamped), tt))

-- behind commands those of a descent are logged
pub back_typed : (longest : ℕ) (shard : Shard) (key : List Bool) (links : List Link) (element : Element) (before after : List Command)
    → IsShard longest shard → IsData key → IsChain (tree_of shard) key shard.frontier shard.value links
    → IsOf longest element.path element.value → IsStamp element.stamp → element.verifier < 2 ^ 16
    → after ≡ before ++ visit_but_last shard.frontier links (come_back element)
    → AllByRecursion (IsPathCommand longest) before → AllByRecursion (IsPathCommand longest) after
back_typed longest shard key links element before after fits whole chain kind stamp verifier is typed =
    subst (AllByRecursion (IsPathCommand longest)) (sym is)
    (AllByRecursion-append (IsPathCommand longest) before _ typed
    (visit_typed longest (tree_of shard) key shard.frontier shard.value links (come_back element) whole fits.kinds (frontier_kind longest shard fits.kinds) chain
    (λ from link. come_back_typed longest element from link kind stamp verifier)))

pub hot_typed : (longest : ℕ) (shard : Shard) (key : List Bool) (links : List Link) (stamp : Stamp) (before after : List Command)
    → IsShard longest shard → IsData key → IsChain (tree_of shard) key shard.frontier shard.value links → IsStamp stamp
    → after ≡ before ++ visit_but_last shard.frontier links (become_hot stamp)
    → AllByRecursion (IsPathCommand longest) before → AllByRecursion (IsPathCommand longest) after
hot_typed longest shard key links stamp before after fits whole chain stamped is typed =
    subst (AllByRecursion (IsPathCommand longest)) (sym is)
    (AllByRecursion-append (IsPathCommand longest) before _ typed
    (visit_typed longest (tree_of shard) key shard.frontier shard.value links (become_hot stamp) whole fits.kinds (frontier_kind longest shard fits.kinds) chain
    (λ from link. become_hot_typed longest stamp from link stamped)))

-- ---- a chain whose last record is lent

-- the chain's last path is the key
last_key : (tree : Tree) (key at : List Bool) (value : Value) (above : List Link) (link : Link)
    → IsChain tree key at value (above ++ link ∷ []) → link.path ≡ key
last_key tree key at value [] link chain = chain.1
last_key tree key at value (first ∷ above) link chain = last_key tree key first.path first.taken above link chain.1

-- the value of the path at the start, whether the chain is rehashed whole or up to the link before
pub lent_value : (digest : Digest) (at : List Bool) (value : Value) (above : List Link) (link : Link) (last : Value)
    → closed_value digest true at value (above ++ link ∷ []) last
    ≡ closed_value digest false at value above (deferring digest (last_path at above) (last_value value above) link)
lent_value digest at value [] link last = refl
lent_value digest at value (first ∷ []) link last =
    ap (λ (v : Value). aimed at value (pointer_to digest first.path v)) (lent_value digest first.path first.taken [] link last)
lent_value digest at value (first ∷ second ∷ above) link last =
    ap (λ (v : Value). aimed at value (pointer_to digest first.path v)) (lent_value digest first.path first.taken (second ∷ above) link last)

-- and each record but the last
lent_record : (digest : Digest) (tree : Tree) (at : List Bool) (value : Value) (above : List Link) (link : Link) (last : Value) (k : List Bool)
    → same_path k link.path ≡ false
    → closed_records digest true tree (above ++ link ∷ []) last k
    ≡ closed_records digest false tree above (deferring digest (last_path at above) (last_value value above) link) k
lent_record digest tree at value [] link last k apart = ap (λ (b : Bool). if b then Some (closed_value digest true link.path link.taken [] last) else tree k) apart
lent_record digest tree at value (first ∷ above) link last k apart =
    ap (λ (v : Value). if same_path k first.path then Some v else closed_records digest true tree (above ++ link ∷ []) last k)
    (lent_value digest first.path first.taken above link last)
    ∙ ap (λ (o : Option Value). if same_path k first.path
    then Some (closed_value digest false first.path first.taken above (deferring digest (last_path first.path above) (last_value first.taken above) link)) else o)
    (lent_record digest tree first.path first.taken above link last k apart)

-- But for the record that is lent the shard is what it is without it.
pub lent_shard : (digest : Digest) (old new : Shard) (key : ℕ) (links : List Link)
    → IsChain (tree_of old) (key_path_in old key) old.frontier old.value links → IsLent digest old links new
    → shard_but new (key_path_in old key) ≡ shard_without digest old key links
lent_shard digest old new key links chain lent =
    ap (λ (s : Shard). shard_but s path) lent.rehashed
    ∙ ap (λ (v : Value). record old { value = v; records = without_record (closed_records digest false old.records lent.above pv) path }) (sym (lent_value digest old.frontier old.value lent.above lent.link last))
    ∙ ap (λ (t : Tree). record old { value = closed_value digest true old.frontier old.value whole last; records = t }) (fun_ext each)
    ∙ ap (λ (ls : List Link). record old {
      value = closed_value digest true old.frontier old.value ls last;
      records = without_record (closed_records digest true old.records ls last) path;
    }) (sym lent.parts)
  where
    path : List Bool
    path = key_path_in old key

    whole : List Link
    whole = lent.above ++ lent.link ∷ []

    last : Value
    last = last_value old.value links

    pv : Value
    pv = deferring digest (last_path old.frontier lent.above) (last_value old.value lent.above) lent.link

    same : lent.link.path ≡ path
    same = last_key (tree_of old) path old.frontier old.value lent.above lent.link
        (subst (λ (ls : List Link). IsChain (tree_of old) path old.frontier old.value ls) lent.parts chain)

    at : (k : List Bool) (b : Bool) → same_path k path ≡ b
        → (if b then None else closed_records digest false old.records lent.above pv k) ≡ (if b then None else closed_records digest true old.records whole last k)
    at k true here = refl
    at k false there =
        sym (lent_record digest old.records old.frontier old.value lent.above lent.link last k (ap (same_path k) same ∙ there))

    each : (k : List Bool) → without_record (closed_records digest false old.records lent.above pv) path k ≡ without_record (closed_records digest true old.records whole last) path k
    each k = at k (same_path k path) refl

-- ---- the shard is a shard

-- a value whose pointer leads to a path below it
aimed_kind : (longest : ℕ) (at : List Bool) (on : Bool) (value : Value) (pointer : Pointer) → side at pointer.path ≡ Some on → IsOf longest at value
    → IsPath pointer.path → length pointer.digest ≡ 32 → IsOf longest at (aimed at value pointer)
aimed_kind longest at on (values.Blob blob) pointer below kind fits digest = kind
aimed_kind longest at on (values.Node node) pointer below kind fits digest =
    subst (λ (s : Option Bool). IsOf longest at (aimed_on node pointer s)) (sym below)
    (IsOf-with_side longest at node on (Some pointer) kind (record { below = is_prefix-side at pointer.path on below; fits = fits; digest = digest }))

module _ (longest : ℕ) (digest : Digest) (tree : Tree) (key : List Bool) (digests : GivesDigests digest) (whole : IsData key) (kinds : AreOf longest tree) where
  -- the value of a path on the way, whose chain is rehashed up to the link before its end
  part_kind : (at : List Bool) (value : Value) (above : List Link) (link : Link) → IsOf longest at value → IsChain tree key at value (above ++ link ∷ [])
      → IsOf longest at (closed_value digest false at value above (deferring digest (last_path at above) (last_value value above) link))
  part_kind at value [] link kind chain =
      let next = next_of longest tree key at value link whole kinds kind chain.0 in
      aimed_kind longest at chain.0.on value (deferred_pointer (pointer_to digest link.path link.value)) next.below kind (length-IsOf longest link.path link.value next.value) (digests _)
  part_kind at value (first ∷ above) link kind chain =
      let next = next_of longest tree key at value first whole kinds kind chain.0 in
      let became = closed_value digest false first.path first.taken above (deferring digest (last_path first.path above) (last_value first.taken above) link) in
      aimed_kind longest at chain.0.on value (pointer_to digest first.path became) next.below kind
      (length-IsOf longest first.path first.value next.value) (digests _)

  -- a record with its value, where another path's is written over
  kind_with : (kept : Tree) (at path : List Bool) (value : Value) → IsOf longest at value → ((found : Value) → kept path ≡ Some found → IsOf longest path found)
      → (found : Value) → (if same_path path at then Some value else kept path) ≡ Some found → IsOf longest path found
  kind_with kept at path value kind rest found is = go (same_path path at) refl is
    where
      go : (b : Bool) → same_path path at ≡ b → (if b then Some value else kept path) ≡ Some found → IsOf longest path found
      go true same this =
          subst (λ (v : Value). IsOf longest path v) (same_Some value found this)
          (subst (λ (p : List Bool). IsOf longest p value) (sym (same_path-true path at same)) kind)
      go false apart other = rest found other

  part_kinds : (kept : Tree) (at : List Bool) (value : Value) (above : List Link) (link : Link) (path : List Bool) → IsOf longest at value
      → IsChain tree key at value (above ++ link ∷ []) → ((found : Value) → kept path ≡ Some found → IsOf longest path found)
      → (found : Value) → closed_records digest false kept above (deferring digest (last_path at above) (last_value value above) link) path ≡ Some found → IsOf longest path found
  part_kinds kept at value [] link path kind chain rest = rest
  part_kinds kept at value (first ∷ above) link path kind chain rest =
      let next = next_of longest tree key at value first whole kinds kind chain.0 in
      let pv = deferring digest (last_path first.path above) (last_value first.taken above) link in
      kind_with (closed_records digest false kept above pv) first.path path (closed_value digest false first.path first.taken above pv)
      (part_kind first.path first.taken above link next.taken chain.1)
      (part_kinds kept first.path first.taken above link path next.taken chain.1 rest)

pub lent_is : (longest : ℕ) (digest : Digest) (old new : Shard) (key : List Bool) (links : List Link) → GivesDigests digest → IsShard longest old → IsData key
    → IsChain (tree_of old) key old.frontier old.value links → IsLent digest old links new → IsShard longest new
lent_is longest digest old new key links digests fits whole chain lent =
    subst (IsShard longest) (sym lent.rehashed) (record {
      below_root = fits.below_root;
      no_data = fits.no_data;
      kinds = λ path found is. go path found (same_path path old.frontier) refl is;
    })
  where
    pv : Value
    pv = deferring digest (last_path old.frontier lent.above) (last_value old.value lent.above) lent.link

    top : IsOf longest old.frontier old.value
    top = frontier_kind longest old fits.kinds

    parts : IsChain (tree_of old) key old.frontier old.value (lent.above ++ lent.link ∷ [])
    parts = subst (λ (ls : List Link). IsChain (tree_of old) key old.frontier old.value ls) lent.parts chain

    go : (path : List Bool) (found : Value) (b : Bool) → same_path path old.frontier ≡ b
        → (if b then Some (closed_value digest false old.frontier old.value lent.above pv) else closed_records digest false old.records lent.above pv path) ≡ Some found
        → IsOf longest path found
    go path found true same this =
        subst (λ (v : Value). IsOf longest path v) (same_Some _ found this)
        (subst (λ (p : List Bool). IsOf longest p (closed_value digest false old.frontier old.value lent.above pv)) (sym (same_path-true path old.frontier same))
        (part_kind longest digest (tree_of old) key digests whole fits.kinds old.frontier old.value lent.above lent.link top parts))
    go path found false apart other =
        part_kinds longest digest (tree_of old) key digests whole fits.kinds old.records old.frontier old.value lent.above lent.link path top parts
        (λ value is. fits.kinds path value (ap (λ (b : Bool). if b then Some old.value else old.records path) apart ∙ is)) found other

-- a hot record has a place in its shard
pub back_is : (longest : ℕ) (shard : Shard) (found : HotRecord) → IsShard longest shard → IsKeyOf shard (hot_path found)
    → IsOf longest (hot_path found) (values.Blob found.value) → IsShard longest (with_back shard found)
back_is longest shard found fits own kind = record {
  below_root = fits.below_root;
  no_data = fits.no_data;
  kinds = λ path value is. go path value (same_path path shard.frontier) refl (same_path path (hot_path found)) refl is;
}
  where
    go : (path : List Bool) (value : Value) (a : Bool) → same_path path shard.frontier ≡ a → (b : Bool) → same_path path (hot_path found) ≡ b
        → (if a then Some shard.value else if b then Some (values.Blob found.value) else shard.records path) ≡ Some value → IsOf longest path value
    go path value true at b here is = fits.kinds path value (ap (λ (b' : Bool). if b' then Some shard.value else shard.records path) at ∙ is)
    go path value false at true here is =
        subst (λ (v : Value). IsOf longest path v) (same_Some (values.Blob found.value) value is)
        (subst (λ (p : List Bool). IsOf longest p (values.Blob found.value)) (sym (same_path-true path (hot_path found) here)) kind)
    go path value false at false here is = fits.kinds path value (ap (λ (b' : Bool). if b' then Some shard.value else shard.records path) at ∙ is)

-- the shard without a record
pub but_is : (longest : ℕ) (shard : Shard) (path : List Bool) → IsShard longest shard → IsShard longest (shard_but shard path)
but_is longest shard path fits = record {
  below_root = fits.below_root;
  no_data = fits.no_data;
  kinds = λ k value is. go k value (same_path k shard.frontier) refl (same_path k path) is;
}
  where
    go : (k : List Bool) (value : Value) (a : Bool) → same_path k shard.frontier ≡ a → (b : Bool)
        → (if a then Some shard.value else if b then None else shard.records k) ≡ Some value → IsOf longest k value
    go k value true at b is = fits.kinds k value (ap (λ (b' : Bool). if b' then Some shard.value else shard.records k) at ∙ is)
    go k value false at true is = absurd (false≢true (ap there is))
      where
        there : Option Value → Bool
        there None = false
        there (Some v) = true
    go k value false at false is = fits.kinds k value (ap (λ (b' : Bool). if b' then Some shard.value else shard.records k) at ∙ is)

-- ---- a hot record that comes back

-- what lies below a frontier is of its tree
pub same_tree : (frontier bits : List Bool) (wide : Bool) → 0 < depth frontier → IsSome (side frontier (wide ∷ bits)) → wide ≡ paths.tree_of frontier
same_tree [] bits wide deep below = absurd (omega arith)
same_tree (true ∷ path) bits true deep below = refl
same_tree (true ∷ path) bits false deep below = absurd (false≢true below)
same_tree (false ∷ path) bits true deep below = absurd (false≢true below)
same_tree (false ∷ path) bits false deep below = refl

-- so a hot record whose path lies below the frontier has a key of the shard's tree
pub own_tree : (longest : ℕ) (shard : Shard) (found : HotRecord) → IsShard longest shard → IsKeyOf shard (hot_path found) → found.wide ≡ wide_in shard
own_tree longest shard found fits own = same_tree shard.frontier (bits_of (key_bits found.wide) found.key) found.wide fits.below_root own.below

-- and the chain to that key is the chain to its path
pub own_way : (longest : ℕ) (shard : Shard) (found : HotRecord) (along links : List Link) → IsShard longest shard → IsKeyOf shard (hot_path found) → along ≡ links
    → IsChain (tree_of shard) (key_path_in shard found.key) shard.frontier shard.value links
    → IsChain (tree_of shard) (hot_path found) shard.frontier shard.value along
own_way longest shard found along links fits own same chain =
    subst (λ (wide : Bool). IsChain (tree_of shard) (key_path wide found.key) shard.frontier shard.value along) (sym (own_tree longest shard found fits own))
    (subst (λ (ls : List Link). IsChain (tree_of shard) (key_path_in shard found.key) shard.frontier shard.value ls) (sym same) chain)

-- what the code works out of it
pub returning_of : (digest : Digest) (found : HotRecord) (old now new : Shard) (along : List Link) (before after : List Command) (element : Element) (blob : Option (List ℕ))
    → now ≡ with_back old found → IsChain (tree_of now) (hot_path found) now.frontier now.value along
    → after ≡ before ++ visit_but_last now.frontier along (come_back element) → element ≡ pending_hot found
    → new ≡ rehashed digest now along (values.Blob blob) → blob ≡ found.value
    → IsReturning digest found old before after new
returning_of digest found old now new along before after element blob back way logged pending rehashes same = record {
  links = along;
  way = subst (λ (s : Shard). IsChain (tree_of s) (hot_path found) s.frontier s.value along) back way;
  commands = logged
      ∙ ap (λ (e : Element). before ++ visit_but_last now.frontier along (come_back e)) pending
      ∙ ap (λ (s : Shard). before ++ visit_but_last s.frontier along (come_back (pending_hot found))) back;
  shard = rehashes
      ∙ ap (λ (b : Option (List ℕ)). rehashed digest now along (values.Blob b)) same
      ∙ ap (λ (s : Shard). rehashed digest s along (values.Blob found.value)) back;
}

pub returned_is : (digest : Digest) (found : HotRecord) (now new : Shard) (along : List Link) (element : Element) (blob : Option (List ℕ))
    → GivesDigests digest → IsShard longest_blob now → IsKeyOf now (hot_path found)
    → IsChain (tree_of now) (hot_path found) now.frontier now.value along
    → element ≡ pending_hot found → IsOf longest_blob element.path element.value
    → new ≡ rehashed digest now along (values.Blob blob) → blob ≡ found.value → IsShard longest_blob new
returned_is digest found now new along element blob digests fits own way pending kind rehashes same =
    subst (IsShard longest_blob) (sym rehashes)
    (rehashed_is longest_blob digest now (hot_path found) along (values.Blob blob) digests fits own
    (subst (λ (b : Option (List ℕ)). IsOf longest_blob (hot_path found) (values.Blob b)) (sym same)
    (subst (λ (e : Element). IsOf longest_blob e.path e.value) pending kind))
    way)

-- ---- what was saved before a descent

-- A shard whose chain was rehashed up to some link, where what it kept of all links was saved.
pub saved_of : (digest : Digest) (old new : Shard) (links above : List Link) (last : Value) (saved : Saved)
    → saved.value ≡ old.value → saved.records.items ≡ saved_along old.records links
    → ((path : List Bool) → old.records path ≡ None → old.touches path ≡ 0)
    → ((k : List Bool) → AllByRecursion (λ (link : Link). same_path k link.path ≡ false) links → AllByRecursion (λ (link : Link). same_path k link.path ≡ false) above)
    → new ≡ rehashed digest old above last → IsSavedOf old saved new
saved_of digest old new links above last saved value records quiet part is = record {
  value = value;
  records = subst (λ (s : Shard). CanRestore old.records s.touches saved.records.items s.records) (sym is)
      (subst (λ (kept : List SavedRecord). CanRestore old.records old.touches kept (closed_records digest false old.records above last)) (sym records) (record {
        values = saved_was old.records links;
        others = λ k apart. closed_elsewhere digest false old.records above last k (part k (elsewhere_links old.records links k apart));
        kept = λ k some. closed_there digest false old.records above last k some;
        quiet = quiet;
      }));
  others = ap (λ (s : Shard). record s { value = old.value; records = old.records }) is;
}

-- all links but the last
pub front_of : (P : Link → Type 0) (above : List Link) (link : Link) → AllByRecursion P (above ++ link ∷ []) → AllByRecursion P above
front_of P [] link all = tt
front_of P (first ∷ above) link all = (all.0, front_of P above link all.1)

-- the path of the last link
pub last_path_of : (at : List Bool) (links : List Link) (link : Link) → slice_get links (length links - 1) ≡ Some link → link.path ≡ last_path at links
last_path_of at [] link is = absurd (none-some link is)
last_path_of at (only ∷ []) link is = ap (λ (l : Link). l.path) (sym (same_Some only link is))
last_path_of at (first ∷ next ∷ links) link is =
    let further : suc (length (next ∷ links) - 1) ≡ length (first ∷ next ∷ links) - 1 = omega arith in
    last_path_of first.path (next ∷ links) link (ap (λ (n : ℕ). slice_get (first ∷ next ∷ links) n) further ∙ is)
