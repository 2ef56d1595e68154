-- The records along the way to a key stay where the value at its end does: the digests that closing makes are those that stand there.
use Rattle.std.proofs.Common.{ℕ, ◌≡◌, Bool, true, false, not, List, [], ◌∷◌, Option, Some, None, is_some, IsSome, if◌then◌else◌, refl, sym, ◌∙◌, ap, subst}
use Rattle.std.specs.Prelude.{◌&&◌}
use Rattle.std.proofs.Math.Path.{fun_ext}
use Rattle.std.proofs.lemmas.Bool.{false≢true}
use Rattle.std.proofs.lemmas.Option.{same_Some}
use Rattle.tree_keys.specs.Path.{side, same_path}
use Rattle.tree_keys.proofs.PathLaws.{same_path-true}
use Rattle.tree_keys.proofs.SideLaws.{side-trans}
use Rattle.record_text.specs.declared.request.Request.{Request}
use Rattle.record_text.specs.declared.value.Pointer.{Pointer}
use Rattle.record_text.specs.declared.value.Node.{Node}
use Rattle.record_text.specs.declared.value.Value.{Value}
use Rattle.record_text.specs.declared.value.Value.TheVariants as values
use Rattle.record_text.specs.Texts.{value_text}
use Rattle.record_text.specs.Value.{IsOf, node_side, with_side}
use Rattle.merkle_records.specs.Merkle.{Digest, leads_over, pointer_to}
use Rattle.host_shard.specs.declared.link.Link.{Link}
use Rattle.host_shard.specs.Tree.{Tree, pointer_of}
use Rattle.host_shard.specs.Chain.{IsChain, pointer_toward, last_value, known_links, aimed, aimed_on, closed_value, closed_records}
use Rattle.host_shard.specs.Shard.{key_path_in, Shard, tree_of, rehashed, touched}
use Rattle.host_shard.specs.Mirrors.{IsKept}
use Rattle.host_plan.specs.Request.{value_after, is_read, gone_along}
use Rattle.host_plan.specs.Plan.{IsServable}
use Rattle.host_laws.proofs.ChainLaws.{LeadTo, AreOf, IsNext, next_fits}
use Rattle.host_laws.proofs.FrontierLaws.{leads, frontier_there, frontier_of, frontier_based}
use Rattle.host_laws.proofs.ReachedLaws.{known_all}

-- a pointer is what its three parts say
pointer_is : (digest : Digest) (path : List Bool) (value : Value) (pointer : Pointer)
    → pointer.path ≡ path → pointer.digest ≡ digest (value_text value) → pointer.deferred ≡ false → pointer ≡ pointer_to digest path value
pointer_is digest path value pointer to kept fresh = λ i. record { path = to i; digest = kept i; deferred = fresh i }

-- a node with the pointer that it has is as it was
side_again : (node : Node) (on : Bool) (pointer : Pointer) → node_side node on ≡ Some pointer → with_side node on (Some pointer) ≡ node
side_again node true pointer is = λ i. record node { side1 = sym is i }
side_again node false pointer is = λ i. record node { side0 = sym is i }

module _ (longest : ℕ) (digest : Digest) (tree base : Tree) (key : List Bool) (lead : LeadTo longest digest tree key) where
  -- below this path the records are those of the tree
  abbrev IsBased : List Bool → Type 0
  IsBased at = (k : List Bool) (on : Bool) → side at k ≡ Some on → tree k ≡ base k

  next_based : (at : List Bool) (value : Value) (link : Link) → IsNext longest digest tree key at value link → IsBased at → IsBased link.path
  next_based at value link next based = λ k on below. based k next.on (side-trans at link.path k next.on on next.fits.below below)

  -- where a pointer leads to the key or above it
  record IsStraight (at : List Bool) (node : Node) (on : Bool) (link : Link) : Type 0 where
    pub again : with_side node on (Some (pointer_to digest link.path link.taken)) ≡ node
    pub there : tree link.path ≡ Some link.taken

  straight_link : (at : List Bool) (value : Value) (link : Link) → AreOf tree value → (next : IsNext longest digest tree key at value link)
      → leads_over (node_side next.node next.on) key ≡ true → IsStraight at next.node next.on link
  straight_link at value link known next over = go (node_side next.node next.on) refl over
    where
      of_node : (on : Bool) (pointer : Pointer) → node_side next.node on ≡ Some pointer → pointer_of value on ≡ Some pointer
      of_node on pointer is = ap (λ (v : Value). pointer_of v on) next.is_node ∙ is

      go : (o : Option Pointer) → node_side next.node next.on ≡ o → leads_over o key ≡ true → IsStraight at next.node next.on link
      go None none leads = absurd (false≢true leads)
      go (Some pointer) is leads =
          let straight = next.straight pointer is leads in
          let origin = known next.on pointer (of_node next.on pointer is) in
          let kept : IsKept digest tree pointer = lead.kept origin.0 origin.1 pointer origin.2 leads in
          let value_is : kept.value ≡ link.taken = same_Some kept.value link.taken (sym kept.there ∙ (ap tree straight.0 ∙ straight.1)) in
          record {
            again = ap (λ (p : Pointer). with_side next.node next.on (Some p))
                (sym (pointer_is digest link.path link.taken pointer straight.0 (kept.digest_of ∙ ap (λ (v : Value). digest (value_text v)) value_is) (lead.fresh origin.0 origin.1 pointer origin.2 leads)))
                ∙ side_again next.node next.on pointer is;
            there = straight.1;
          }

  -- where the pointer of a value leads on the key's side
  pub toward_key : (at : List Bool) (value : Value) (link : Link) (next : IsNext longest digest tree key at value link)
      → pointer_toward value (side at key) ≡ node_side next.node next.on
  toward_key at value link next =
      ap (λ (s : Option Bool). pointer_toward value s) next.on_side ∙ ap (λ (v : Value). pointer_of v next.on) next.is_node

  -- The paths that have records keep their values, where the last of them keeps its own.
  pub known_stay : (at : List Bool) (value : Value) (links : List Link) → IsOf longest at value → AreOf tree value → IsBased at
      → IsChain tree key at value links
      → let known = known_links key at value links in
      (closed_value digest false at value known (last_value value known) ≡ value)
      × ((k : List Bool) → closed_records digest false base known (last_value value known) k ≡ base k)
  known_stay at value [] kind known based chain = (refl, λ k. refl)
  known_stay at value (link ∷ links) kind known based chain =
      let next = next_fits longest digest tree key lead at value link kind known chain.0 in
      let below = next_based at value link next based in
      go next (known_stay link.path link.taken links next.kind next.known below chain.1) (leads_over (pointer_toward value (side at key)) key) refl
    where
      more : List Link
      more = known_links key link.path link.taken links

      go : (next : IsNext longest digest tree key at value link)
          → (closed_value digest false link.path link.taken more (last_value link.taken more) ≡ link.taken)
          × ((k : List Bool) → closed_records digest false base more (last_value link.taken more) k ≡ base k)
          → (b : Bool) → leads_over (pointer_toward value (side at key)) key ≡ b
          → let gone = if b then link ∷ more else [] in
          (closed_value digest false at value gone (last_value value gone) ≡ value)
          × ((k : List Bool) → closed_records digest false base gone (last_value value gone) k ≡ base k)
      go next stay false past = (refl, λ k. refl)
      go next stay true over = (same_value', same_record)
        where
          straight : IsStraight at next.node next.on link
          straight = straight_link at value link known next (ap (λ (o : Option Pointer). leads_over o key) (sym (toward_key at value link next)) ∙ over)

          same_value' : closed_value digest false at value (link ∷ more) (last_value link.taken more) ≡ value
          same_value' =
              ap (λ (became : Value). aimed at value (pointer_to digest link.path became)) stay.0
              ∙ (ap (λ (v : Value). aimed at v (pointer_to digest link.path link.taken)) next.is_node
              ∙ (ap (λ (s : Option Bool). aimed_on next.node (pointer_to digest link.path link.taken) s) next.fits.below
              ∙ (ap (λ (n : Node). values.Node n) straight.again ∙ sym next.is_node)))

          same_record : (k : List Bool) → closed_records digest false base (link ∷ more) (last_value link.taken more) k ≡ base k
          same_record k = tested (same_path k link.path) refl
            where
              became : Value
              became = closed_value digest false link.path link.taken more (last_value link.taken more)

              picked : (b : Bool) → same_path k link.path ≡ b
                  → closed_records digest false base (link ∷ more) (last_value link.taken more) k
                  ≡ (if b then Some became else closed_records digest false base more (last_value link.taken more) k)
              picked b is = ap (λ (c : Bool). if c then Some became else closed_records digest false base more (last_value link.taken more) k) is

              tested : (b : Bool) → same_path k link.path ≡ b → closed_records digest false base (link ∷ more) (last_value link.taken more) k ≡ base k
              tested true is =
                  picked true is
                  ∙ (ap (λ (v : Value). Some v) stay.0
                  ∙ (sym straight.there ∙ (based link.path next.on next.fits.below ∙ ap base (sym (same_path-true k link.path is)))))
              tested false is = picked false is ∙ stay.1 k

-- ---- a shard

-- a get of a key that has a record
read_get : (put there : Bool) → (not put && there) ≡ true → (put ≡ false) × (there ≡ true)
read_get true there is = absurd (false≢true is)
read_get false there is = (refl, is)

module _ (longest : ℕ) (digest : Digest) (shard : Shard) (links : List Link) (request : Request)
    (can : IsServable longest digest shard (key_path_in shard request.key))
    (chain : IsChain (tree_of shard) (key_path_in shard request.key) shard.frontier shard.value links) where
  abbrev key : List Bool
  key = key_path_in shard request.key

  abbrev last : Value
  last = value_after request (last_value shard.value links)

  -- what a chain leaves that is closed with this value is what was there
  abbrev Stay : List Link → Value → Type 0
  Stay all became =
      (closed_value digest false shard.frontier shard.value all became ≡ shard.value)
      × ((k : List Bool) → closed_records digest false shard.records all became k ≡ shard.records k)

  read_stays : is_read shard request ≡ true → Stay links last
  read_stays is =
      subst (Stay links) (sym (ap (λ (put : Bool). if put then values.Blob request.value else last_value shard.value links) read.0))
      (subst (λ (all : List Link). Stay all (last_value shard.value all)) (all_known (tree_of shard key) refl in_tree)
      (known_stay longest digest (tree_of shard) shard.records key (leads longest digest shard key can) shard.frontier shard.value links
      (can.fits.kinds shard.frontier shard.value (frontier_there shard)) (frontier_of shard) (frontier_based shard) chain))
    where
      read : (request.put ≡ false) × (is_some (shard.records key) ≡ true)
      read = read_get request.put (is_some (shard.records key)) is

      in_tree : IsSome (tree_of shard key)
      in_tree = go (same_path key shard.frontier)
        where
          go : (b : Bool) → IsSome (if b then Some shard.value else shard.records key)
          go true = refl
          go false = read.1

      all_known : (o : Option Value) → tree_of shard key ≡ o → IsSome o → known_links key shard.frontier shard.value links ≡ links
      all_known None none some = absurd (false≢true some)
      all_known (Some of_key) there some =
          known_all (tree_of shard) key longest can.fits.kinds shard.frontier shard.value links of_key (frontier_there shard) chain
          (can.mirrors.reached key in_tree) there

  -- A request that doesn't miss its key leaves a shard that mirrors as closing the chain leaves it, also where it reads.
  pub found_gone : gone_along digest shard links request false ≡ record (rehashed digest shard links last) { touches = touched shard.touches key }
  found_gone = go (is_read shard request) refl
    where
      left : Bool → Shard
      left same = record shard {
        value = if same then shard.value else closed_value digest false shard.frontier shard.value links last;
        records = if same then shard.records else closed_records digest false shard.records links last;
        touches = touched shard.touches key;
      }

      go : (b : Bool) → is_read shard request ≡ b → left b ≡ left false
      go false new = refl
      go true is =
          let stay = read_stays is in
          λ i. record shard {
            value = sym stay.0 i;
            records = sym (fun_ext stay.1) i;
            touches = touched shard.touches key;
          }
