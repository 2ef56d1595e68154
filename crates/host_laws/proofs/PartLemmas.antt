-- The paths of a chain once it is closed: which pointers stand there, and which have stayed as they were.
use Rattle.std.proofs.Common.{ℕ, ◌≡◌, ◌≢◌, ◌⊎◌, Bool, true, false, not, List, [], ◌∷◌, Option, Some, None, is_some, IsSome, if◌then◌else◌, refl, sym, ◌∙◌, ap, subst, inl, inr}
use Rattle.std.specs.List.{IsAmong}
use Rattle.std.proofs.lemmas.Bool.{false≢true}
use Rattle.std.proofs.lemmas.Option.{none-some, same_Some}
use Rattle.tree_keys.specs.Path.{side, is_prefix, same_path, IsData}
use Rattle.tree_keys.proofs.PathLaws.{same_path-self, same_path-true, same_path-apart}
use Rattle.tree_keys.proofs.SideLaws.{side-self, is_prefix-self, is_prefix-trans, prefix_of_side, side_of_prefix, prefix_cases, side-prefix, side-trans}
use Rattle.tree_keys.proofs.TreeLaws.{data-path}
use Rattle.verifier_commands.proofs.BelowLaws.{below_apart}
use Rattle.record_text.specs.declared.value.Pointer.{Pointer}
use Rattle.record_text.specs.declared.value.Node.{Node}
use Rattle.record_text.specs.declared.value.Value.{Value}
use Rattle.record_text.specs.declared.value.Value.TheVariants as values
use Rattle.record_text.specs.Value.{IsOf, IsSide, node_side, with_side}
use Rattle.merkle_records.specs.Merkle.{Digest, GivesDigests, pointer_to}
use Rattle.merkle_records.proofs.KindLaws.{IsSide-node_side, IsOf-with_side, is_prefix-side, node_side-with_side}
use Rattle.host_shard.specs.declared.link.Link.{Link}
use Rattle.host_shard.specs.Tree.{Tree, pointer_of, with_record, IsPointerIn, IsReached, at_start, by_pointer}
use Rattle.host_shard.specs.Chain.{IsChain, aimed_on, closed_value, closed_records}
use Rattle.host_shard.specs.Mirrors.{IsKept, IsWaiting}
use Rattle.host_laws.proofs.DepthLaws.{data_whole, kind_path, whole_none}
use Rattle.host_laws.proofs.ForkLaws.{sides_apart}
use Rattle.host_laws.proofs.ChainLaws.{LeadTo, AreOf, Leads, IsNext, next_fits}

-- a side is another one, or its other
one_or_other : (a b : Bool) → (a ≡ b) ⊎ (b ≡ not a)
one_or_other true true = inl refl
one_or_other true false = inr refl
one_or_other false true = inr refl
one_or_other false false = inl refl

-- the pointer of a value of a path's kind leads below it on its side
pub pointer_side : (longest : ℕ) (path : List Bool) (value : Value) (on : Bool) (pointer : Pointer) → IsOf longest path value
    → pointer_of value on ≡ Some pointer → side path pointer.path ≡ Some on
pointer_side longest path (values.Blob blob) on pointer kind is = absurd (none-some pointer is)
pointer_side longest path (values.Node node) on pointer kind is =
    side_of_prefix path pointer.path on (subst (IsSide path on) is (IsSide-node_side longest path node on kind)).below

module _ (longest : ℕ) (digest : Digest) (tree base : Tree) (frontier : List Bool) (top : Value) (key : List Bool) (last : Value)
    (lead : LeadTo longest digest tree key) where
  -- the records afterwards, where these links are closed
  abbrev pub full_of : List Link → Tree
  full_of links = with_record (closed_records digest false base links last) frontier (closed_value digest false frontier top links last)

  -- each path of the chain has its value at the end
  abbrev pub Stands : Tree → List Bool → Value → List Link → Type 0
  Stands full at value [] = full at ≡ Some last
  Stands full at value (link ∷ links) =
      (full at ≡ Some (closed_value digest false at value (link ∷ links) last)) × Stands full link.path link.taken links

  -- a path of the chain, with its value before and the links behind it
  pub record IsPart (full : Tree) (path : List Bool) (value : Value) (links : List Link) : Type 0 where
    pub chain : IsChain tree key path value links
    pub kind : IsOf longest path value
    pub known : AreOf tree value
    pub stands : Stands full path value links
    pub reached : IsReached full frontier path

  pub part_there : (full : Tree) (path : List Bool) (value : Value) (links : List Link) → IsPart full path value links
      → full path ≡ Some (closed_value digest false path value links last)
  part_there full path value [] part = part.stands
  part_there full path value (link ∷ links) part = part.stands.0

  pub part_begins : (full : Tree) (path : List Bool) (value : Value) (links : List Link) → IsPart full path value links → is_prefix path key ≡ true
  part_begins full path value [] part = subst (λ (k : List Bool). is_prefix k key ≡ true) (sym part.chain) (is_prefix-self key)
  part_begins full path value (link ∷ links) part = prefix_of_side path key part.chain.0.on part.chain.0.on_side

  -- how the next link stands under a path of the chain
  pub part_link : (full : Tree) (path : List Bool) (value : Value) (link : Link) (links : List Link) → IsPart full path value (link ∷ links)
      → IsNext longest digest tree key path value link
  part_link full path value link links part = next_fits longest digest tree key lead path value link part.kind part.known part.chain.0

  -- a path's value at the end: its own but for the pointer to the next link
  pub closed_is : (path : List Bool) (value : Value) (link : Link) (links : List Link) → (next : IsNext longest digest tree key path value link)
      → closed_value digest false path value (link ∷ links) last
      ≡ values.Node (with_side next.node next.on (Some (pointer_to digest link.path (closed_value digest false link.path link.taken links last))))
  closed_is path value link links next =
      ap (λ (v : Value). closed_value digest false path v (link ∷ links) last) next.is_node
      ∙ ap (λ (s : Option Bool). aimed_on next.node (pointer_to digest link.path (closed_value digest false link.path link.taken links last)) s) next.fits.below

  pub part_next : (full : Tree) (path : List Bool) (value : Value) (link : Link) (links : List Link) → IsPart full path value (link ∷ links)
      → IsPart full link.path link.taken links
  part_next full path value link links part =
      let next = part_link full path value link links part in
      record {
        chain = part.chain.1;
        kind = next.kind;
        known = next.known;
        stands = part.stands.1;
        reached = by_pointer path next.on (pointer_to digest link.path (closed_value digest false link.path link.taken links last)) part.reached
            (record {
              value = closed_value digest false path value (link ∷ links) last;
              there = part.stands.0;
              leads = ap (λ (v : Value). pointer_of v next.on) (closed_is path value link links next) ∙ node_side-with_side next.node next.on _;
            });
      }

  -- the pointer of a chain's path on the other side than the key's stays
  pub other_pointer : (full : Tree) (path : List Bool) (value : Value) (links : List Link) (on : Bool) (pointer : Pointer) → IsPart full path value links
      → pointer_of value on ≡ Some pointer → side path key ≡ Some (not on) → IsPointerIn full path on pointer
  other_pointer full path value [] on pointer part is apart =
      absurd (none-some (not on) (sym (ap (λ (k : List Bool). side k key) part.chain ∙ side-self key) ∙ apart))
  other_pointer full path value (link ∷ links) on pointer part is apart =
      let next = part_link full path value link links part in
      let other : next.on ≡ not on = same_Some next.on (not on) (sym next.on_side ∙ apart) in
      record {
        value = closed_value digest false path value (link ∷ links) last;
        there = part.stands.0;
        leads = ap (λ (v : Value). pointer_of v on) (closed_is path value link links next)
            ∙ (other_side next.node on next.on (pointer_to digest link.path (closed_value digest false link.path link.taken links last)) other
            ∙ (ap (λ (v : Value). pointer_of v on) (sym next.is_node) ∙ is));
      }
    where
      other_side : (node : Node) (on which : Bool) (q : Pointer) → which ≡ not on → node_side (with_side node which (Some q)) on ≡ node_side node on
      other_side node true true q same = absurd (false≢true (sym same))
      other_side node true false q same = refl
      other_side node false true q same = refl
      other_side node false false q same = absurd (false≢true same)

  -- A pointer of a chain's path at the end: the one to the next link, or one that was there on the other side.
  pub data Standing (full : Tree) (path : List Bool) (value : Value) (on : Bool) (pointer : Pointer) : Type 0 where
    closes : (to : List Bool) (became : Value) → pointer ≡ pointer_to digest to became → full to ≡ Some became → Standing full path value on pointer
    stays : pointer_of value on ≡ Some pointer → side path key ≡ Some (not on) → Standing full path value on pointer

  pub part_pointer : (full : Tree) (path : List Bool) (value : Value) (links : List Link) (on : Bool) (pointer : Pointer) → IsPart full path value links
      → ((side' : Bool) → pointer_of last side' ≡ None)
      → IsPointerIn full path on pointer → Standing full path value on pointer
  part_pointer full path value [] on pointer part bare is =
      absurd (none-some pointer (sym (ap (λ (v : Value). pointer_of v on) (same_Some is.value last (sym is.there ∙ part.stands)) ∙ bare on) ∙ is.leads))
  part_pointer full path value (link ∷ links) on pointer part bare is = go (one_or_other on next.on)
    where
      next : IsNext longest digest tree key path value link
      next = part_link full path value link links part

      became : Value
      became = closed_value digest false link.path link.taken links last

      found : node_side (with_side next.node next.on (Some (pointer_to digest link.path became))) on ≡ Some pointer
      found =
          sym (ap (λ (v : Value). pointer_of v on) (same_Some is.value _ (sym is.there ∙ part.stands.0) ∙ closed_is path value link links next)) ∙ is.leads

      other_side : (node : Node) (on which : Bool) (q : Pointer) → which ≡ not on → node_side (with_side node which (Some q)) on ≡ node_side node on
      other_side node true true q same = absurd (false≢true (sym same))
      other_side node true false q same = refl
      other_side node false true q same = refl
      other_side node false false q same = absurd (false≢true same)

      go : (on ≡ next.on) ⊎ (next.on ≡ not on) → Standing full path value on pointer
      go (inl same) =
          closes link.path became
          (same_Some pointer _ (sym found ∙ (ap (λ (s : Bool). node_side (with_side next.node next.on (Some (pointer_to digest link.path became))) s) same ∙ node_side-with_side next.node next.on _)))
          (part_there full link.path link.taken links (part_next full path value link links part))
      go (inr other) =
          stays (ap (λ (v : Value). pointer_of v on) next.is_node ∙ (sym (other_side next.node on next.on (pointer_to digest link.path became) other) ∙ found))
          (next.on_side ∙ ap (λ (s : Bool). Some s) other)

  -- a path's value at the end is of its kind
  pub closed_kind : (full : Tree) (path : List Bool) (value : Value) (links : List Link) → GivesDigests digest → IsOf longest key last
      → IsPart full path value links → IsOf longest path (closed_value digest false path value links last)
  closed_kind full path value [] digests kind part = subst (λ (k : List Bool). IsOf longest k last) (sym part.chain) kind
  closed_kind full path value (link ∷ links) digests kind part =
      let next = part_link full path value link links part in
      let became = closed_value digest false link.path link.taken links last in
      subst (IsOf longest path) (sym (closed_is path value link links next))
      (IsOf-with_side longest path next.node next.on (Some (pointer_to digest link.path became))
      (subst (IsOf longest path) next.is_node part.kind)
      (record { below = is_prefix-side path link.path next.on next.fits.below; fits = kind_path longest link.path link.taken next.kind; digest = digests _ }))

  -- ---- the chain in the records

  stands : (full : Tree) (path : List Bool) (value : Value) (links : List Link) → IsOf longest path value → AreOf tree value
      → IsChain tree key path value links
      → full path ≡ Some (closed_value digest false path value links last)
      → ((k : List Bool) (on : Bool) → side path k ≡ Some on → full k ≡ closed_records digest false base links last k)
      → Stands full path value links
  stands full path value [] kind known chain here agrees = here
  stands full path value (link ∷ links) kind known chain here agrees =
      let next = next_fits longest digest tree key lead path value link kind known chain.0 in
      let became = closed_value digest false link.path link.taken links last in (
        here,
        stands full link.path link.taken links next.kind next.known chain.1
            (agrees link.path next.on next.fits.below
            ∙ ap (λ (b : Bool). if b then Some became else closed_records digest false base links last link.path) (same_path-self link.path))
            (λ k on below. agrees k next.on (side-trans path link.path k next.on on next.fits.below below)
            ∙ ap (λ (b : Bool). if b then Some became else closed_records digest false base links last k)
            (same_path-apart k link.path (below_apart link.path k on below))),
      )

  -- some path of the chain
  pub record Part (full : Tree) (path : List Bool) : Type 0 where
    pub value : Value
    pub links : List Link
    pub is : IsPart full path value links

  -- a path is one of the links, or is kept as before
  find : (full : Tree) (k path : List Bool) (value : Value) (links : List Link) → IsPart full path value links
      → Part full k ⊎ (closed_records digest false base links last k ≡ base k)
  find full k path value [] part = inr refl
  find full k path value (link ∷ links) part = go (same_path k link.path) refl (find full k link.path link.taken links next)
    where
      next : IsPart full link.path link.taken links
      next = part_next full path value link links part

      became : Value
      became = closed_value digest false link.path link.taken links last

      go : (b : Bool) → same_path k link.path ≡ b → Part full k ⊎ (closed_records digest false base links last k ≡ base k)
          → Part full k ⊎ (closed_records digest false base (link ∷ links) last k ≡ base k)
      go true same rest =
          inl (subst (Part full) (sym (same_path-true k link.path same)) (record { value = link.taken; links = links; is = next }))
      go false apart (inl found) = inl found
      go false apart (inr kept) =
          inr (ap (λ (b : Bool). if b then Some became else closed_records digest false base links last k) apart ∙ kept)

  module _ (links : List Link) (chain : IsChain tree key frontier top links) (kind : IsOf longest frontier top)
      (is_top : (k : List Bool) → tree k ≡ with_record base frontier top k) where
    -- the records afterwards
    abbrev pub full : Tree
    full = full_of links

    top_there : tree frontier ≡ Some top
    top_there = is_top frontier ∙ ap (λ (b : Bool). if b then Some top else base frontier) (same_path-self frontier)

    top_known : AreOf tree top
    top_known on pointer is = (frontier, on, record { value = top; there = top_there; leads = is })

    -- the frontier is the first path of the chain
    pub first_part : IsPart full frontier top links
    first_part = record {
      chain = chain;
      kind = kind;
      known = top_known;
      stands = stands full frontier top links kind top_known chain
          (ap (λ (b : Bool). if b then Some became else closed_records digest false base links last frontier) (same_path-self frontier))
          (λ k on below. ap (λ (b : Bool). if b then Some became else closed_records digest false base links last k)
          (same_path-apart k frontier (below_apart frontier k on below)));
      reached = at_start;
    }
      where
        became : Value
        became = closed_value digest false frontier top links last

    -- each path is one of the chain, or has its record as before
    pub classify : (k : List Bool) → Part full k ⊎ (full k ≡ tree k)
    classify k = go (same_path k frontier) refl (find full k frontier top links first_part)
      where
        became : Value
        became = closed_value digest false frontier top links last

        go : (b : Bool) → same_path k frontier ≡ b → Part full k ⊎ (closed_records digest false base links last k ≡ base k)
            → Part full k ⊎ (full k ≡ tree k)
        go true same rest =
            inl (subst (Part full) (sym (same_path-true k frontier same)) (record { value = top; links = links; is = first_part }))
        go false apart (inl found) = inl found
        go false apart (inr kept) =
            inr (ap (λ (b : Bool). if b then Some became else closed_records digest false base links last k) apart
            ∙ (kept ∙ sym (is_top k ∙ ap (λ (b : Bool). if b then Some top else base k) apart)))

    -- what doesn't begin the key has its record as before
    pub off_chain : (k : List Bool) → is_prefix k key ≡ false → full k ≡ tree k
    off_chain k apart = go (classify k)
      where
        go : Part full k ⊎ (full k ≡ tree k) → full k ≡ tree k
        go (inl part) = absurd (false≢true (sym apart ∙ part_begins full k part.value part.links part.is))
        go (inr kept) = kept

    -- what is reached and begins the key is on the chain, with the value that it had
    pub record OnChain (k : List Bool) : Type 0 where
      pub value : Value
      pub behind : List Link
      pub is : IsPart full k value behind
      pub was : tree k ≡ Some value

    pub on_chain : (k : List Bool) → IsReached tree frontier k → is_prefix k key ≡ true → OnChain k
    on_chain k at_start begins = record { value = top; behind = links; is = first_part; was = top_there }
    on_chain k (by_pointer path on pointer reached is) begins =
        further (on_chain path reached (is_prefix-trans path pointer.path key (prefix_of_side path pointer.path on here) begins))
      where
        here : side path pointer.path ≡ Some on
        here = pointer_side longest path is.value on pointer (lead.kinds path is.value is.there) is.leads

        toward : side path key ≡ Some on
        toward = side-prefix path pointer.path key on here begins

        further : OnChain path → OnChain pointer.path
        further at = go at.behind at.is
          where
            leads : pointer_of at.value on ≡ Some pointer
            leads = ap (λ (v : Value). pointer_of v on) (same_Some at.value is.value (sym at.was ∙ is.there)) ∙ is.leads

            go : (ls : List Link) → IsPart full path at.value ls → OnChain pointer.path
            go [] part = absurd (none-some on (sym (ap (λ (k : List Bool). side k key) part.chain ∙ side-self key) ∙ toward))
            go (link ∷ ls) part =
                let next = part_link full path at.value link ls part in
                let same : on ≡ next.on = same_Some on next.on (sym toward ∙ next.on_side) in
                let straight = next.straight pointer (subst (λ (s : Bool). pointer_of (values.Node next.node) s ≡ Some pointer) same
                (ap (λ (v : Value). pointer_of v on) (sym next.is_node) ∙ leads)) begins in
                subst OnChain (sym straight.0)
                (record { value = link.taken; behind = ls; is = part_next full path at.value link ls part; was = straight.1 })

    -- ---- what was reached

    -- where a pointer went that was there before: it is there still, or leads to a path of the chain
    pub data Kept (pointer : Pointer) : Type 0 where
      in_place : (path : List Bool) (on : Bool) → IsReached full frontier path → IsPointerIn full path on pointer → Kept pointer
      to_chain : Part full pointer.path → Kept pointer

    pub kept_pointer : (path : List Bool) (on : Bool) (pointer : Pointer) → IsReached tree frontier path → IsReached full frontier path
        → IsPointerIn tree path on pointer → Kept pointer
    kept_pointer path on pointer reached still is = go (is_prefix path key) refl
      where
        on_way : OnChain path → Kept pointer
        on_way at = behind at.behind at.is
          where
            leads : pointer_of at.value on ≡ Some pointer
            leads = ap (λ (v : Value). pointer_of v on) (same_Some at.value is.value (sym at.was ∙ is.there)) ∙ is.leads

            behind : (ls : List Link) → IsPart full path at.value ls → Kept pointer
            behind [] part =
                absurd (whole_none longest path at.value on pointer part.kind (subst IsData (sym part.chain) lead.whole) leads)
            behind (link ∷ ls) part = turn (one_or_other on next.on)
              where
                next : IsNext longest digest tree key path at.value link
                next = part_link full path at.value link ls part

                after : IsPart full link.path link.taken ls
                after = part_next full path at.value link ls part

                led : Leads key link pointer → Kept pointer
                led (inl same) = to_chain (subst (Part full) (sym same) (record { value = link.taken; links = ls; is = after }))
                led (inr over) = in_place link.path over.0 after.reached (other_pointer full link.path link.taken ls over.0 pointer after over.1 over.2)

                turn : (on ≡ next.on) ⊎ (next.on ≡ not on) → Kept pointer
                turn (inl same) =
                    led (next.leads pointer (subst (λ (s : Bool). pointer_of (values.Node next.node) s ≡ Some pointer) same
                    (ap (λ (v : Value). pointer_of v on) (sym next.is_node) ∙ leads)))
                turn (inr other) =
                    in_place path on part.reached (other_pointer full path at.value (link ∷ ls) on pointer part leads (next.on_side ∙ ap (λ (s : Bool). Some s) other))

        go : (b : Bool) → is_prefix path key ≡ b → Kept pointer
        go true begins = on_way (on_chain path reached begins)
        go false apart =
            in_place path on still (record { value = is.value; there = off_chain path apart ∙ is.there; leads = is.leads })

    -- what was reached is reached
    pub still_reached : (k : List Bool) → IsReached tree frontier k → IsReached full frontier k
    still_reached k at_start = at_start
    still_reached k (by_pointer path on pointer reached is) = go (kept_pointer path on pointer reached (still_reached path reached) is)
      where
        go : Kept pointer → IsReached full frontier pointer.path
        go (in_place at side' there pointer_there) = by_pointer at side' pointer there pointer_there
        go (to_chain part) = part.is.reached

    -- ---- which pointers are there

    -- a pointer that is there afterwards: one that closes a link, or one that was there and doesn't lead to the key
    pub data Origin (pointer : Pointer) : Type 0 where
      closes_link : (to : List Bool) (became : Value) → pointer ≡ pointer_to digest to became → full to ≡ Some became → Origin pointer
      was_there : (path : List Bool) (on : Bool) → IsPointerIn tree path on pointer → is_prefix pointer.path key ≡ false → Origin pointer

    -- each record is reached
    abbrev pub AreReached : Tree → Type 0
    AreReached records = (k : List Bool) → IsSome (records k) → IsReached records frontier k

    pub origin : (k : List Bool) (on : Bool) (pointer : Pointer) → AreReached tree → ((side' : Bool) → pointer_of last side' ≡ None)
        → IsPointerIn full k on pointer → Origin pointer
    origin k on pointer reached bare is = go (is_prefix k key) refl
      where
        from_part : Part full k → Origin pointer
        from_part part = turn (part_pointer full k part.value part.links on pointer part.is bare is)
          where
            apart : pointer_of part.value on ≡ Some pointer → side k key ≡ Some (not on) → is_prefix pointer.path key ≡ false
            apart leads other =
                sides_apart k pointer.path key on (not on) (pointer_side longest k part.value on pointer part.is.kind leads) other (other_side on)
              where
                other_side : (b : Bool) → b ≢ not b
                other_side true same = false≢true (sym same)
                other_side false same = false≢true same

            turn : Standing full k part.value on pointer → Origin pointer
            turn (closes to became same there) = closes_link to became same there
            turn (stays leads other) =
                let from = part.is.known on pointer leads in
                was_there from.0 from.1 from.2 (apart leads other)

        go : (b : Bool) → is_prefix k key ≡ b → Origin pointer
        go true begins = on_way (classify k)
          where
            on_way : Part full k ⊎ (full k ≡ tree k) → Origin pointer
            on_way (inl part) = from_part part
            on_way (inr same) =
                let at = on_chain k (reached k (ap (λ (o : Option Value). is_some o) (sym same ∙ is.there))) begins in
                from_part (record { value = at.value; links = at.behind; is = at.is })
        go false apart =
            let there : tree k ≡ Some is.value = sym (off_chain k apart) ∙ is.there in
            was_there k on (record { value = is.value; there = there; leads = is.leads }) (not_prefix there (is_prefix pointer.path key) refl)
          where
            not_prefix : tree k ≡ Some is.value → (b : Bool) → is_prefix pointer.path key ≡ b → is_prefix pointer.path key ≡ false
            not_prefix there false not_so = not_so
            not_prefix there true begins =
                absurd (false≢true (sym apart
                ∙ is_prefix-trans k pointer.path key (prefix_of_side k pointer.path on (pointer_side longest k is.value on pointer (lead.kinds k is.value there) is.leads)) begins))

    -- ---- mirroring

    pub kept_after : AreReached tree → ((side' : Bool) → pointer_of last side' ≡ None)
        → ((path : List Bool) (on : Bool) (pointer : Pointer) → IsPointerIn tree path on pointer → pointer.deferred ≡ false → IsKept digest tree pointer)
        → (k : List Bool) (on : Bool) (pointer : Pointer) → IsPointerIn full k on pointer → pointer.deferred ≡ false → IsKept digest full pointer
    kept_after reached bare kept k on pointer is fresh = go (origin k on pointer reached bare is)
      where
        go : Origin pointer → IsKept digest full pointer
        go (closes_link to became same there) =
            subst (IsKept digest full) (sym same) (record { value = became; there = there; digest_of = refl })
        go (was_there path side' was apart) =
            let before = kept path side' pointer was fresh in
            record { value = before.value; there = off_chain pointer.path apart ∙ before.there; digest_of = before.digest_of }

    pub waits_after : (hot : List (List Bool)) → AreReached tree → ((side' : Bool) → pointer_of last side' ≡ None)
        → ((path : List Bool) (on : Bool) (pointer : Pointer) → IsPointerIn tree path on pointer → pointer.deferred ≡ true → IsAmong hot pointer.path)
        → (k : List Bool) (on : Bool) (pointer : Pointer) → IsPointerIn full k on pointer → pointer.deferred ≡ true → IsAmong hot pointer.path
    waits_after hot reached bare waits k on pointer is deferred = go (origin k on pointer reached bare is)
      where
        go : Origin pointer → IsAmong hot pointer.path
        go (closes_link to became same there) = absurd (false≢true (ap (λ (p : Pointer). p.deferred) (sym same) ∙ deferred))
        go (was_there path side' was apart) = waits path side' pointer was deferred

    pub hot_waits_after : AreReached tree → (h : List Bool) → IsData h → h ≢ key → IsWaiting tree h → IsWaiting full h
    hot_waits_after reached h whole cold is =
        let there = reached is.at (ap (λ (o : Option Value). is_some o) is.is.there) in
        go (kept_pointer is.at is.on is.pointer there (still_reached is.at there) is.is)
      where
        go : Kept is.pointer → IsWaiting full h
        go (in_place at side' there pointer_there) =
            record { at = at; on = side'; pointer = is.pointer; is = pointer_there; to = is.to; deferred = is.deferred }
        go (to_chain part) =
            let begins = subst (λ (p : List Bool). is_prefix p key ≡ true) is.to (part_begins full is.pointer.path part.value part.links part.is) in
            absurd (cold (data_whole h key begins whole (data-path key lead.whole)))

    pub reached_after : AreReached tree → AreReached full
    reached_after reached k there = go (classify k)
      where
        go : Part full k ⊎ (full k ≡ tree k) → IsReached full frontier k
        go (inl part) = part.is.reached
        go (inr same) = still_reached k (reached k (subst (λ (o : Option Value). IsSome o) same there))

    pub kinds_after : GivesDigests digest → IsOf longest key last → (k : List Bool) (value : Value) → full k ≡ Some value → IsOf longest k value
    kinds_after digests kind_last k value there = go (classify k)
      where
        go : Part full k ⊎ (full k ≡ tree k) → IsOf longest k value
        go (inl part) =
            subst (IsOf longest k) (same_Some _ value (sym (part_there full k part.value part.links part.is) ∙ there))
            (closed_kind full k part.value part.links digests kind_last part.is)
        go (inr same) = lead.kinds k value (sym same ∙ there)

  -- ---- which paths have records

  -- a path that had a record has one
  pub keeps_record : (links : List Link) (k : List Bool) → IsSome (base k) → IsSome (closed_records digest false base links last k)
  keeps_record [] k there = there
  keeps_record (link ∷ links) k there = go (same_path k link.path) (keeps_record links k there)
    where
      go : (b : Bool) → IsSome (closed_records digest false base links last k)
          → IsSome (if b then Some (closed_value digest false link.path link.taken links last) else closed_records digest false base links last k)
      go true rest = refl
      go false rest = rest

  -- and so has the key
  pub key_record : (path : List Bool) (value : Value) (links : List Link) (on : Bool) → IsOf longest path value → AreOf tree value
      → IsChain tree key path value links → side path key ≡ Some on
      → IsSome (closed_records digest false base links last key)
  key_record path value [] on kind known chain below =
      absurd (none-some on (sym (ap (λ (k : List Bool). side k key) chain ∙ side-self key) ∙ below))
  key_record path value (link ∷ links) on kind known chain below =
      let next = next_fits longest digest tree key lead path value link kind known chain.0 in
      key_behind link links next.begins (λ which under. key_record link.path link.taken links which next.kind next.known chain.1 under)
    where
      key_behind : (link : Link) (links : List Link) → is_prefix link.path key ≡ true
          → ((which : Bool) → side link.path key ≡ Some which → IsSome (closed_records digest false base links last key))
          → IsSome (closed_records digest false base (link ∷ links) last key)
      key_behind link links begins rest = go (same_path key link.path) refl
        where
          further : same_path key link.path ≡ false → (link.path ≡ key) ⊎ ((which : Bool) × (side link.path key ≡ Some which))
              → IsSome (closed_records digest false base links last key)
          further apart (inl same) = absurd (false≢true (sym apart ∙ (ap (same_path key) same ∙ same_path-self key)))
          further apart (inr under) = rest under.0 under.1

          go : (b : Bool) → same_path key link.path ≡ b
              → IsSome (if b then Some (closed_value digest false link.path link.taken links last) else closed_records digest false base links last key)
          go true same = refl
          go false apart = further apart (prefix_cases link.path key begins)
