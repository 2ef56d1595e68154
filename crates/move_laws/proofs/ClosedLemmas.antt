-- The records behind a transfer: where the pointers on the way lead, and which have stayed as they were.
use Rattle.std.proofs.Common.{ℕ, ◌≡◌, ◌≢◌, ◌⊎◌, Bool, true, false, not, List, [], ◌∷◌, ◌++◌, Option, Some, None, is_some, IsSome, IsTrue, if◌then◌else◌, refl, sym, ◌∙◌, ap, subst, inl, inr}
use Rattle.std.specs.List.{IsAmong}
use Rattle.std.proofs.lemmas.Bool.{false≢true}
use Rattle.std.proofs.lemmas.Option.{none-some, same_Some}
use Rattle.tree_keys.specs.Path.{side, is_prefix, same_path, IsData, IsPath}
use Rattle.tree_keys.proofs.PathLaws.{same_path-self, same_path-true, same_path-apart}
use Rattle.tree_keys.proofs.SideLaws.{side-self, is_prefix-self, is_prefix-trans, prefix_of_side, side-prefix, side-trans}
use Rattle.tree_keys.proofs.TreeLaws.{data-path}
use Rattle.verifier_commands.proofs.BelowLaws.{below_apart}
use Rattle.record_text.specs.declared.value.Pointer.{Pointer}
use Rattle.record_text.specs.declared.value.Node.{Node}
use Rattle.record_text.specs.declared.value.Value.{Value}
use Rattle.record_text.specs.declared.value.Value.TheVariants as values
use Rattle.record_text.specs.Value.{IsPointer, IsOf, node_side, with_side}
use Rattle.merkle_records.specs.Merkle.{Digest, GivesDigests, pointer_to, deferred_pointer}
use Rattle.merkle_records.proofs.KindLaws.{is_prefix-side, IsOf-with_side, node_side-with_side}
use Rattle.host_shard.specs.declared.link.Link.{Link}
use Rattle.host_shard.specs.Tree.{Tree, pointer_of, with_record, IsPointerIn, IsReached, at_start, by_pointer}
use Rattle.host_shard.specs.Chain.{aimed, aimed_on, closed_pointer, closed_value, closed_records}
use Rattle.host_shard.specs.Mirrors.{IsKept, IsWaiting}
use Rattle.host_laws.proofs.DepthLaws.{data_whole, kind_path, whole_none}
use Rattle.host_laws.proofs.ForkLaws.{sides_apart}
use Rattle.move_laws.proofs.WayLemmas.{AreOf, IsStep, IsWay, side_in, pointer_side, last_pointer}
use Rattle.move_laws.proofs.AlongLemmas.{left_by}

-- ---- small cases

-- a side is another one, or its other
one_or_other : (a b : Bool) → (a ≡ b) ⊎ (b ≡ not a)
one_or_other true true = inl refl
one_or_other true false = inr refl
one_or_other false true = inr refl
one_or_other false false = inl refl

no_other : (b : Bool) → b ≢ not b
no_other true same = false≢true (sym same)
no_other false same = false≢true same

-- the pointer of the other side stays
other_stays : (node : Node) (on which : Bool) (pointer : Option Pointer) → which ≡ not on → node_side (with_side node which pointer) on ≡ node_side node on
other_stays node true true pointer same = absurd (false≢true (sym same))
other_stays node true false pointer same = refl
other_stays node false true pointer same = refl
other_stays node false false pointer same = absurd (false≢true same)

left_kept : (lent : Bool) (tree : Tree) (key path : List Bool) → lent ≡ false → left_by lent tree key path ≡ tree path
left_kept false tree key path is = refl
left_kept true tree key path is = absurd (false≢true (sym is))

left_other : (lent : Bool) (tree : Tree) (key path : List Bool) → same_path path key ≡ false → left_by lent tree key path ≡ tree path
left_other false tree key path apart = refl
left_other true tree key path apart = ap (λ (b : Bool). if b then None else tree path) apart

left_or_none : (lent : Bool) (tree : Tree) (key path : List Bool) → (left_by lent tree key path ≡ tree path) ⊎ (left_by lent tree key path ≡ None)
left_or_none false tree key path = inl refl
left_or_none true tree key path = go (same_path path key)
  where
    go : (b : Bool) → ((if b then None else tree path) ≡ tree path) ⊎ ((if b then None else tree path) ≡ None)
    go true = inr refl
    go false = inl refl

-- the pointer that closes a link
data Closing (digest : Digest) (lent : Bool) (link : Link) (links : List Link) (became : Value) : Type 0 where
  comes_to_rest : lent ≡ false → closed_pointer digest lent link links became ≡ pointer_to digest link.path became
      → Closing digest lent link links became
  is_lent : lent ≡ true → links ≡ [] → closed_pointer digest lent link links became ≡ deferred_pointer (pointer_to digest link.path link.value)
      → Closing digest lent link links became
  goes_on : (next : Link) (more : List Link) → links ≡ next ∷ more → closed_pointer digest lent link links became ≡ pointer_to digest link.path became
      → Closing digest lent link links became

closing : (digest : Digest) (lent : Bool) (link : Link) (links : List Link) (became : Value) → Closing digest lent link links became
closing digest false link links became = comes_to_rest refl refl
closing digest true link [] became = is_lent refl refl refl
closing digest true link (next ∷ links) became = goes_on next links refl refl

closed_path : (digest : Digest) (lent : Bool) (link : Link) (links : List Link) (became : Value)
    → (closed_pointer digest lent link links became).path ≡ link.path
closed_path digest false link links became = refl
closed_path digest true link [] became = refl
closed_path digest true link (next ∷ links) became = refl

closing_kind : (digest : Digest) (lent : Bool) (at : List Bool) (on : Bool) (link : Link) (links : List Link) (became : Value) → GivesDigests digest
    → IsTrue (is_prefix (at ++ on ∷ []) link.path) → IsPath link.path
    → IsPointer at on (closed_pointer digest lent link links became)
closing_kind digest false at on link links became digests below fits = record { below = below; fits = fits; digest = digests _ }
closing_kind digest true at on link [] became digests below fits = record { below = below; fits = fits; digest = digests _ }
closing_kind digest true at on link (next ∷ links) became digests below fits = record { below = below; fits = fits; digest = digests _ }

-- what has a way to the key begins it
way_begins : (longest : ℕ) (tree : Tree) (key : List Bool) (late : Bool) (at : List Bool) (value : Value) (links : List Link) → IsWay longest tree key late at value links → is_prefix at key ≡ true
way_begins longest tree key late at value [] way = subst (λ (k : List Bool). is_prefix k key ≡ true) (sym way) (is_prefix-self key)
way_begins longest tree key late at value (link ∷ links) way = prefix_of_side at key way.0.on way.0.on_side

-- ---- a transfer

module _ (longest : ℕ) (digest : Digest) (tree base : Tree) (frontier : List Bool) (top : Value) (key : List Bool) (lent : Bool) (last : Value) (links : List Link) where
  -- What is known before: the way to the key's record, and that each record is reached.
  pub record Ground : Type 0 where
    pub kinds : AreOf longest tree
    pub whole : IsData key
    pub apart : frontier ≢ key
    pub is_top : (k : List Bool) → tree k ≡ with_record base frontier top k
    pub way : IsWay longest tree key (not lent) frontier top links
    pub end : tree key ≡ Some last
    pub reached : (k : List Bool) → IsSome (tree k) → IsReached tree frontier k

  -- the records while the key's stands there, and once it is lent, if it is
  abbrev full : Tree
  full = with_record (closed_records digest lent base links last) frontier (closed_value digest lent frontier top links last)

  abbrev pub behind : Tree
  behind = with_record (left_by lent (closed_records digest lent base links last) key) frontier (closed_value digest lent frontier top links last)

  module _ (ground : Ground) where
    -- the key's own record aside, these are the same
    behind_by : (k : List Bool) → left_by lent (closed_records digest lent base links last) key k ≡ closed_records digest lent base links last k → behind k ≡ full k
    behind_by k is = ap (λ (o : Option Value). if same_path k frontier then Some (closed_value digest lent frontier top links last) else o) is

    behind_other : (k : List Bool) → same_path k key ≡ false → behind k ≡ full k
    behind_other k apart = behind_by k (left_other lent (closed_records digest lent base links last) key k apart)

    full_of : (k : List Bool) (value : Value) → behind k ≡ Some value → full k ≡ Some value
    full_of k value is = go (left_or_none lent (closed_records digest lent base links last) key k)
      where
        hidden : (b : Bool) → (if b then Some (closed_value digest lent frontier top links last) else None) ≡ Some value
            → (if b then Some (closed_value digest lent frontier top links last) else closed_records digest lent base links last k) ≡ Some value
        hidden true there = there
        hidden false there = absurd (none-some value there)

        go : (left_by lent (closed_records digest lent base links last) key k ≡ closed_records digest lent base links last k)
            ⊎ (left_by lent (closed_records digest lent base links last) key k ≡ None) → full k ≡ Some value
        go (inl same) = sym (behind_by k same) ∙ is
        go (inr none) =
            hidden (same_path k frontier)
            (ap (λ (o : Option Value). if same_path k frontier then Some (closed_value digest lent frontier top links last) else o) (sym none) ∙ is)

    -- each path of the way has its value at the end
    abbrev Stands : List Bool → Value → List Link → Type 0
    Stands at value [] = full at ≡ Some last
    Stands at value (link ∷ more) =
        (full at ≡ Some (closed_value digest lent at value (link ∷ more) last)) × Stands link.path link.taken more

    stands : (at : List Bool) (value : Value) (more : List Link) → IsWay longest tree key (not lent) at value more
        → full at ≡ Some (closed_value digest lent at value more last)
        → ((k : List Bool) (on : Bool) → side at k ≡ Some on → full k ≡ closed_records digest lent base more last k)
        → Stands at value more
    stands at value [] way here agrees = here
    stands at value (link ∷ more) way here agrees =
        let became = closed_value digest lent link.path link.taken more last in (
          here,
          stands link.path link.taken more way.1
              (agrees link.path way.0.on way.0.below
              ∙ ap (λ (b : Bool). if b then Some became else closed_records digest lent base more last link.path) (same_path-self link.path))
              (λ k on below. agrees k way.0.on (side-trans at link.path k way.0.on on way.0.below below)
              ∙ ap (λ (b : Bool). if b then Some became else closed_records digest lent base more last k)
              (same_path-apart k link.path (below_apart link.path k on below))),
        )

    -- a path of the way, with its value before and the links behind it
    record On (k : List Bool) : Type 0 where
      pub value : Value
      pub more : List Link
      pub way : IsWay longest tree key (not lent) k value more
      pub was : tree k ≡ Some value
      pub stands : Stands k value more

    top_there : tree frontier ≡ Some top
    top_there = ground.is_top frontier ∙ ap (λ (b : Bool). if b then Some top else base frontier) (same_path-self frontier)

    first_stands : Stands frontier top links
    first_stands =
        stands frontier top links ground.way
        (ap (λ (b : Bool). if b then Some became else closed_records digest lent base links last frontier) (same_path-self frontier))
        (λ k on below. ap (λ (b : Bool). if b then Some became else closed_records digest lent base links last k)
        (same_path-apart k frontier (below_apart frontier k on below)))
      where
        became : Value
        became = closed_value digest lent frontier top links last

    first_on : On frontier
    first_on = record { value = top; more = links; way = ground.way; was = top_there; stands = first_stands }

    stands_here : (k : List Bool) (value : Value) (more : List Link) → Stands k value more → full k ≡ Some (closed_value digest lent k value more last)
    stands_here k value [] is = is
    stands_here k value (link ∷ more) is = is.0

    -- each path is on the way, or has its record as before
    find : (k at : List Bool) (value : Value) (more : List Link) → IsWay longest tree key (not lent) at value more → Stands at value more
        → On k ⊎ (closed_records digest lent base more last k ≡ base k)
    find k at value [] way is = inr refl
    find k at value (link ∷ more) way is = go (same_path k link.path) refl (find k link.path link.taken more way.1 is.1)
      where
        became : Value
        became = closed_value digest lent link.path link.taken more last

        go : (b : Bool) → same_path k link.path ≡ b → On k ⊎ (closed_records digest lent base more last k ≡ base k)
            → On k ⊎ (closed_records digest lent base (link ∷ more) last k ≡ base k)
        go true same rest =
            inl (subst On (sym (same_path-true k link.path same)) (record { value = link.taken; more = more; way = way.1; was = way.0.there; stands = is.1 }))
        go false apart (inl found) = inl found
        go false apart (inr kept) =
            inr (ap (λ (b : Bool). if b then Some became else closed_records digest lent base more last k) apart ∙ kept)

    classify : (k : List Bool) → On k ⊎ (full k ≡ tree k)
    classify k = go (same_path k frontier) refl (find k frontier top links ground.way first_stands)
      where
        became : Value
        became = closed_value digest lent frontier top links last

        go : (b : Bool) → same_path k frontier ≡ b → On k ⊎ (closed_records digest lent base links last k ≡ base k) → On k ⊎ (full k ≡ tree k)
        go true same rest = inl (subst On (sym (same_path-true k frontier same)) first_on)
        go false apart (inl found) = inl found
        go false apart (inr kept) =
            inr (ap (λ (b : Bool). if b then Some became else closed_records digest lent base links last k) apart
            ∙ (kept ∙ sym (ground.is_top k ∙ ap (λ (b : Bool). if b then Some top else base k) apart)))

    -- what doesn't begin the key is as before
    unchanged : (k : List Bool) → is_prefix k key ≡ false → full k ≡ tree k
    unchanged k apart = go (classify k)
      where
        go : On k ⊎ (full k ≡ tree k) → full k ≡ tree k
        go (inl at) = absurd (false≢true (sym apart ∙ way_begins longest tree key (not lent) k at.value at.more at.way))
        go (inr same) = same

    -- a pointer of a step's path on the key's side is the step's
    is_step : (k : List Bool) (value : Value) (link : Link) (on : Bool) (pointer : Pointer) → (step : IsStep longest tree key (not lent) k value link)
        → pointer_of value on ≡ Some pointer → on ≡ step.on → pointer ≡ step.pointer
    is_step k value link on pointer step leads same =
        same_Some pointer step.pointer
        (sym leads ∙ (ap (λ (v : Value). pointer_of v on) step.is_node ∙ (ap (λ (s : Bool). node_side step.node s) same ∙ step.points)))

    -- what is reached and begins the key is on the way
    on_way : (k : List Bool) → IsReached tree frontier k → is_prefix k key ≡ true → On k
    on_way k at_start begins = first_on
    on_way k (by_pointer path on pointer reached is) begins =
        next (on_way path reached (is_prefix-trans path pointer.path key (prefix_of_side path pointer.path on here) begins))
      where
        here : side path pointer.path ≡ Some on
        here = side_in longest tree path on pointer ground.kinds is

        toward : side path key ≡ Some on
        toward = side-prefix path pointer.path key on here begins

        next : On path → On pointer.path
        next at = go at.more at.way at.stands
          where
            leads : pointer_of at.value on ≡ Some pointer
            leads = ap (λ (v : Value). pointer_of v on) (same_Some at.value is.value (sym at.was ∙ is.there)) ∙ is.leads

            go : (more : List Link) → IsWay longest tree key (not lent) path at.value more → Stands path at.value more → On pointer.path
            go [] way stands' = absurd (none-some on (sym (ap (λ (j : List Bool). side j key) way ∙ side-self key) ∙ toward))
            go (link ∷ more) way stands' =
                subst On
                (sym (ap (λ (p : Pointer). p.path) (is_step path at.value link on pointer way.0 leads (same_Some on way.0.on (sym toward ∙ way.0.on_side))) ∙ way.0.to))
                (record { value = link.taken; more = more; way = way.1; was = way.0.there; stands = stands'.1 })

    -- a path's value at the end: its own but for the pointer to the next link
    closed_is : (k : List Bool) (value : Value) (link : Link) (more : List Link) → (step : IsStep longest tree key (not lent) k value link)
        → closed_value digest lent k value (link ∷ more) last
        ≡ values.Node (with_side step.node step.on (Some (closed_pointer digest lent link more (closed_value digest lent link.path link.taken more last))))
    closed_is k value link more step =
        ap (λ (v : Value). aimed k v closes) step.is_node
        ∙ ap (λ (s : Option Bool). aimed_on step.node closes s) (ap (side k) (closed_path digest lent link more became) ∙ step.below)
      where
        became : Value
        became = closed_value digest lent link.path link.taken more last

        closes : Pointer
        closes = closed_pointer digest lent link more became

    -- a path with a pointer isn't the key
    no_key : (k : List Bool) (on : Bool) (pointer : Pointer) → IsPointerIn tree k on pointer → same_path k key ≡ false
    no_key k on pointer is =
        same_path-apart k key
        (λ same. whole_none longest k is.value on pointer (ground.kinds k is.value is.there) (subst IsData (sym same) ground.whole) is.leads)

    -- ---- where a pointer that was there leads now

    -- a pointer of the same side, to the same path; the same one, if that doesn't begin the key
    record Again (path : List Bool) (on : Bool) (old : Pointer) : Type 0 where
      pub pointer : Pointer
      pub is : IsPointerIn behind path on pointer
      pub to : pointer.path ≡ old.path
      pub same : is_prefix old.path key ≡ false → pointer ≡ old

    again : (path : List Bool) (on : Bool) (pointer : Pointer) → IsReached tree frontier path → IsPointerIn tree path on pointer → Again path on pointer
    again path on pointer reached is = go (is_prefix path key) refl
      where
        apart : behind path ≡ full path
        apart = behind_other path (no_key path on pointer is)

        along : (at : On path) → (more : List Link) → IsWay longest tree key (not lent) path at.value more → Stands path at.value more → Again path on pointer
        along at [] way stands' =
            absurd (false≢true (sym (no_key path on pointer is) ∙ (ap (same_path path) (sym way) ∙ same_path-self path)))
        along at (link ∷ more) way stands' = turn (one_or_other on way.0.on)
          where
            leads : pointer_of at.value on ≡ Some pointer
            leads = ap (λ (v : Value). pointer_of v on) (same_Some at.value is.value (sym at.was ∙ is.there)) ∙ is.leads

            closes : Pointer
            closes = closed_pointer digest lent link more (closed_value digest lent link.path link.taken more last)

            now : Value
            now = closed_value digest lent path at.value (link ∷ more) last

            turn : (on ≡ way.0.on) ⊎ (way.0.on ≡ not on) → Again path on pointer
            turn (inl same) = record {
              pointer = closes;
              is = record {
                value = now;
                there = apart ∙ stands'.0;
                leads = ap (λ (v : Value). pointer_of v on) (closed_is path at.value link more way.0)
                    ∙ (ap (λ (s : Bool). node_side (with_side way.0.node way.0.on (Some closes)) s) same ∙ node_side-with_side way.0.node way.0.on (Some closes));
              };
              to = closed_path digest lent link more _ ∙ sym to_link;
              same = λ aside. absurd (false≢true (sym aside ∙ (ap (λ (j : List Bool). is_prefix j key) to_link ∙ way.0.begins)));
            }
              where
                to_link : pointer.path ≡ link.path
                to_link = ap (λ (p : Pointer). p.path) (is_step path at.value link on pointer way.0 leads same) ∙ way.0.to
            turn (inr other) = record {
              pointer = pointer;
              is = record {
                value = now;
                there = apart ∙ stands'.0;
                leads = ap (λ (v : Value). pointer_of v on) (closed_is path at.value link more way.0)
                    ∙ (other_stays way.0.node on way.0.on (Some closes) other ∙ (ap (λ (v : Value). pointer_of v on) (sym way.0.is_node) ∙ leads));
              };
              to = refl;
              same = λ aside. refl;
            }

        go : (b : Bool) → is_prefix path key ≡ b → Again path on pointer
        go true begins = let at = on_way path reached begins in along at at.more at.way at.stands
        go false aside = record {
          pointer = pointer;
          is = record { value = is.value; there = apart ∙ (unchanged path aside ∙ is.there); leads = is.leads };
          to = refl;
          same = λ other. refl;
        }

    -- what was reached is reached
    still_reached : (k : List Bool) → IsReached tree frontier k → IsReached behind frontier k
    still_reached k at_start = at_start
    still_reached k (by_pointer path on pointer reached is) =
        let now = again path on pointer reached is in
        subst (IsReached behind frontier) now.to (by_pointer path on now.pointer (still_reached path reached) now.is)

    -- ---- where a pointer that is there comes from

    -- it closes a link, or was there and doesn't lead to the key
    data Origin (pointer : Pointer) : Type 0 where
      closes_link : (link : Link) (more : List Link) → IsWay longest tree key (not lent) link.path link.taken more → Stands link.path link.taken more
          → pointer ≡ closed_pointer digest lent link more (closed_value digest lent link.path link.taken more last) → Origin pointer
      was_there : (path : List Bool) (on : Bool) → IsPointerIn tree path on pointer → is_prefix pointer.path key ≡ false → Origin pointer

    origin : (k : List Bool) (on : Bool) (pointer : Pointer) → IsPointerIn behind k on pointer → Origin pointer
    origin k on pointer is = go (classify k)
      where
        there : full k ≡ Some is.value
        there = full_of k is.value is.there

        along : (at : On k) → (more : List Link) → IsWay longest tree key (not lent) k at.value more → Stands k at.value more → Origin pointer
        along at [] way stands' =
            absurd (whole_none longest k last on pointer
            (subst (λ (j : List Bool). IsOf longest j last) (sym way) (ground.kinds key last ground.end))
            (subst IsData (sym way) ground.whole)
            (ap (λ (v : Value). pointer_of v on) (same_Some last is.value (sym stands' ∙ there)) ∙ is.leads))
        along at (link ∷ more) way stands' = turn (one_or_other on way.0.on)
          where
            closes : Pointer
            closes = closed_pointer digest lent link more (closed_value digest lent link.path link.taken more last)

            found : node_side (with_side way.0.node way.0.on (Some closes)) on ≡ Some pointer
            found =
                sym (ap (λ (v : Value). pointer_of v on) (same_Some is.value _ (sym there ∙ stands'.0) ∙ closed_is k at.value link more way.0)) ∙ is.leads

            turn : (on ≡ way.0.on) ⊎ (way.0.on ≡ not on) → Origin pointer
            turn (inl same) =
                closes_link link more way.1 stands'.1
                (same_Some pointer closes
                (sym found ∙ (ap (λ (s : Bool). node_side (with_side way.0.node way.0.on (Some closes)) s) same ∙ node_side-with_side way.0.node way.0.on (Some closes))))
            turn (inr other) =
                was_there k on (record { value = at.value; there = at.was; leads = leads })
                (sides_apart k pointer.path key on (not on)
                (pointer_side longest k at.value on pointer (ground.kinds k at.value at.was) leads) (way.0.on_side ∙ ap (λ (s : Bool). Some s) other) (no_other on))
              where
                leads : pointer_of at.value on ≡ Some pointer
                leads = ap (λ (v : Value). pointer_of v on) way.0.is_node ∙ (sym (other_stays way.0.node on way.0.on (Some closes) other) ∙ found)

        go : On k ⊎ (full k ≡ tree k) → Origin pointer
        go (inl at) = along at at.more at.way at.stands
        go (inr same) = beside (is_prefix k key) refl
          where
            was : tree k ≡ Some is.value
            was = sym same ∙ there

            beside : (b : Bool) → is_prefix k key ≡ b → Origin pointer
            beside true begins =
                let at = on_way k (ground.reached k (ap (λ (o : Option Value). is_some o) was)) begins in along at at.more at.way at.stands
            beside false aside =
                was_there k on (record { value = is.value; there = was; leads = is.leads }) (no_prefix (is_prefix pointer.path key) refl)
              where
                no_prefix : (b : Bool) → is_prefix pointer.path key ≡ b → is_prefix pointer.path key ≡ false
                no_prefix false not_so = not_so
                no_prefix true begins =
                    absurd (false≢true (sym aside
                    ∙ is_prefix-trans k pointer.path key
                    (prefix_of_side k pointer.path on (pointer_side longest k is.value on pointer (ground.kinds k is.value was) is.leads)) begins))

    -- ---- what holds behind it

    pub kinds_behind : GivesDigests digest → (k : List Bool) (value : Value) → behind k ≡ Some value → IsOf longest k value
    kinds_behind digests k value is = go (classify k)
      where
        closed_kind : (at : List Bool) (before : Value) (more : List Link) → IsWay longest tree key (not lent) at before more → IsOf longest at before
            → IsOf longest at (closed_value digest lent at before more last)
        closed_kind at before [] way kind = subst (λ (j : List Bool). IsOf longest j last) (sym way) (ground.kinds key last ground.end)
        closed_kind at before (link ∷ more) way kind =
            subst (IsOf longest at) (sym (closed_is at before link more way.0))
            (IsOf-with_side longest at way.0.node way.0.on _ (subst (IsOf longest at) way.0.is_node kind)
            (closing_kind digest lent at way.0.on link more _ digests (is_prefix-side at link.path way.0.on way.0.below)
            (kind_path longest link.path link.taken way.0.kind)))

        go : On k ⊎ (full k ≡ tree k) → IsOf longest k value
        go (inl at) =
            subst (IsOf longest k) (same_Some _ value (sym (stands_here k at.value at.more at.stands) ∙ full_of k value is))
            (closed_kind k at.value at.more at.way (ground.kinds k at.value at.was))
        go (inr same) = ground.kinds k value (sym same ∙ full_of k value is)

    pub reached_behind : (k : List Bool) → IsSome (behind k) → IsReached behind frontier k
    reached_behind k there = still_reached k (ground.reached k (some (behind k) refl there))
      where
        was : (value : Value) → full k ≡ Some value → On k ⊎ (full k ≡ tree k) → IsSome (tree k)
        was value is (inl at) = ap (λ (o : Option Value). is_some o) at.was
        was value is (inr same) = ap (λ (o : Option Value). is_some o) (sym same ∙ is)

        some : (o : Option Value) → behind k ≡ o → IsSome o → IsSome (tree k)
        some None is no_value = absurd (false≢true no_value)
        some (Some value) is a_value = was value (full_of k value is) (classify k)

    pub kept_behind : ((path : List Bool) (on : Bool) (pointer : Pointer) → IsPointerIn tree path on pointer → pointer.deferred ≡ false
        → is_prefix pointer.path key ≡ false → IsKept digest tree pointer)
        → (k : List Bool) (on : Bool) (pointer : Pointer) → IsPointerIn behind k on pointer → pointer.deferred ≡ false → IsKept digest behind pointer
    kept_behind kept k on pointer is fresh = go (origin k on pointer is)
      where
        closed : (link : Link) (more : List Link) → IsWay longest tree key (not lent) link.path link.taken more → Stands link.path link.taken more
            → Closing digest lent link more (closed_value digest lent link.path link.taken more last)
            → pointer ≡ closed_pointer digest lent link more (closed_value digest lent link.path link.taken more last)
            → IsKept digest behind pointer
        closed link more way stands' (comes_to_rest no_loan closes) same =
            subst (IsKept digest behind) (sym (same ∙ closes))
            (record {
              value = closed_value digest lent link.path link.taken more last;
              there = behind_by link.path (left_kept lent (closed_records digest lent base links last) key link.path no_loan)
                  ∙ stands_here link.path link.taken more stands';
              digest_of = refl;
            })
        closed link more way stands' (is_lent loan none closes) same =
            absurd (false≢true (sym fresh ∙ ap (λ (p : Pointer). p.deferred) (same ∙ closes)))
        closed link more way stands' (goes_on next rest is_more closes) same =
            subst (IsKept digest behind) (sym (same ∙ closes))
            (record {
              value = closed_value digest lent link.path link.taken more last;
              there = behind_other link.path (above next rest (subst (IsWay longest tree key (not lent) link.path link.taken) is_more way))
                  ∙ stands_here link.path link.taken more stands';
              digest_of = refl;
            })
          where
            above : (next : Link) (rest : List Link) → IsWay longest tree key (not lent) link.path link.taken (next ∷ rest) → same_path link.path key ≡ false
            above next rest way =
                same_path-apart link.path key
                (λ same. none-some way.0.on (sym (ap (λ (j : List Bool). side j key) same ∙ side-self key) ∙ way.0.on_side))

        go : Origin pointer → IsKept digest behind pointer
        go (closes_link link more way stands' same) = closed link more way stands' (closing digest lent link more _) same
        go (was_there path side' was aside) =
            let before = kept path side' pointer was fresh aside in
            record {
              value = before.value;
              there = behind_other pointer.path (no_prefix pointer.path aside) ∙ (unchanged pointer.path aside ∙ before.there);
              digest_of = before.digest_of;
            }
          where
            no_prefix : (j : List Bool) → is_prefix j key ≡ false → same_path j key ≡ false
            no_prefix j apart =
                same_path-apart j key (λ same. false≢true (sym apart ∙ subst (λ (i : List Bool). is_prefix i key ≡ true) (sym same) (is_prefix-self key)))

    pub waits_behind : (hot : List (List Bool)) → (lent ≡ true → IsAmong hot key)
        → ((path : List Bool) (on : Bool) (pointer : Pointer) → IsPointerIn tree path on pointer → pointer.deferred ≡ true
        → is_prefix pointer.path key ≡ false → IsAmong hot pointer.path)
        → (k : List Bool) (on : Bool) (pointer : Pointer) → IsPointerIn behind k on pointer → pointer.deferred ≡ true → IsAmong hot pointer.path
    waits_behind hot own waits k on pointer is deferred = go (origin k on pointer is)
      where
        closed : (link : Link) (more : List Link) → IsWay longest tree key (not lent) link.path link.taken more
            → Closing digest lent link more (closed_value digest lent link.path link.taken more last)
            → pointer ≡ closed_pointer digest lent link more (closed_value digest lent link.path link.taken more last)
            → IsAmong hot pointer.path
        closed link more way (comes_to_rest no_loan closes) same = absurd (false≢true (sym (ap (λ (p : Pointer). p.deferred) (same ∙ closes)) ∙ deferred))
        closed link more way (is_lent loan none closes) same =
            subst (IsAmong hot) (sym (ap (λ (p : Pointer). p.path) (same ∙ closes) ∙ subst (IsWay longest tree key (not lent) link.path link.taken) none way)) (own loan)
        closed link more way (goes_on next rest is_more closes) same =
            absurd (false≢true (sym (ap (λ (p : Pointer). p.deferred) (same ∙ closes)) ∙ deferred))

        go : Origin pointer → IsAmong hot pointer.path
        go (closes_link link more way stands' same) = closed link more way (closing digest lent link more _) same
        go (was_there path side' was aside) = waits path side' pointer was deferred aside

    pub hot_waits_behind : (h : List Bool) → IsData h → h ≢ key → IsWaiting tree h → IsWaiting behind h
    hot_waits_behind h whole other is =
        record {
          at = is.at;
          on = is.on;
          pointer = is.pointer;
          is = subst (IsPointerIn behind is.at is.on) (now.same (aside (is_prefix is.pointer.path key) refl)) now.is;
          to = is.to;
          deferred = is.deferred;
        }
      where
        now : Again is.at is.on is.pointer
        now = again is.at is.on is.pointer (ground.reached is.at (ap (λ (o : Option Value). is_some o) is.is.there)) is.is

        aside : (b : Bool) → is_prefix is.pointer.path key ≡ b → is_prefix is.pointer.path key ≡ false
        aside false not_so = not_so
        aside true begins =
            absurd (other (data_whole h key (subst (λ (j : List Bool). is_prefix j key ≡ true) is.to begins) whole (data-path key ground.whole)))

    -- where the key's record is lent, its pointer says so
    pub key_waits : lent ≡ true → IsWaiting behind key
    key_waits loan =
        record {
          at = from.0;
          on = from.1;
          pointer = now.pointer;
          is = now.is;
          to = to_key;
          deferred = go (origin from.0 from.1 now.pointer now.is);
        }
      where
        from : (at : List Bool) × (on : Bool) × (pointer : Pointer) × (IsReached tree frontier at) × (IsPointerIn tree at on pointer) × (pointer.path ≡ key)
        from = last_pointer tree frontier key (ground.reached key (ap (λ (o : Option Value). is_some o) ground.end)) ground.apart

        now : Again from.0 from.1 from.2
        now = again from.0 from.1 from.2 from.3 from.4

        to_key : now.pointer.path ≡ key
        to_key = now.to ∙ from.5

        closed : (link : Link) (more : List Link) → IsWay longest tree key (not lent) link.path link.taken more
            → Closing digest lent link more (closed_value digest lent link.path link.taken more last)
            → now.pointer ≡ closed_pointer digest lent link more (closed_value digest lent link.path link.taken more last)
            → now.pointer.deferred ≡ true
        closed link more way (comes_to_rest no_loan closes) same = absurd (false≢true (sym no_loan ∙ loan))
        closed link more way (is_lent also none closes) same = ap (λ (p : Pointer). p.deferred) (same ∙ closes)
        closed link more way (goes_on next rest is_more closes) same =
            absurd (above next rest (subst (IsWay longest tree key (not lent) link.path link.taken) is_more way))
          where
            above : (next : Link) (rest : List Link) → IsWay longest tree key (not lent) link.path link.taken (next ∷ rest) → ⊥
            above next rest way =
                none-some way.0.on (sym (ap (λ (j : List Bool). side j key) (sym (ap (λ (p : Pointer). p.path) (same ∙ closes)) ∙ to_key) ∙ side-self key) ∙ way.0.on_side)

        go : Origin now.pointer → now.pointer.deferred ≡ true
        go (closes_link link more way stands' same) = closed link more way (closing digest lent link more _) same
        go (was_there path side' was aside) =
            absurd (false≢true (sym aside ∙ (ap (λ (j : List Bool). is_prefix j key) to_key ∙ is_prefix-self key)))
