-- The links of a chain: each lies below the one before, above the key or at it, and its values are of its kind.
use Rattle.std.proofs.Common.{ℕ, ◌≡◌, ◌≢◌, ◌⊎◌, Bool, true, false, List, [], ◌∷◌, ◌++◌, length, Option, Some, None, IsSome, if◌then◌else◌, refl, sym, ◌∙◌, ap, subst, inl, inr}
use Rattle.std.proofs.lemmas.Bool.{false≢true}
use Rattle.std.specs.Option.{unwrap_or}
use Rattle.tree_keys.specs.Path.{side, same_path, is_prefix, common, IsData, IsPath}
use Rattle.record_text.specs.declared.value.Pointer.{Pointer}
use Rattle.record_text.specs.declared.value.Value.{Value}
use Rattle.record_text.specs.declared.value.Value.TheVariants as values
use Rattle.record_text.specs.Value.{IsSide, IsOf, empty_node, initial_value}
use Rattle.merkle_records.specs.Merkle.{Digest, taken_over}
use Rattle.host_shard.specs.declared.link.Link.{Link}
use Rattle.host_shard.specs.Tree.{Tree, pointer_of}
use Rattle.host_shard.specs.Shard.{Shard, tree_of}
use Rattle.host_shard.specs.Chain.{last_value, closed_value, closed_records, next_link, known_link, fork_link, IsNextLink, IsChain}
use Rattle.tree_keys.proofs.PathLaws.{same_path-self}
use Rattle.tree_keys.proofs.SideLaws.{is_prefix-self, side_of_prefix, prefix_cases}
use Rattle.tree_keys.proofs.TreeLaws.{data-path, node-path, node-above}
use Rattle.record_text.proofs.ValueTextLaws.{initial_value-kind}
use Rattle.merkle_records.proofs.KindLaws.{is_prefix-side, IsSide-node_side, IsOf-with_side}

-- ---- the longest common path

-- both paths begin with it
pub common-left : (p k : List Bool) → is_prefix (common p k) p ≡ true
common-left [] k = refl
common-left (a ∷ p) [] = refl
common-left (true ∷ p) (true ∷ k) = common-left p k
common-left (true ∷ p) (false ∷ k) = refl
common-left (false ∷ p) (true ∷ k) = refl
common-left (false ∷ p) (false ∷ k) = common-left p k

pub common-right : (p k : List Bool) → is_prefix (common p k) k ≡ true
common-right [] k = refl
common-right (a ∷ p) [] = refl
common-right (true ∷ p) (true ∷ k) = common-right p k
common-right (true ∷ p) (false ∷ k) = refl
common-right (false ∷ p) (true ∷ k) = refl
common-right (false ∷ p) (false ∷ k) = common-right p k

-- it begins with all that both begin with
pub common-longest : (q p k : List Bool) → is_prefix q p ≡ true → is_prefix q k ≡ true → is_prefix q (common p k) ≡ true
common-longest [] p k h g = refl
common-longest (c ∷ q) [] k h g = absurd (false≢true h)
common-longest (c ∷ q) (a ∷ p) [] h g = absurd (false≢true g)
common-longest (true ∷ q) (true ∷ p) (true ∷ k) h g = common-longest q p k h g
common-longest (true ∷ q) (true ∷ p) (false ∷ k) h g = absurd (false≢true g)
common-longest (true ∷ q) (false ∷ p) (b ∷ k) h g = absurd (false≢true h)
common-longest (false ∷ q) (true ∷ p) (b ∷ k) h g = absurd (false≢true h)
common-longest (false ∷ q) (false ∷ p) (true ∷ k) h g = absurd (false≢true g)
common-longest (false ∷ q) (false ∷ p) (false ∷ k) h g = common-longest q p k h g

-- Where a key doesn't begin with a path, their common path lies above that path.
pub fork_above : (p k : List Bool) → is_prefix p k ≡ false → (which : Bool) × (side (common p k) p ≡ Some which)
fork_above p k apart = go (prefix_cases (common p k) p (common-left p k))
  where
    go : (common p k ≡ p) ⊎ ((which : Bool) × (side (common p k) p ≡ Some which)) → (which : Bool) × (side (common p k) p ≡ Some which)
    go (inl same) = absurd (false≢true (sym apart ∙ subst (λ (q : List Bool). is_prefix q k ≡ true) same (common-right p k)))
    go (inr above) = above

-- ---- one link

-- what a link is, on a side of the path before it, on the way to a key
pub record IsLinkOf (longest : ℕ) (key at : List Bool) (on : Bool) (link : Link) : Type 0 where
  pub below : side at link.path ≡ Some on
  pub toward : is_prefix link.path key ≡ true
  pub value : IsOf longest link.path link.value
  pub taken : IsOf longest link.path link.taken

-- each value is of its path's kind
abbrev pub AreOf : ℕ → Tree → Type 0
AreOf longest tree = (path : List Bool) (value : Value) → tree path ≡ Some value → IsOf longest path value

-- a path, its record's value or else the initial one
known_kind : (longest : ℕ) (tree : Tree) (path : List Bool) → AreOf longest tree → IsPath path → IsOf longest path (unwrap_or (tree path) (initial_value path))
known_kind longest tree path kinds fits = go (tree path) refl
  where
    go : (found : Option Value) → tree path ≡ found → IsOf longest path (unwrap_or found (initial_value path))
    go None is = initial_value-kind longest path fits
    go (Some value) is = kinds path value is

-- a fork
fork_kind : (longest : ℕ) (fork : List Bool) (which : Bool) (pointer : Pointer) → IsPath pointer.path → length pointer.digest ≡ 32 → side fork pointer.path ≡ Some which
    → IsOf longest fork (values.Node (taken_over (side fork pointer.path) pointer))
fork_kind longest fork which pointer fits digest below =
    subst (λ (s : Option Bool). IsOf longest fork (values.Node (taken_over s pointer))) (sym below)
    (IsOf-with_side longest fork empty_node which (Some pointer) (node-above fork pointer.path which below fits, tt, tt)
    (record { below = is_prefix-side fork pointer.path which below; fits = fits; digest = digest }))

-- The link behind a pointer of a side, where that is of its kind and so is each record.
pub next_link_of : (longest : ℕ) (tree : Tree) (key at : List Bool) (on : Bool) (pointer : Option Pointer)
    → IsData key → side at key ≡ Some on → AreOf longest tree → IsSide at on pointer
    → IsLinkOf longest key at on (next_link tree key pointer)
next_link_of longest tree key at on None whole below kinds fits = record {
  below = below;
  toward = is_prefix-self key;
  value = initial_value-kind longest key (data-path key whole);
  taken = initial_value-kind longest key (data-path key whole);
}
next_link_of longest tree key at on (Some pointer) whole below kinds fits = go (is_prefix pointer.path key) refl
  where
    known : is_prefix pointer.path key ≡ true → IsLinkOf longest key at on (known_link tree pointer.path)
    known toward = record {
      below = side_of_prefix at pointer.path on fits.below;
      toward = toward;
      value = known_kind longest tree pointer.path kinds fits.fits;
      taken = known_kind longest tree pointer.path kinds fits.fits;
    }

    forks : (which : Bool) × (side (common pointer.path key) pointer.path ≡ Some which) → IsLinkOf longest key at on (fork_link key pointer)
    forks above = record {
      below = side_of_prefix at (common pointer.path key) on (common-longest (at ++ on ∷ []) pointer.path key fits.below (is_prefix-side at key on below));
      toward = common-right pointer.path key;
      value = initial_value-kind longest (common pointer.path key) (node-path (common pointer.path key) (node-above (common pointer.path key) pointer.path above.0 above.1 fits.fits));
      taken = fork_kind longest (common pointer.path key) above.0 pointer fits.fits fits.digest above.1;
    }

    go : (b : Bool) → is_prefix pointer.path key ≡ b → IsLinkOf longest key at on (if b then known_link tree pointer.path else fork_link key pointer)
    go true toward = known toward
    go false apart = forks (fork_above pointer.path key apart)

-- a pointer of a value of its path's kind
pub pointer_of-kind : (longest : ℕ) (path : List Bool) (value : Value) (on : Bool) → IsOf longest path value → IsSide path on (pointer_of value on)
pointer_of-kind longest path (values.Blob blob) on kind = tt
pointer_of-kind longest path (values.Node node) on kind = IsSide-node_side longest path node on kind

-- ---- a chain

-- the link behind a path whose value is of its kind
pub next_of : (longest : ℕ) (tree : Tree) (key at : List Bool) (value : Value) (link : Link) → IsData key → AreOf longest tree → IsOf longest at value
    → (next : IsNextLink tree key at value link) → IsLinkOf longest key at next.on link
next_of longest tree key at value link whole kinds kind next =
    subst (IsLinkOf longest key at next.on) (sym next.next)
    (next_link_of longest tree key at next.on (pointer_of value next.on) whole next.on_side kinds (pointer_of-kind longest at value next.on kind))

-- the frontier's own value
pub frontier_kind : (longest : ℕ) (shard : Shard) → AreOf longest (tree_of shard) → IsOf longest shard.frontier shard.value
frontier_kind longest shard kinds =
    kinds shard.frontier shard.value (ap (λ (b : Bool). if b then Some shard.value else shard.records shard.frontier) (same_path-self shard.frontier))

-- The value at the chain's end is of the key's kind.
pub last_kind : (longest : ℕ) (tree : Tree) (key at : List Bool) (value : Value) (links : List Link) → IsData key → AreOf longest tree → IsOf longest at value
    → IsChain tree key at value links → IsOf longest key (last_value value links)
last_kind longest tree key at value [] whole kinds kind ends = subst (λ (k : List Bool). IsOf longest k value) ends kind
last_kind longest tree key at value (link ∷ links) whole kinds kind chain =
    last_kind longest tree key link.path link.taken links whole kinds (next_of longest tree key at value link whole kinds kind chain.0).taken chain.1

-- Behind a chain to a key below its start the key has a record.
pub closed_end : (digest : Digest) (lent : Bool) (tree kept : Tree) (key at : List Bool) (value : Value) (links : List Link) (last : Value)
    → at ≢ key → IsChain tree key at value links → IsSome (closed_records digest lent kept links last key)
closed_end digest lent tree kept key at value [] last apart ends = absurd (apart ends)
closed_end digest lent tree kept key at value (link ∷ links) last apart chain =
    found (same_path key link.path) refl (λ other. closed_end digest lent tree kept key link.path link.taken links last other chain.1)
  where
    found : (b : Bool) → same_path key link.path ≡ b → (link.path ≢ key → IsSome (closed_records digest lent kept links last key))
        → IsSome (if b then Some (closed_value digest lent link.path link.taken links last) else closed_records digest lent kept links last key)
    found true same rest = refl
    found false other rest = rest (λ is. false≢true (sym other ∙ ap (same_path key) is ∙ same_path-self key))
