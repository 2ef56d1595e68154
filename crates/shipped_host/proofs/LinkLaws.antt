-- The chain to a key is one list of links, and there is one where each value is of its path's kind.
use Rattle.std.proofs.Common.{◌≡◌, ℕ, zero, suc, ◌+◌, ◌≤◌, Bool, true, false, List, [], ◌∷◌, length, Option, Some, None, is_some, inl, inr, ◌⊎◌, if◌then◌else◌, refl, sym, ◌∙◌, ap, subst, arith}
use Rattle.std.proofs.lemmas.Bool.{false≢true}
use Rattle.tree_keys.specs.Path.{side, same_path, is_prefix, IsBelow, IsData, depth}
use Rattle.tree_keys.proofs.PathLaws.{same_path-self, same_path-true, same_path-apart}
use Rattle.tree_keys.proofs.SideLaws.{prefix_cases, prefix_of_side, above_apart}
use Rattle.record_text.specs.declared.value.Value.{Value}
use Rattle.record_text.specs.Value.{IsOf}
use Rattle.merkle_records.proofs.KindLaws.{length-side}
use Rattle.host_shard.specs.declared.link.Link.{Link}
use Rattle.host_shard.specs.Tree.{Tree}
use Rattle.host_shard.specs.Chain.{IsChain, IsNextLink, next_link, pointer_toward}
use Rattle.host_shard.specs.Shard.{Shard, tree_of}
use Rattle.host_shard.specs.Mirrors.{IsShard, IsKeyOf}
use Rattle.host_shard.proofs.ChainLaws.{AreOf, next_of, frontier_kind}
use Rattle.host_laws.proofs.DepthLaws.{some_path}
use Rattle.shipped_host.specs.Links.{link_behind, links_within, links_in}

-- the side of what lies below a path
below_side : (p k : List Bool) → IsBelow p k → (on : Bool) × (side p k ≡ Some on)
below_side p k below = go (side p k) refl below
  where
    go : (found : Option Bool) → side p k ≡ found → is_some found ≡ true → (on : Bool) × (side p k ≡ Some on)
    go None is some = absurd (false≢true some)
    go (Some on) is some = (on, is)

module _ (longest : ℕ) (tree : Tree) (key : List Bool) where
  -- the link that comes next is the one behind
  next_is : (at : List Bool) (value : Value) (link : Link) → IsNextLink tree key at value link → link ≡ link_behind tree key at value
  next_is at value link next = next.next ∙ ap (λ (s : Option Bool). next_link tree key (pointer_toward value s)) (sym next.on_side)

  -- A chain of no more links than steps is the list of links.
  pub chain_is : (steps : ℕ) (at : List Bool) (value : Value) (links : List Link) → length links ≤ steps → IsChain tree key at value links
      → links ≡ links_within steps tree key at value
  chain_is zero at value [] short chain = refl
  chain_is zero at value (link ∷ links) short chain = absurd (omega arith)
  chain_is (suc steps) at value [] short chain = sym (ap (λ (b : Bool). if b then [] else rest) (subst (λ (k : List Bool). same_path at k ≡ true) chain (same_path-self at)))
    where
      rest : List Link
      rest = link_behind tree key at value
          ∷ links_within steps tree key (link_behind tree key at value).path (link_behind tree key at value).taken
  chain_is (suc steps) at value (link ∷ links) short chain =
      let is = next_is at value link chain.0 in
      let more = chain_is steps _ _ links (omega arith) (subst (λ (l : Link). IsChain tree key l.path l.taken links) is chain.1) in
      ap (λ (l : Link). l ∷ links) is
      ∙ ap (λ (ls : List Link). link_behind tree key at value ∷ ls) more
      ∙ sym (ap (λ (b : Bool). if b then [] else rest) (same_path-apart at key (above_apart at key chain.0.on chain.0.on_side)))
    where
      rest : List Link
      rest = link_behind tree key at value
          ∷ links_within steps tree key (link_behind tree key at value).path (link_behind tree key at value).taken

  module _ (whole : IsData key) (kinds : AreOf longest tree) where
    -- A chain has no more links than the key has bits behind its head.
    pub chain_short : (at : List Bool) (value : Value) (links : List Link) → IsOf longest at value → IsChain tree key at value links
        → length links + length at ≤ length key
    chain_short at value [] kind chain = omega (arith, ap (λ (k : List Bool). length k) chain)
    chain_short at value (link ∷ links) kind chain =
        let next = next_of longest tree key at value link whole kinds kind chain.0 in
        let longer = length-side at link.path chain.0.on next.below in
        let rest = chain_short link.path link.taken links next.taken chain.1 in
        omega arith

    -- what lies on the way to the key, and isn't the key, is above it
    above : (at : List Bool) → is_prefix at key ≡ true → same_path at key ≡ false → (on : Bool) × (side at key ≡ Some on)
    above at toward apart = which (prefix_cases at key toward)
      where
        which : (at ≡ key) ⊎ ((on : Bool) × (side at key ≡ Some on)) → (on : Bool) × (side at key ≡ Some on)
        which (inl same) = absurd (false≢true (sym apart ∙ subst (λ (k : List Bool). same_path at k ≡ true) same (same_path-self at)))
        which (inr below) = below

    -- the link behind is the next one
    abbrev next_to : (at : List Bool) (value : Value) (on : Bool) → side at key ≡ Some on → IsNextLink tree key at value (link_behind tree key at value)
    next_to at value on below = record {
      on = on;
      on_side = below;
      next = ap (λ (s : Option Bool). next_link tree key (pointer_toward value s)) below;
    }

    -- With a step for each bit behind its head, the list of links is a chain.
    pub links_are : (steps : ℕ) (at : List Bool) (value : Value) → length key ≤ steps + length at → is_prefix at key ≡ true → IsOf longest at value
        → IsChain tree key at value (links_within steps tree key at value)
    links_are zero at value enough toward kind = go (same_path at key) refl
      where
        go : (b : Bool) → same_path at key ≡ b → at ≡ key
        go true same = same_path-true at key same
        go false apart = absurd (omega (arith, enough, length-side at key (above at toward apart).0 (above at toward apart).1))
    links_are (suc steps) at value enough toward kind =
        go (λ shorter next_toward next_kind. links_are steps (link_behind tree key at value).path (link_behind tree key at value).taken shorter next_toward next_kind)
        (same_path at key) refl
      where
        link : Link
        link = link_behind tree key at value

        go : (length key ≤ steps + length link.path → is_prefix link.path key ≡ true → IsOf longest link.path link.taken
            → IsChain tree key link.path link.taken (links_within steps tree key link.path link.taken))
            → (b : Bool) → same_path at key ≡ b
            → IsChain tree key at value (if same_path at key then [] else link ∷ links_within steps tree key link.path link.taken)
        go more true same =
            subst (λ (b : Bool). IsChain tree key at value (if b then [] else link ∷ links_within steps tree key link.path link.taken)) (sym same)
            (same_path-true at key same)
        go more false apart =
            let below = above at toward apart in
            let is = next_to at value below.0 below.1 in
            let next = next_of longest tree key at value link whole kinds kind is in
            let longer = length-side at link.path below.0 next.below in
            subst (λ (b : Bool). IsChain tree key at value (if b then [] else link ∷ links_within steps tree key link.path link.taken)) (sym apart)
            (is, more (omega (arith, enough, longer)) next.toward next.taken)

-- ---- in a shard

-- a key is one bit longer than it is deep
length-key : (key : List Bool) → IsData key → length key ≡ suc (depth key)
length-key [] whole = absurd whole
length-key (wide ∷ bits) whole = refl

module _ (longest : ℕ) (shard : Shard) (key : List Bool) (fits : IsShard longest shard) (own : IsKeyOf shard key) where
  -- Each chain from the frontier to the key is the list of its links.
  pub shard_chain_is : (links : List Link) → IsChain (tree_of shard) key shard.frontier shard.value links → links ≡ links_in shard key
  shard_chain_is links chain =
      let short = chain_short longest (tree_of shard) key own.whole fits.kinds shard.frontier shard.value links (frontier_kind longest shard fits.kinds) chain in
      chain_is longest (tree_of shard) key (depth key) shard.frontier shard.value links (omega (arith, short, length-key key own.whole, some_path shard.frontier fits.below_root)) chain

  -- That list is a chain.
  pub shard_links_are : IsChain (tree_of shard) key shard.frontier shard.value (links_in shard key)
  shard_links_are =
      let below = below_side shard.frontier key own.below in
      links_are longest (tree_of shard) key own.whole fits.kinds (depth key) shard.frontier shard.value (omega (arith, length-key key own.whole, some_path shard.frontier fits.below_root))
      (prefix_of_side shard.frontier key below.0 below.1) (frontier_kind longest shard fits.kinds)
