-- How `chain` goes from the frontier to a key: what the loop keeps.
use Rattle.std.proofs.Common.{◌≡◌, ◌≢◌, ◌⊎◌, ℕ, suc, ◌+◌, ◌-◌, ◌<◌, ◌≤◌, Bool, true, List, [], ◌∷◌, ◌++◌, length, Option, Some, None, IsSome, refl, sym, ◌∙◌, ap, subst, inl, inr, append_assoc, append-nil, length-append, arith}
use Rattle.std.proofs.lemmas.Bool.{false≢true}
use Rattle.tree_keys.specs.BitsLaws.{length-bits_of}
use Rattle.tree_keys.specs.Path.{key_bits, depth, tree_of, key_path, side, is_prefix, IsBelow, IsData}
use Rattle.record_text.specs.declared.value.Pointer.{Pointer}
use Rattle.record_text.specs.declared.value.Value.{Value}
use Rattle.record_text.specs.Value.{IsSide, IsOf}
use Rattle.host_shard.specs.declared.link.Link.{Link}
use Rattle.host_shard.specs.Tree.{Tree, pointer_of}
use Rattle.host_shard.specs.Chain.{next_link, pointer_toward, StaysInTree, last_value, end_path, IsChain}
use Rattle.std.specs.List.{slice_get}
use Rattle.std.proofs.lemmas.Option.{none-some, same_Some}
use Rattle.tree_keys.proofs.SideLaws.{prefix_of_side, prefix_cases}
use Rattle.tree_keys.proofs.TreeLaws.{tree-in, in-prefix}
use Rattle.merkle_records.proofs.KindLaws.{is_prefix-side, length-side}
use Rattle.host_shard.proofs.ChainLaws.{AreOf, IsLinkOf, next_link_of, pointer_of-kind}

-- the path of a key of a tree
pub length_of_key : (wide : Bool) (path : List Bool) (key : ℕ) → path ≡ key_path wide key → length path ≡ suc (key_bits wide)
length_of_key wide path key is = ap length is ∙ ap (λ (n : ℕ). suc n) (length-bits_of (key_bits wide) key)

-- two paths that begin with a path and a bit more are of one tree
one_tree : (at p k : List Bool) (on : Bool) → is_prefix (at ++ on ∷ []) p ≡ true → is_prefix (at ++ on ∷ []) k ≡ true → tree_of p ≡ tree_of k
one_tree [] p k on first second = tree-in on p (in-prefix on (on ∷ []) p refl first) ∙ sym (tree-in on k (in-prefix on (on ∷ []) k refl second))
one_tree (wide ∷ bits) p k on first second =
    tree-in wide p (in-prefix wide (wide ∷ (bits ++ on ∷ [])) p refl first) ∙ sym (tree-in wide k (in-prefix wide (wide ∷ (bits ++ on ∷ [])) k refl second))

-- The links from a path whose pointer toward the key is this one.
abbrev pub IsAhead : Tree → List Bool → List Bool → Option Pointer → List Link → Type 0
IsAhead tree key at ahead [] = at ≡ key
IsAhead tree key at ahead (link ∷ links) =
    ((on : Bool) × (side at key ≡ Some on)) × (link ≡ next_link tree key ahead) × IsChain tree key link.path link.taken links

-- Links so far, from a start to a path with its pointer toward the key: what goes on from there goes on from the start.
pub record IsBegun (tree : Tree) (key start : List Bool) (value : Value) (links : List Link) (at : List Bool) (ahead : Option Pointer) : Type 0 where
  pub goes_on : (rest : List Link) → IsAhead tree key at ahead rest → IsChain tree key start value (links ++ rest)
  pub toward : is_prefix at key ≡ true
  pub kind : (on : Bool) → side at key ≡ Some on → IsSide at on ahead
  pub few : length links + length start ≤ length at

-- a pointer toward a key is that of the key's side
toward_side : (value : Value) (s : Option Bool) (on : Bool) → s ≡ Some on → pointer_toward value s ≡ pointer_of value on
toward_side value s on is = ap (pointer_toward value) is

-- what goes on behind a link goes on with its pointer
goes_behind : (tree : Tree) (key at : List Bool) (value : Value) (rest : List Link)
    → IsAhead tree key at (pointer_toward value (side at key)) rest → IsChain tree key at value rest
goes_behind tree key at value [] ahead = ahead
goes_behind tree key at value (link ∷ links) ahead = (
  record {
    on = ahead.0.0;
    on_side = ahead.0.1;
    next = ahead.1 ∙ ap (next_link tree key) (toward_side value (side at key) ahead.0.0 ahead.0.1);
  },
  ahead.2,
)

-- the pointer of a value of its path's kind, toward a key
kind_toward : (longest : ℕ) (key at : List Bool) (value : Value) (on : Bool) → IsOf longest at value → side at key ≡ Some on → IsSide at on (pointer_toward value (side at key))
kind_toward longest key at value on kind is =
    subst (IsSide at on) (sym (toward_side value (side at key) on is)) (pointer_of-kind longest at value on kind)

-- at the frontier
pub begun : (longest : ℕ) (tree : Tree) (key start : List Bool) (value : Value) → IsOf longest start value → IsBelow start key
    → IsBegun tree key start value [] start (pointer_toward value (side start key))
begun longest tree key start value kind below = record {
  goes_on = λ rest ahead. goes_behind tree key start value rest ahead;
  toward = begins (side start key) refl below;
  kind = λ on is. kind_toward longest key start value on kind is;
  few = omega arith;
}
  where
    begins : (s : Option Bool) → side start key ≡ s → IsSome s → is_prefix start key ≡ true
    begins None is some = absurd (false≢true some)
    begins (Some on) is some = prefix_of_side start key on is

-- behind one link more
pub begun_next : (longest : ℕ) (tree : Tree) (key start : List Bool) (value : Value) (links : List Link) (at : List Bool) (ahead : Option Pointer) (link : Link)
    → IsData key → AreOf longest tree → IsBegun tree key start value links at ahead → at ≢ key → link ≡ next_link tree key ahead
    → IsBegun tree key start value (links ++ link ∷ []) link.path (pointer_toward link.taken (side link.path key)) × (length at < length link.path)
begun_next longest tree key start value links at ahead link whole kinds so apart is = go (prefix_cases at key so.toward)
  where
    go : (at ≡ key) ⊎ ((on : Bool) × (side at key ≡ Some on))
        → IsBegun tree key start value (links ++ link ∷ []) link.path (pointer_toward link.taken (side link.path key)) × (length at < length link.path)
    go (inl same) = absurd (apart same)
    go (inr below) =
        let fits : IsLinkOf longest key at below.0 link =
        subst (IsLinkOf longest key at below.0) (sym is) (next_link_of longest tree key at below.0 ahead whole below.1 kinds (so.kind below.0 below.1)) in
        let longer : length at < length link.path = length-side at link.path below.0 fits.below in (
          record {
            goes_on = λ rest more. subst (IsChain tree key start value) (sym (append_assoc links (link ∷ []) rest))
                (so.goes_on (link ∷ rest) ((below.0, below.1), is, goes_behind tree key link.path link.taken rest more));
            toward = fits.toward;
            kind = λ on side_is. kind_toward longest key link.path link.taken on fits.taken side_is;
            few = simp length-append (omega (arith, so.few));
          },
          longer,
        )

-- where the key isn't reached yet, the pointer ahead leads to a path of its tree
pub begun_tree : (tree : Tree) (key start : List Bool) (value : Value) (links : List Link) (at : List Bool) (ahead : Option Pointer)
    → IsBegun tree key start value links at ahead → at ≢ key → StaysInTree key ahead
begun_tree tree key start value links at ahead so apart = go (prefix_cases at key so.toward)
  where
    stays : (on : Bool) → side at key ≡ Some on → (pointer : Option Pointer) → IsSide at on pointer → StaysInTree key pointer
    stays on below None kind = tt
    stays on below (Some pointer) kind = sym (one_tree at key pointer.path on (is_prefix-side at key on below) kind.below)

    go : (at ≡ key) ⊎ ((on : Bool) × (side at key ≡ Some on)) → StaysInTree key ahead
    go (inl same) = absurd (apart same)
    go (inr below) = stays below.0 below.1 ahead (so.kind below.0 below.1)

-- at the key
pub begun_end : (tree : Tree) (key start : List Bool) (value : Value) (links : List Link) (at : List Bool) (ahead : Option Pointer)
    → IsBegun tree key start value links at ahead → at ≡ key → IsChain tree key start value links
begun_end tree key start value links at ahead so same =
    subst (IsChain tree key start value) (append-nil links) (so.goes_on [] same)

-- the chain from a path below the root to a key has no more links than the key has bits
pub begun_few : (tree : Tree) (key start : List Bool) (value : Value) (links : List Link) (at : List Bool) (ahead : Option Pointer) (wide : Bool) (number : ℕ)
    → IsBegun tree key start value links at ahead → at ≡ key → key ≡ key_path wide number → 0 < depth start → length links ≤ key_bits wide
begun_few tree key start value links at ahead wide number so ends is deep =
    omega (arith, so.few, subst (λ (p : List Bool). length p ≡ suc (key_bits wide)) (sym ends) (length_of_key wide key number is), some start deep)
  where
    some : (path : List Bool) → 0 < depth path → 0 < length path
    some [] below = absurd (omega arith)
    some (wide ∷ bits) below = omega arith

-- ---- the same, of what the code computes

pub begun_with : (longest : ℕ) (tree : Tree) (key start : List Bool) (value : Value) (links : List Link) (ahead : Option Pointer)
    → links ≡ [] → ahead ≡ pointer_toward value (side start key) → IsOf longest start value → IsBelow start key
    → IsBegun tree key start value links start ahead
begun_with longest tree key start value links ahead none leads kind below =
    subst (λ (ls : List Link). IsBegun tree key start value ls start ahead) (sym none)
    (subst (λ (a : Option Pointer). IsBegun tree key start value [] start a) (sym leads) (begun longest tree key start value kind below))

pub next_with : (longest : ℕ) (tree : Tree) (key start : List Bool) (value : Value) (links more : List Link) (at : List Bool) (ahead leads : Option Pointer) (link : Link)
    → IsData key → AreOf longest tree → IsBegun tree key start value links at ahead → at ≢ key → link ≡ next_link tree key ahead
    → more ≡ links ++ link ∷ [] → leads ≡ pointer_toward link.taken (side link.path key)
    → IsBegun tree key start value more link.path leads
next_with longest tree key start value links more at ahead leads link whole kinds so apart is joined toward =
    subst (λ (ls : List Link). IsBegun tree key start value ls link.path leads) (sym joined)
    (subst (λ (a : Option Pointer). IsBegun tree key start value (links ++ link ∷ []) link.path a) (sym toward)
    (begun_next longest tree key start value links at ahead link whole kinds so apart is).0)

-- ---- the last link

-- the last value is that of the last link
pub last_of : (value : Value) (links : List Link) (link : Link) → slice_get links (length links - 1) ≡ Some link → link.taken ≡ last_value value links
last_of value [] link is = absurd (none-some link is)
last_of value (only ∷ []) link is = ap (λ (l : Link). l.taken) (sym (same_Some only link is))
last_of value (first ∷ next ∷ links) link is =
    let further : suc (length (next ∷ links) - 1) ≡ length (first ∷ next ∷ links) - 1 = omega arith in
    last_of first.taken (next ∷ links) link (ap (λ (n : ℕ). slice_get (first ∷ next ∷ links) n) further ∙ is)

-- the last link's path is the chain's end
pub end_of : (at : List Bool) (links : List Link) (link : Link) → slice_get links (length links - 1) ≡ Some link → link.path ≡ end_path at links
end_of at [] link is = absurd (none-some link is)
end_of at (only ∷ []) link is = ap (λ (l : Link). l.path) (sym (same_Some only link is))
end_of at (first ∷ next ∷ links) link is =
    let further : suc (length (next ∷ links) - 1) ≡ length (first ∷ next ∷ links) - 1 = omega arith in
    end_of first.path (next ∷ links) link (ap (λ (n : ℕ). slice_get (first ∷ next ∷ links) n) further ∙ is)
