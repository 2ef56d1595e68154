-- The commands of a plan are commands: each value is of its path's kind, and each path, stamp and number is in its range.
use Rattle.std.proofs.Common.{ℕ, ◌≡◌, ◌<◌, ◌^◌, ◌≢◌, Bool, true, false, List, [], ◌∷◌, ◌++◌, Option, Some, None, IsSome, if◌then◌else◌, refl, sym, subst}
use Rattle.std.proofs.lemmas.Bool.{false≢true}
use Rattle.std.specs.List.{AllByRecursion}
use Rattle.tree_keys.specs.Path.{side, IsBelow, IsData, IsPath}
use Rattle.lamport_clocks.specs.declared.stamp.Stamp.{Stamp}
use Rattle.record_text.specs.declared.element.Element.{Element}
use Rattle.record_text.specs.declared.value.Value.{Value}
use Rattle.record_text.specs.declared.value.Value.TheVariants as values
use Rattle.record_text.specs.Value.{IsOf}
use Rattle.record_text.specs.Element.{IsStamp}
use Rattle.log_codec.specs.declared.command.Command.{Command}
use Rattle.log_codec.specs.declared.command.Command.TheVariants.{Absent}
use Rattle.log_codec.specs.Command.{IsPathCommand}
use Rattle.tree_keys.proofs.SideLaws.{above_apart}
use Rattle.tree_keys.proofs.TreeLaws.{data-path, node-path}
use Rattle.host_shard.specs.declared.link.Link.{Link}
use Rattle.host_shard.specs.Tree.{Tree}
use Rattle.host_shard.specs.Chain.{IsChain, pointer_toward, known_links, end_path}
use Rattle.host_shard.specs.Shard.{key_path_in, Shard, tree_of, rehashed}
use Rattle.merkle_records.specs.Merkle.{Digest, leads_over}
use Rattle.host_shard.proofs.ChainLaws.{AreOf, IsLinkOf, next_of, closed_end}
use Rattle.host_plan.specs.Visit.{visit, between}

-- the path of a value isn't longer than the keys of its tree
length-IsOf : (longest : ℕ) (path : List Bool) (value : Value) → IsOf longest path value → IsPath path
length-IsOf longest path (values.Blob blob) kind = data-path path kind.0
length-IsOf longest path (values.Node node) kind = node-path path kind.0

-- all of two lists joined
pub AllByRecursion-append : {X : Type 0} (P : X → Type 0) (xs ys : List X) → AllByRecursion P xs → AllByRecursion P ys → AllByRecursion P (xs ++ ys)
AllByRecursion-append P [] ys hs gs = gs
AllByRecursion-append P (x ∷ xs) ys hs gs = (hs.0, AllByRecursion-append P xs ys hs.1 gs)

-- a command alone
pub one_typed : (longest : ℕ) (command : Command) → IsPathCommand longest command → AllByRecursion (IsPathCommand longest) (command ∷ [])
one_typed longest command typed = (typed, tt)

-- the visit of a chain
pub visit_typed : (longest : ℕ) (tree : Tree) (key at : List Bool) (value : Value) (links : List Link) (inner : List Command)
    → IsData key → AreOf longest tree → IsOf longest at value → IsChain tree key at value links
    → AllByRecursion (IsPathCommand longest) inner → AllByRecursion (IsPathCommand longest) (visit at links inner)
visit_typed longest tree key at value [] inner whole kinds kind chain typed = typed
visit_typed longest tree key at value (link ∷ links) inner whole kinds kind chain typed =
    let next = next_of longest tree key at value link whole kinds kind chain.0 in
    let above = length-IsOf longest at value kind in
    let path = length-IsOf longest link.path link.value next.value in (
      (next.value, above),
      AllByRecursion-append (IsPathCommand longest) (visit link.path links inner) _
          (visit_typed longest tree key link.path link.taken links inner whole kinds next.taken chain.1 typed)
          ((path, above), tt),
    )

-- the visit of the links that have records
pub known_typed : (longest : ℕ) (tree : Tree) (key at : List Bool) (value : Value) (links : List Link) (inner : List Command)
    → IsData key → AreOf longest tree → IsOf longest at value → IsChain tree key at value links
    → AllByRecursion (IsPathCommand longest) inner → AllByRecursion (IsPathCommand longest) (visit at (known_links key at value links) inner)
known_typed longest tree key at value [] inner whole kinds kind chain typed = typed
known_typed longest tree key at value (link ∷ links) inner whole kinds kind chain typed =
    let next = next_of longest tree key at value link whole kinds kind chain.0 in
    go next (known_typed longest tree key link.path link.taken links inner whole kinds next.taken chain.1 typed)
    (leads_over (pointer_toward value (side at key)) key)
  where
    go : IsLinkOf longest key at chain.0.on link → AllByRecursion (IsPathCommand longest) (visit link.path (known_links key link.path link.taken links) inner) → (b : Bool)
        → AllByRecursion (IsPathCommand longest) (visit at (if b then link ∷ known_links key link.path link.taken links else []) inner)
    go next more false = typed
    go next more true =
        let above = length-IsOf longest at value kind in
        let path = length-IsOf longest link.path link.value next.value in (
          (next.value, above),
          AllByRecursion-append (IsPathCommand longest) (visit link.path (known_links key link.path link.taken links) inner) _ more ((path, above), tt),
        )

-- the path at their end isn't longer than a key
known_end : (longest : ℕ) (tree : Tree) (key at : List Bool) (value : Value) (links : List Link)
    → IsData key → AreOf longest tree → IsOf longest at value → IsChain tree key at value links
    → IsPath (end_path at (known_links key at value links))
known_end longest tree key at value [] whole kinds kind chain = length-IsOf longest at value kind
known_end longest tree key at value (link ∷ links) whole kinds kind chain =
    let next = next_of longest tree key at value link whole kinds kind chain.0 in
    go (known_end longest tree key link.path link.taken links whole kinds next.taken chain.1) (leads_over (pointer_toward value (side at key)) key)
  where
    go : IsPath (end_path link.path (known_links key link.path link.taken links)) → (b : Bool)
        → IsPath (end_path at (if b then link ∷ known_links key link.path link.taken links else []))
    go more false = length-IsOf longest at value kind
    go more true = more

-- what stands between an add and an evict with a stamp
pub between_typed : (longest : ℕ) (element : Element) (stamp : Stamp) (inner : List Command)
    → IsOf longest element.path element.value → IsStamp element.stamp → element.verifier < 2 ^ 16 → IsStamp stamp
    → AllByRecursion (IsPathCommand longest) inner → AllByRecursion (IsPathCommand longest) (between element stamp inner)
between_typed longest element stamp inner kind added verifier evicted typed = (
  (kind, added, verifier),
  AllByRecursion-append (IsPathCommand longest) inner _ typed ((length-IsOf longest element.path element.value kind, evicted), tt),
)

-- a frontier is no key below it
pub frontier_apart : (frontier key : List Bool) → IsBelow frontier key → frontier ≢ key
frontier_apart frontier key below = go (side frontier key) refl below
  where
    go : (s : Option Bool) → side frontier key ≡ s → IsSome s → frontier ≢ key
    go None is some = absurd (false≢true some)
    go (Some on) is some = above_apart frontier key on is

-- ---- of what the code computes

-- the whole of a plan's commands, where the inner one is a command at the chain's end
pub chain_typed : (longest : ℕ) (tree : Tree) (key : List Bool) (element : Element) (links : List Link) (command : Command) (stamp : Stamp)
    → IsData key → AreOf longest tree → IsOf longest element.path element.value → IsChain tree key element.path element.value links
    → IsStamp element.stamp → element.verifier < 2 ^ 16 → IsStamp stamp → IsPathCommand longest command
    → AllByRecursion (IsPathCommand longest) (between element stamp (visit element.path links (command ∷ [])))
chain_typed longest tree key element links command stamp whole kinds kind chain added verifier evicted typed =
    between_typed longest element stamp (visit element.path links (command ∷ [])) kind added verifier evicted
    (visit_typed longest tree key element.path element.value links (command ∷ []) whole kinds kind chain (one_typed longest command typed))

-- the whole of a plan's commands, where the inner one says that the key is absent under the last record on the way to it
pub absent_typed : (longest : ℕ) (tree : Tree) (key : List Bool) (element : Element) (links : List Link) (stamp : Stamp)
    → IsData key → AreOf longest tree → IsOf longest element.path element.value → IsChain tree key element.path element.value links
    → IsStamp element.stamp → element.verifier < 2 ^ 16 → IsStamp stamp
    → let known = known_links key element.path element.value links in
    AllByRecursion (IsPathCommand longest) (between element stamp (visit element.path known (Absent key (end_path element.path known) ∷ [])))
absent_typed longest tree key element links stamp whole kinds kind chain added verifier evicted =
    let known = known_links key element.path element.value links in
    let inner = Absent key (end_path element.path known) ∷ [] in
    between_typed longest element stamp (visit element.path known inner) kind added verifier evicted
    (known_typed longest tree key element.path element.value links inner whole kinds kind chain
    (one_typed longest (Absent key (end_path element.path known)) (data-path key whole, known_end longest tree key element.path element.value links whole kinds kind chain)))

-- a key of a shard has a record behind the chain to it
pub rehashed_there : (digest : Digest) (shard now : Shard) (key : ℕ) (links : List Link) (last : Value)
    → IsBelow shard.frontier (key_path_in shard key) → IsChain (tree_of shard) (key_path_in shard key) shard.frontier shard.value links
    → now ≡ rehashed digest shard links last
    → IsSome (now.records (key_path_in now key))
rehashed_there digest shard now key links last below chain is =
    let path = key_path_in shard key in
    subst (λ (s : Shard). IsSome (s.records (key_path_in s key))) (sym is)
    (closed_end digest false (tree_of shard) shard.records path shard.frontier shard.value links last (frontier_apart shard.frontier path below) chain)
