-- A request has one plan.
use Rattle.std.proofs.Common.{◌≡◌, ℕ, Bool, List, [], ◌∷◌, length, Option, Some, None, refl, sym, ap, ◌∙◌, subst, arith}
use Rattle.std.proofs.lemmas.Option.{none-some, same_Some}
use Rattle.tree_keys.specs.Path.{side}
use Rattle.tree_keys.proofs.PathLaws.{side-short}
use Rattle.lamport_clocks.specs.Reading.{Reading}
use Rattle.record_text.specs.declared.request.Request.{Request}
use Rattle.record_text.specs.declared.value.Value.{Value}
use Rattle.record_text.specs.declared.value.Value.TheVariants as values
use Rattle.merkle_records.specs.Merkle.{Digest}
use Rattle.host_shard.specs.declared.link.Link.{Link}
use Rattle.host_shard.specs.Tree.{Tree, pointer_of}
use Rattle.host_shard.specs.Chain.{IsChain, IsNextLink, next_link}
use Rattle.host_shard.specs.Shard.{key_path_in, tree_of}
use Rattle.host_shard.specs.Content.{Content, cold, hot, vacant}
use Rattle.host_plan.specs.declared.plans.Plan.{Plan}
use Rattle.host_plan.specs.Request.{value_after}
use Rattle.host_plan.specs.Plan.{AreLinks, IsPlan, commands_of, value_found}

-- a path has no side of itself
no_side : (path key : List Bool) (on : Bool) → path ≡ key → side path key ≡ Some on → ⊥
no_side path key on same is = none-some on (sym (side-short path key (let e : length path ≡ length key = ap (λ k. length k) same in omega (arith, e))) ∙ is)

next_one : (tree : Tree) (key at : List Bool) (value : Value) (link other : Link) → IsNextLink tree key at value link → IsNextLink tree key at value other → link ≡ other
next_one tree key at value link other one two =
    one.next ∙ (ap (λ on. next_link tree key (pointer_of value on)) (same_Some one.on two.on (sym one.on_side ∙ two.on_side)) ∙ sym two.next)

-- two chains from a path to a key are one
chain_one : (tree : Tree) (key at : List Bool) (value : Value) (links others : List Link) → IsChain tree key at value links → IsChain tree key at value others → links ≡ others
chain_one tree key at value [] [] one two = refl
chain_one tree key at value [] (other ∷ others) one two = absurd (no_side at key two.0.on one two.0.on_side)
chain_one tree key at value (link ∷ links) [] one two = absurd (no_side at key one.0.on two one.0.on_side)
chain_one tree key at value (link ∷ links) (other ∷ others) one two =
    let same = next_one tree key at value link other one.0 two.0 in
    let more = chain_one tree key other.path other.taken links others (subst (λ (l : Link). IsChain tree key l.path l.taken links) same one.1) two.1 in
    λ i. same i ∷ more i

links_one : (content : Content) (key : ℕ) (links others : List Link) → AreLinks content key links → AreLinks content key others → links ≡ others
links_one (cold shard) key links others one two = chain_one (tree_of shard) (key_path_in shard key) shard.frontier shard.value links others one two
links_one (hot kept) key links others one two = one ∙ sym two
links_one vacant key links others one two = absurd one

abbrev blob_in : Value → Option (List ℕ)
blob_in (values.Blob blob) = blob
blob_in (values.Node node) = None

-- a request has one plan
pub plan_one : (absent : Bool) (digest : Digest) (worker other_worker : ℕ) (content : Content) (request : Request) (clock : Reading) (plan other : Plan) (after other_after : Content) (later other_later : Reading)
    → IsPlan absent digest worker content request clock plan after later → IsPlan absent digest other_worker content request clock other other_after other_later → (plan ≡ other) × (later ≡ other_later)
plan_one absent digest worker other_worker content request clock plan other after other_after later other_later one two =
    let links = links_one content request.key one.links two.links one.way two.way in
    let commands : plan.commands ≡ other.commands = one.commands ∙ (ap (λ ls. commands_of absent content ls request clock) links ∙ sym two.commands) in
    let answer : plan.answer ≡ other.answer = ap blob_in (one.answer ∙ (ap (λ ls. value_after request (value_found absent content ls request)) links ∙ sym two.answer)) in
    ((λ i. record { commands = commands i; answer = answer i }), one.clock ∙ sym two.clock)
