-- A request along its chain: its commands work behind the entry at the chain's head, and each path of the chain comes
-- into the cache once and leaves it once.
use Rattle.std.proofs.Common.{ℕ, ◌≡◌, suc, ◌<◌, Bool, true, false, List, [], ◌∷◌, ◌++◌, length, Option, Some, None, append-nil, if◌then◌else◌, refl, sym, ◌∙◌, ap, subst, inl, inr}
use Rattle.std.specs.List.{AllByRecursion}
use Rattle.std.proofs.lemmas.Bool.{false≢true}
use Rattle.std.proofs.lemmas.Option.{none-some}
use Rattle.tree_keys.specs.Path.{side, same_path, key_path}
use Rattle.tree_keys.proofs.PathLaws.{same_path-self, same_path-true, same_path-apart}
use Rattle.tree_keys.proofs.SideLaws.{side-self, side-trans}
use Rattle.lamport_clocks.specs.Reading.{Reading}
use Rattle.lamport_clocks.specs.declared.stamp.Stamp.{Stamp}
use Rattle.record_text.specs.declared.request.Request.{Request}
use Rattle.record_text.specs.declared.value.Node.{Node}
use Rattle.record_text.specs.declared.value.Value.{Value}
use Rattle.record_text.specs.declared.value.Value.TheVariants as values
use Rattle.record_text.specs.Value.{IsOf}
use Rattle.log_codec.specs.declared.command.Command.{Command}
use Rattle.merkle_records.specs.Merkle.{Digest, pointing, pointer_to}
use Rattle.verifier_cache.specs.declared.entry.Hold.{Hold}
use Rattle.verifier_cache.specs.declared.entry.Hold.TheVariants.{M}
use Rattle.verifier_cache.specs.Entry.{new_entry}
use Rattle.verifier_commands.specs.Change.{Change, did_add_m, did_evict_m}
use Rattle.verifier_commands.specs.Changes.{above, above_on}
use Rattle.verifier_commands.specs.Transition.{Rules}
use Rattle.soundness.specs.Clash.{is_known}
use Rattle.host_shard.specs.declared.link.Link.{Link}
use Rattle.host_shard.specs.Tree.{Tree}
use Rattle.host_shard.specs.Chain.{IsChain, last_value, aimed_on, closed_value, closed_records}
use Rattle.host_plan.specs.Visit.{visit}
use Rattle.host_plan.specs.Request.{command_of, value_after}
use Rattle.host_laws.specs.Running.{Told, Access, added_told, evicted_told, accesses_told}
use Rattle.host_laws.specs.Carried.{carried, IsVisited, IsCarried}
use Rattle.host_laws.proofs.ToldLaws.{added_told-append, evicted_told-append, accesses_told-append, carried-append, all-append}
use Rattle.host_laws.proofs.DepthLaws.{some_path, deeper}
use Rattle.host_laws.proofs.FamilyLemmas.{parent_of}
use Rattle.host_laws.proofs.WorksLaws.{Works, told_visit, descend}
use Rattle.host_laws.proofs.EndLemmas.{access_by, told_request, works_request}
use Rattle.host_laws.proofs.ChainLaws.{LeadTo, AreOf, IsNext, next_fits}

-- What a command at the end of links does behind the entry at their head: it adds and evicts no element, it does its one
-- access at the clock and leaves the last path this value, and of each path at most one visit is told, which leads from the
-- records before to those after it.
pub record Visited (rules : Rules) (base : Tree) (at : List Bool) (hold : Hold) (value : Value) (links : List Link)
    (clock : Reading) (command : Command) (access : Access) (last : Value) : Type 0 where
  pub told : Told
  pub works : Works rules (length links) at hold value clock (visit at links (command ∷ [])) told
      (closed_value rules.scheme.digest false at value links last) clock
  pub added : added_told told ≡ []
  pub evicted : evicted_told told ≡ []
  pub accesses : accesses_told told ≡ access ∷ []
  pub at_clock : AllByRecursion (λ (one : Stamp × Change). one.0 ≡ clock.at) told
  pub outside : (path : List Bool) → side at path ≡ None → carried path told ≡ []
  pub once : (path : List Bool) → IsCarried path (base path)
      (closed_records rules.scheme.digest false base links last path) (carried path told)

-- ---- one link more

pub carried_link-other : (at : List Bool) (hold : Hold) (node middle left : Node) (on : Bool) (path k : List Bool) (taken last : Value) (clock after : Reading) (told : Told)
    → same_path path k ≡ false → carried k (told_visit at hold node middle on path taken last left clock told after) ≡ carried k told
carried_link-other at hold node middle left on path k taken last clock after told apart =
    ap (λ (b : Bool). (if b then add ∷ [] else []) ++ carried k (told ++ (after.at, evict) ∷ [])) apart
    ∙ (carried-append k told ((after.at, evict) ∷ [])
    ∙ (ap (λ (b : Bool). carried k told ++ ((if b then evict ∷ [] else []) ++ [])) apart
    ∙ append-nil (carried k told)))
  where
    add : Change
    add = did_add_m (new_entry at (values.Node node) hold) (parent_of at middle hold on) (new_entry path taken M)

    evict : Change
    evict = did_evict_m (parent_of at middle hold on) (new_entry at (values.Node left) hold) (new_entry path last M)

carried_link-own : (at : List Bool) (hold : Hold) (node middle left : Node) (on : Bool) (path : List Bool) (taken last : Value) (clock : Reading) (told : Told)
    → carried path told ≡ []
    → carried path (told_visit at hold node middle on path taken last left clock told clock)
    ≡ did_add_m (new_entry at (values.Node node) hold) (parent_of at middle hold on) (new_entry path taken M)
    ∷ did_evict_m (parent_of at middle hold on) (new_entry at (values.Node left) hold) (new_entry path last M) ∷ []
carried_link-own at hold node middle left on path taken last clock told none =
    ap (λ (b : Bool). (if b then add ∷ [] else []) ++ carried path (told ++ (clock.at, evict) ∷ [])) (same_path-self path)
    ∙ ap (λ (changes : List Change). add ∷ changes)
    (carried-append path told ((clock.at, evict) ∷ [])
    ∙ (ap (λ (changes : List Change). changes ++ ((if same_path path path then evict ∷ [] else []) ++ [])) none
    ∙ ap (λ (b : Bool). (if b then evict ∷ [] else []) ++ []) (same_path-self path)))
  where
    add : Change
    add = did_add_m (new_entry at (values.Node node) hold) (parent_of at middle hold on) (new_entry path taken M)

    evict : Change
    evict = did_evict_m (parent_of at middle hold on) (new_entry at (values.Node left) hold) (new_entry path last M)

module _ (rules : Rules) (tree base : Tree) (clock : Reading) (key : List Bool) (lead : LeadTo rules.scheme.format.longest rules.scheme.digest tree key) where
  -- the longest value
  abbrev longest : ℕ
  longest = rules.scheme.format.longest

  abbrev digest : Digest
  digest = rules.scheme.digest

  -- below this path the records are those of the tree
  abbrev pub IsBased : List Bool → Type 0
  IsBased at = (k : List Bool) (on : Bool) → side at k ≡ Some on → tree k ≡ base k

  pub visited_link : (at : List Bool) (hold : Hold) (link : Link) (links : List Link) (command : Command) (access : Access) (value last : Value)
      → 0 < length at → IsBased at → (next : IsNext longest digest tree key at value link)
      → Visited rules base link.path M link.taken links clock command access last
      → Visited rules base at hold (values.Node next.node) (link ∷ links) clock command access last
  visited_link at hold link links command access value last some based next rest = record {
    told = told;
    works = subst (λ (v : Value). Works rules (suc (length links)) at hold (values.Node next.node) clock (visit at (link ∷ links) (command ∷ [])) told v clock)
        (sym (ap (λ (s : Option Bool). aimed_on next.node (pointer_to digest link.path became) s) next.fits.below))
        (descend rules (length links) at link.path hold next.node next.on link.value link.taken became clock clock _ rest.told next.fits some rest.works);
    added = added_told-append rest.told _ ∙ ap (λ (xs : List _). xs ++ []) rest.added;
    evicted = evicted_told-append rest.told _ ∙ ap (λ (xs : List _). xs ++ []) rest.evicted;
    accesses = accesses_told-append rest.told _ ∙ ap (λ (xs : List _). xs ++ []) rest.accesses;
    at_clock = (refl, all-append (λ (one : Stamp × Change). one.0 ≡ clock.at) rest.told _ rest.at_clock (refl, tt));
    outside = outside;
    once = once;
  }
    where
      became : Value
      became = closed_value digest false link.path link.taken links last

      left : Node
      left = pointing digest next.node next.on link.path became

      told : Told
      told = told_visit at hold next.node next.fits.middle next.on link.path link.taken became left clock rest.told clock

      outside : (path : List Bool) → side at path ≡ None → carried path told ≡ []
      outside path apart =
          carried_link-other at hold next.node next.fits.middle left next.on link.path path link.taken became clock clock rest.told
          (same_path-apart link.path path (λ same. none-some next.on (sym apart ∙ (ap (side at) (sym same) ∙ next.fits.below))))
          ∙ rest.outside path (further (side link.path path) refl)
        where
          further : (s : Option Bool) → side link.path path ≡ s → side link.path path ≡ None
          further None is = is
          further (Some which) is = absurd (none-some next.on (sym apart ∙ side-trans at link.path path next.on which next.fits.below is))

      brought : is_known (above (new_entry at (values.Node next.node) hold) link.path) link.path ≡ true → base link.path ≡ Some link.taken
      brought is =
          sym (based link.path next.on next.fits.below)
          ∙ next.brought (sym (ap (λ (s : Option Bool). is_known (above_on s (Some next.node)) link.path) next.fits.below) ∙ is)

      own : IsVisited link.path (base link.path) (closed_records digest false base (link ∷ links) last link.path) (carried link.path told)
      own = record {
        parent = new_entry at (values.Node next.node) hold;
        between = parent_of at next.fits.middle hold next.on;
        later = new_entry at (values.Node left) hold;
        child = new_entry link.path link.taken M;
        gone = new_entry link.path became M;
        all = carried_link-own at hold next.node next.fits.middle left next.on link.path link.taken became clock rest.told
            (rest.outside link.path (side-self link.path));
        child_path = refl;
        gone_path = refl;
        brought = brought;
        kept = ap (λ (b : Bool). if b then Some became else closed_records digest false base links last link.path) (same_path-self link.path);
      }

      once : (path : List Bool) → IsCarried path (base path) (closed_records digest false base (link ∷ links) last path) (carried path told)
      once path = go (same_path link.path path) refl
        where
          go : (b : Bool) → same_path link.path path ≡ b
              → IsCarried path (base path) (closed_records digest false base (link ∷ links) last path) (carried path told)
          go true same =
              subst (λ (k : List Bool). IsCarried k (base k) (closed_records digest false base (link ∷ links) last k) (carried k told))
              (same_path-true link.path path same) (inr own)
          go false apart =
              subst (λ (changes : List Change). IsCarried path (base path) (closed_records digest false base (link ∷ links) last path) changes)
              (sym (carried_link-other at hold next.node next.fits.middle left next.on link.path path link.taken became clock clock rest.told apart))
              (subst (λ (after : Option Value). IsCarried path (base path) after (carried path rest.told))
              (sym (ap (λ (b : Bool). if b then Some became else closed_records digest false base links last path) other))
              (rest.once path))
            where
              other : same_path path link.path ≡ false
              other = same_path-apart path link.path (λ same. false≢true (sym apart ∙ (ap (same_path link.path) same ∙ same_path-self link.path)))

  -- the entry of a path that lies below a touched one
  pub at_next : (at : List Bool) (value : Value) (link : Link) (next : IsNext longest digest tree key at value link) → 0 < length at → IsBased at
      → (0 < length link.path) × IsBased link.path
  at_next at value link next some based = (
    some_path link.path (deeper at link.path next.on some next.fits.below),
    λ k on below. based k next.on (side-trans at link.path k next.on on next.fits.below below),
  )

module _ (rules : Rules) (wide : Bool) (tree base : Tree) (clock : Reading) (request : Request)
    (lead : LeadTo rules.scheme.format.longest rules.scheme.digest tree (key_path wide request.key)) where
  -- the path of the key
  abbrev asked : List Bool
  asked = key_path wide request.key

  visited_end : (hold : Hold) (value : Value)
      → Visited rules base asked hold value [] clock (command_of wide request value) (access_by wide request value) (value_after request value)
  visited_end hold value =
      let at_end = works_request rules wide value clock request hold lead.whole in
      record {
        told = told_request request asked hold value clock;
        works = at_end.works;
        added = at_end.added;
        evicted = at_end.evicted;
        accesses = at_end.accesses;
        at_clock = (refl, tt);
        outside = λ path apart. at_end.carried_none path;
        once = λ path. inl (at_end.carried_none path, refl);
      }

  -- A request works along its chain.
  pub visited : (at : List Bool) (hold : Hold) (value : Value) (links : List Link) → 0 < length at → IsOf rules.scheme.format.longest at value → AreOf tree value
      → IsBased rules tree base clock asked lead at → IsChain tree asked at value links
      → let found = last_value value links in
      Visited rules base at hold value links clock (command_of wide request found) (access_by wide request found) (value_after request found)
  visited at hold value [] some kind known based chain =
      subst (λ (k : List Bool). Visited rules base k hold value [] clock (command_of wide request value) (access_by wide request value) (value_after request value)) (sym chain)
      (visited_end hold value)
  visited at hold value (link ∷ links) some kind known based chain =
      let found = last_value link.taken links in
      let next = next_fits rules.scheme.format.longest rules.scheme.digest tree asked lead at value link kind known chain.0 in
      let below = at_next rules tree base clock asked lead at value link next some based in
      let rest = visited link.path M link.taken links below.0 next.kind next.known below.1 chain.1 in
      subst (λ (v : Value). Visited rules base at hold v (link ∷ links) clock (command_of wide request found) (access_by wide request found) (value_after request found)) (sym next.is_node)
      (visited_link rules tree base clock asked lead at hold link links (command_of wide request found) (access_by wide request found) value (value_after request found) some based next rest)
