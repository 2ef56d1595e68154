-- A transfer along the way to its record: the paths above come into the cache and leave it by their digests.
use Rattle.std.proofs.Common.{◌≡◌, ℕ, suc, ◌<◌, ◌≤◌, Bool, true, false, not, List, [], ◌∷◌, ◌++◌, length, Option, Some, None, Ok, append-nil, if◌then◌else◌, refl, sym, ◌∙◌, ap, subst, arith}
use Rattle.std.specs.List.{AllByRecursion, flat_map}
use Rattle.std.proofs.lemmas.Bool.{false≢true}
use Rattle.std.proofs.lemmas.List.Concat.{flat_map-append}
use Rattle.std.proofs.lemmas.Option.{none-some, same_Some}
use Rattle.tree_keys.specs.Path.{side, same_path}
use Rattle.tree_keys.proofs.PathLaws.{same_path-self, same_path-true, same_path-apart}
use Rattle.tree_keys.proofs.SideLaws.{side-self, side-trans}
use Rattle.lamport_clocks.specs.declared.stamp.Stamp.{Stamp}
use Rattle.lamport_clocks.specs.Reading.{Reading}
use Rattle.lamport_clocks.specs.Clock.{is_open}
use Rattle.record_text.specs.declared.element.Element.{Element}
use Rattle.record_text.specs.declared.value.Pointer.{Pointer}
use Rattle.record_text.specs.declared.value.Node.{Node}
use Rattle.record_text.specs.declared.value.Value.{Value}
use Rattle.record_text.specs.declared.value.Value.TheVariants as values
use Rattle.record_text.specs.Texts.{value_text}
use Rattle.record_text.specs.Value.{with_side}
use Rattle.log_codec.specs.declared.command.Command.{Command}
use Rattle.log_codec.specs.declared.command.Command.TheVariants.{AddM, EvictM}
use Rattle.merkle_records.specs.Merkle.{Digest, pointing, pointer_to, deferred_pointer}
use Rattle.verifier_cache.specs.declared.entry.Hold.{Hold}
use Rattle.verifier_cache.specs.declared.entry.Hold.TheVariants.{M, B}
use Rattle.verifier_cache.specs.Entry.{set_kid, new_entry}
use Rattle.verifier_commands.specs.Change.{Change, did_add_m, did_evict_m}
use Rattle.verifier_commands.specs.Changes.{add_under}
use Rattle.verifier_commands.specs.Transition.{Rules}
use Rattle.soundness.specs.Certified.{sealed_by}
use Rattle.host_shard.specs.declared.link.Link.{Link}
use Rattle.host_shard.specs.Tree.{Tree}
use Rattle.host_shard.specs.Chain.{aimed, aimed_on, closed_pointer, closed_value, closed_records}
use Rattle.host_plan.specs.Moments.{taking, giving}
use Rattle.host_laws.specs.Running.{Told, added_told, evicted_told, accesses_told}
use Rattle.host_laws.specs.Carried.{carried}
use Rattle.host_laws.proofs.DepthLaws.{some_path, deeper}
use Rattle.host_laws.proofs.ToldLaws.{added_told-append, evicted_told-append, accesses_told-append, carried-append, all-append}
use Rattle.host_laws.proofs.WorksLaws.{Works, descend, told_lent, lends}
use Rattle.protection_moves.specs.Descent.{without_record, visit_but_last, come_back, become_hot}
use Rattle.move_laws.specs.Kept.{AreCarried}
use Rattle.move_laws.specs.Transfers.{IsBetween}
use Rattle.move_laws.proofs.WayLemmas.{IsStep, IsWay}
use Rattle.move_laws.proofs.EndLemmas.{told_back, comes_back, adds_known}

-- ---- what a transfer leaves

-- a record that is lent stands in the shard no more
abbrev pub left_by : Bool → Tree → List Bool → Tree
left_by false tree key = tree
left_by true tree key = without_record tree key

left_other : (lent : Bool) (tree : Tree) (key path : List Bool) → same_path path key ≡ false → left_by lent tree key path ≡ tree path
left_other false tree key path apart = refl
left_other true tree key path apart = ap (λ (b : Bool). if b then None else tree path) apart

left_same : (lent : Bool) (one other : Tree) (key path : List Bool) → one path ≡ other path → left_by lent one key path ≡ left_by lent other key path
left_same false one other key path same = same
left_same true one other key path same = ap (λ (o : Option Value). if same_path path key then None else o) same

-- a clock that doesn't go back, and stays in its epoch
abbrev pub IsOnward : Reading → Reading → Type 0
IsOnward clock after = (after.at.epoch ≡ clock.at.epoch) × (clock.at.counter ≤ after.at.counter)

-- the pointer to a link above the last is one with its digest
closed_above : (digest : Digest) (lent : Bool) (link next : Link) (links : List Link) (became : Value)
    → closed_pointer digest lent link (next ∷ links) became ≡ pointer_to digest link.path became
closed_above digest false link next links became = refl
closed_above digest true link next links became = refl

-- a link, by its parts
same_link : (link : Link) (path : List Bool) (value taken : Value) → link.path ≡ path → link.value ≡ value → link.taken ≡ taken
    → ◌≡◌ {A = Link} link (record { path = path; value = value; taken = taken })
same_link link path value taken one two three =
    ap (λ (k : List Bool). record { path = k; value = link.value; taken = link.taken }) one
    ∙ (ap (λ (v : Value). record { path = path; value = v; taken = link.taken }) two
    ∙ ap (λ (t : Value). record { path = path; value = value; taken = t }) three)

module _ (rules : Rules) (tree before base : Tree) (key : List Bool) (lent : Bool) (last : Value) where
  abbrev longest : ℕ
  longest = rules.scheme.format.longest

  abbrev digest : Digest
  digest = rules.scheme.digest

  -- What a transfer does behind the entry of a path. Of each path's record: it came and left as it is kept before and after.
  pub record Along (at : List Bool) (hold : Hold) (value : Value) (links : List Link) (clock after : Reading) (commands : List Command)
      (adds evicts : List Element) : Type 0 where
    pub told : Told
    pub works : Works rules (length links) at hold value clock commands told (closed_value digest lent at value links last) after
    pub added : added_told told ≡ adds
    pub evicted : evicted_told told ≡ evicts
    pub no_access : accesses_told told ≡ []
    pub unsealed : flat_map (λ (one : Stamp × Change). sealed_by one.1) told ≡ []
    pub within : AllByRecursion (λ (one : Stamp × Change). IsBetween clock after one.0) told
    pub outside : (path : List Bool) → side at path ≡ None → carried path told ≡ []
    pub kept : (path : List Bool) → AreCarried path (before path) (left_by lent (closed_records digest lent base links last) key path) (carried path told)

  -- below this path the records are those before, but for the key's
  abbrev pub IsBased : List Bool → Type 0
  IsBased at = (k : List Bool) (on : Bool) → side at k ≡ Some on → same_path k key ≡ false → tree k ≡ before k

  -- what isn't on the way is kept as before
  abbrev pub AreKept : Type 0
  AreKept = (k : List Bool) → same_path k key ≡ false → base k ≡ before k

  -- the pointer of a step is not deferred, and keeps the digest of its record
  abbrev pub IsSound : (at : List Bool) (value : Value) (link : Link) → IsStep longest tree key (not lent) at value link → Type 0
  IsSound at value link step = (step.pointer.deferred ≡ false) × (step.pointer.digest ≡ digest (value_text link.taken))

  -- ---- one link more

  module _ (at : List Bool) (hold : Hold) (value : Value) (link next : Link) (links : List Link) (clock after : Reading) (inner : List Command)
      (adds evicts : List Element) (step : IsStep longest tree key (not lent) at value link) (sound : IsSound at value link step) (on_side : same_path link.path key ≡ false)
      (onward : IsOnward clock after) (some : 0 < length at) (based : IsBased at)
      (rest : Along link.path M link.taken (next ∷ links) clock after inner adds evicts) where
    abbrev became : Value
    became = closed_value digest lent link.path link.taken (next ∷ links) last

    abbrev left : Node
    left = pointing digest step.node step.on link.path became

    abbrev add : Change
    add = did_add_m (new_entry at (values.Node step.node) hold) (set_kid (new_entry at (values.Node step.node) hold) step.on true) (new_entry link.path link.taken M)

    abbrev evict : Change
    evict = did_evict_m (set_kid (new_entry at (values.Node step.node) hold) step.on true) (new_entry at (values.Node left) hold) (new_entry link.path became M)

    abbrev all : Told
    all = (clock.at, add) ∷ (rest.told ++ (after.at, evict) ∷ [])

    closed_is : closed_value digest lent at value (link ∷ next ∷ links) last ≡ values.Node left
    closed_is =
        ap (λ (v : Value). aimed at v (closed_pointer digest lent link (next ∷ links) became)) step.is_node
        ∙ (ap (λ (p : Pointer). aimed at (values.Node step.node) p) (closed_above digest lent link next links became)
        ∙ ap (λ (s : Option Bool). aimed_on step.node (pointer_to digest link.path became) s) step.below)

    carried_all : (k : List Bool) → carried k all
        ≡ (if same_path link.path k then add ∷ [] else []) ++ (carried k rest.told ++ (if same_path link.path k then evict ∷ [] else []))
    carried_all k =
        ap (λ (changes : List Change). (if same_path link.path k then add ∷ [] else []) ++ changes)
        (carried-append k rest.told ((after.at, evict) ∷ []) ∙ ap (λ (changes : List Change). carried k rest.told ++ changes) (append-nil _))

    carried_other : (k : List Bool) → same_path link.path k ≡ false → carried k all ≡ carried k rest.told
    carried_other k apart =
        carried_all k
        ∙ (ap (λ (b : Bool). (if b then add ∷ [] else []) ++ (carried k rest.told ++ (if b then evict ∷ [] else []))) apart
        ∙ append-nil (carried k rest.told))

    carried_own : carried link.path all ≡ add ∷ evict ∷ []
    carried_own =
        carried_all link.path
        ∙ (ap (λ (b : Bool). (if b then add ∷ [] else []) ++ (carried link.path rest.told ++ (if b then evict ∷ [] else []))) (same_path-self link.path)
        ∙ ap (λ (changes : List Change). add ∷ (changes ++ evict ∷ [])) (rest.outside link.path (side-self link.path)))

    works : Works rules (suc (suc (length links))) at hold value clock (AddM link.path link.value at ∷ (inner ++ EvictM link.path at ∷ [])) all
        (closed_value digest lent at value (link ∷ next ∷ links) last) after
    works =
        subst (λ (v : Value). Works rules (suc (suc (length links))) at hold value clock (AddM link.path link.value at ∷ (inner ++ EvictM link.path at ∷ [])) all v after)
        (sym closed_is)
        (subst (λ (v : Value). Works rules (suc (suc (length links))) at hold v clock (AddM link.path link.value at ∷ (inner ++ EvictM link.path at ∷ [])) all (values.Node left) after)
        (sym step.is_node)
        (descend rules (suc (length links)) at link.path hold step.node step.on link.value link.taken became clock after inner rest.told
        (record {
          middle = step.node;
          pointer = step.pointer;
          below = step.below;
          added = λ held. added held;
          points = step.points;
          to = step.to;
          fresh = sound.0;
          over = λ p. refl;
        })
        some rest.works))
      where
        added : (held : Hold) → add_under digest (new_entry at (values.Node step.node) held) link.path link.value
            ≡ Ok (record { parent = set_kid (new_entry at (values.Node step.node) held) step.on true; child = new_entry link.path link.taken M })
        added held =
            subst (λ (v : Value). add_under digest (new_entry at (values.Node step.node) held) link.path v
            ≡ Ok (record { parent = set_kid (new_entry at (values.Node step.node) held) step.on true; child = new_entry link.path link.taken M })) (sym step.as_it_is)
            (adds_known digest at step.node step.on step.pointer link.path link.taken step.below step.points step.to sound.0 sound.1 held)

    outside : (path : List Bool) → side at path ≡ None → carried path all ≡ []
    outside path apart =
        carried_other path (same_path-apart link.path path (λ same. none-some step.on (sym apart ∙ (ap (side at) (sym same) ∙ step.below))))
        ∙ rest.outside path (further (side link.path path) refl)
      where
        further : (s : Option Bool) → side link.path path ≡ s → side link.path path ≡ None
        further None is = is
        further (Some which) is = absurd (none-some step.on (sym apart ∙ side-trans at link.path path step.on which step.below is))

    kept : (path : List Bool)
        → AreCarried path (before path) (left_by lent (closed_records digest lent base (link ∷ next ∷ links) last) key path) (carried path all)
    kept path = go (same_path link.path path) refl
      where
        here : left_by lent (closed_records digest lent base (link ∷ next ∷ links) last) key link.path ≡ Some became
        here =
            left_other lent (closed_records digest lent base (link ∷ next ∷ links) last) key link.path on_side
            ∙ ap (λ (b : Bool). if b then Some became else closed_records digest lent base (next ∷ links) last link.path) (same_path-self link.path)

        go : (b : Bool) → same_path link.path path ≡ b
            → AreCarried path (before path) (left_by lent (closed_records digest lent base (link ∷ next ∷ links) last) key path) (carried path all)
        go true same =
            subst (λ (k : List Bool). AreCarried k (before k) (left_by lent (closed_records digest lent base (link ∷ next ∷ links) last) key k) (carried k all))
            (same_path-true link.path path same)
            (subst (AreCarried link.path (before link.path) (left_by lent (closed_records digest lent base (link ∷ next ∷ links) last) key link.path)) (sym carried_own)
            (refl, (λ known. sym (based link.path step.on step.below on_side) ∙ step.there, (refl, λ v is. sym here ∙ is))))
        go false apart =
            subst (AreCarried path (before path) (left_by lent (closed_records digest lent base (link ∷ next ∷ links) last) key path)) (sym (carried_other path apart))
            (subst (λ (o : Option Value). AreCarried path (before path) o (carried path rest.told))
            (sym (left_same lent (closed_records digest lent base (link ∷ next ∷ links) last) (closed_records digest lent base (next ∷ links) last) key path
            (ap (λ (b : Bool). if b then Some became else closed_records digest lent base (next ∷ links) last path) other)))
            (rest.kept path))
          where
            other : same_path path link.path ≡ false
            other = same_path-apart path link.path (λ same. false≢true (sym apart ∙ (ap (same_path link.path) same ∙ same_path-self link.path)))

    along_link : Along at hold value (link ∷ next ∷ links) clock after (AddM link.path link.value at ∷ (inner ++ EvictM link.path at ∷ [])) adds evicts
    along_link = record {
      told = all;
      works = works;
      added = added_told-append rest.told _ ∙ (append-nil _ ∙ rest.added);
      evicted = evicted_told-append rest.told _ ∙ (append-nil _ ∙ rest.evicted);
      no_access = accesses_told-append rest.told _ ∙ (append-nil _ ∙ rest.no_access);
      unsealed = flat_map-append (λ (one : Stamp × Change). sealed_by one.1) rest.told _ ∙ (append-nil _ ∙ rest.unsealed);
      within = (
        (refl, omega arith, onward.1),
        all-append (λ (one : Stamp × Change). IsBetween clock after one.0) rest.told _ rest.within ((onward.0, onward.1, omega arith), tt),
      );
      outside = outside;
      kept = kept;
    }

  -- ---- the whole way

  -- where the way goes on behind a link, that isn't the key
  above_key : (link next : Link) (links : List Link) → IsWay longest tree key (not lent) link.path link.taken (next ∷ links) → same_path link.path key ≡ false
  above_key link next links way =
      same_path-apart link.path key
      (λ same. none-some way.0.on (sym (ap (λ (k : List Bool). side k key) same ∙ side-self key) ∙ way.0.on_side))

  module _ (clock after : Reading) (at_end : List Bool → Link → List Command) (adds evicts : List Element)
      (onward : IsOnward clock after)
      (sound : (at : List Bool) (value : Value) (link : Link) → same_path link.path key ≡ false → (step : IsStep longest tree key (not lent) at value link) → IsSound at value link step)
      (ends : (at : List Bool) (hold : Hold) (value : Value) (link : Link) → 0 < length at → IsBased at → IsStep longest tree key (not lent) at value link → link.path ≡ key
      → Along at hold value (link ∷ []) clock after (at_end at link) adds evicts) where
    -- A transfer along the way to its key, where it is known at its end.
    pub along : (at : List Bool) (hold : Hold) (value : Value) (link : Link) (links : List Link) → 0 < length at → IsBased at → IsWay longest tree key (not lent) at value (link ∷ links)
        → Along at hold value (link ∷ links) clock after (visit_but_last at (link ∷ links) at_end) adds evicts
    along at hold value link [] some based way = ends at hold value link some based way.0 way.1
    along at hold value link (next ∷ links) some based way =
        let apart = above_key link next links way.1 in
        along_link at hold value link next links clock after (visit_but_last link.path (next ∷ links) at_end) adds evicts way.0
        (sound at value link apart way.0) apart onward some based
        (along link.path M link.taken next links (some_path link.path (deeper at link.path way.0.on some way.0.below)) (λ k on below other. based k way.0.on (side-trans at link.path k way.0.on on way.0.below below) other) way.1)

-- ---- at its end

-- a record that comes back
pub back_ends : (rules : Rules) (tree before base : Tree) (key : List Bool) (element : Element) (clock : Reading) (at : List Bool) (hold : Hold) (value : Value) (link : Link)
    → 0 < length at → ((k : List Bool) → same_path k key ≡ false → base k ≡ before k)
    → (step : IsStep rules.scheme.format.longest tree key true at value link) → link.path ≡ key → element.path ≡ key → tree key ≡ Some element.value
    → element.verifier < rules.verifiers → is_open clock element.stamp.epoch ≡ true → (taking clock element.stamp).at.counter ≤ clock.end
    → IsOnward clock (taking clock element.stamp)
    → Along rules tree before base key false element.value at hold value (link ∷ []) clock (taking clock element.stamp) (come_back element at link) (element ∷ []) []
back_ends rules tree before base key element clock at hold value link some kept step is_key is_path there known is_taken within onward =
    subst (λ (l : Link). Along rules tree before base key false element.value at hold value (l ∷ []) clock later (come_back element at l) (element ∷ []) []) (sym link_is)
    (record {
      told = told;
      works = subst (λ (v : Value). Works rules 1 at hold value clock commands told v later) (sym closed_is)
          (subst (λ (v : Value). Works rules 1 at hold v clock commands told (values.Node left) later) (sym step.is_node)
          (comes_back rules at hold step.node step.on step.pointer element clock some below step.points (step.to ∙ to_element) (step.late_if_last is_key) known is_taken within));
      added = refl;
      evicted = refl;
      no_access = refl;
      unsealed = refl;
      within = ((onward.0, onward.1, omega arith), ((onward.0, onward.1, omega arith), tt));
      outside = λ path apart. carried_other path
          (same_path-apart element.path path (λ same. none-some step.on (sym apart ∙ (ap (side at) (sym same) ∙ below))));
      kept = λ path. at_path path (same_path element.path path) refl;
    })
  where
    later : Reading
    later = taking clock element.stamp

    commands : List Command
    commands = come_back element at (record { path = element.path; value = element.value; taken = element.value })

    taken_is : link.taken ≡ element.value
    taken_is = same_Some link.taken element.value (sym step.there ∙ (ap tree is_key ∙ there))

    to_element : link.path ≡ element.path
    to_element = is_key ∙ sym is_path

    link_is : ◌≡◌ {A = Link} link (record { path = element.path; value = element.value; taken = element.value })
    link_is = same_link link element.path element.value element.value to_element (step.as_it_is ∙ taken_is) taken_is

    below : side at element.path ≡ Some step.on
    below = ap (side at) (sym to_element) ∙ step.below

    left : Node
    left = pointing rules.scheme.digest step.node step.on element.path element.value

    closed_is : aimed at value (pointer_to rules.scheme.digest element.path element.value) ≡ values.Node left
    closed_is =
        ap (λ (v : Value). aimed at v (pointer_to rules.scheme.digest element.path element.value)) step.is_node
        ∙ ap (λ (s : Option Bool). aimed_on step.node (pointer_to rules.scheme.digest element.path element.value) s) below

    told : Told
    told = told_back at hold step.node left element later

    evict : Change
    evict = did_evict_m (new_entry at (values.Node step.node) hold) (new_entry at (values.Node left) hold) (new_entry element.path element.value B)

    carried_other : (k : List Bool) → same_path element.path k ≡ false → carried k told ≡ []
    carried_other k apart = ap (λ (b : Bool). (if b then evict ∷ [] else []) ++ []) apart

    carried_own : carried element.path told ≡ evict ∷ []
    carried_own = ap (λ (b : Bool). (if b then evict ∷ [] else []) ++ []) (same_path-self element.path)

    closed : Tree
    closed = closed_records rules.scheme.digest false base (record { path = element.path; value = element.value; taken = element.value } ∷ []) element.value

    here : closed element.path ≡ Some element.value
    here = ap (λ (b : Bool). if b then Some element.value else base element.path) (same_path-self element.path)

    at_path : (path : List Bool) (b : Bool) → same_path element.path path ≡ b → AreCarried path (before path) (closed path) (carried path told)
    at_path path true same =
        subst (λ (k : List Bool). AreCarried k (before k) (closed k) (carried k told)) (same_path-true element.path path same)
        (subst (AreCarried element.path (before element.path) (closed element.path)) (sym carried_own) (refl, λ v is. sym here ∙ is))
    at_path path false apart =
        subst (AreCarried path (before path) (closed path)) (sym (carried_other path apart))
        (λ v is. sym (kept path (not_key path other)) ∙ (sym (ap (λ (b : Bool). if b then Some element.value else base path) other) ∙ is))
      where
        other : same_path path element.path ≡ false
        other = same_path-apart path element.path (λ same. false≢true (sym apart ∙ (ap (same_path element.path) same ∙ same_path-self element.path)))

        not_key : (path : List Bool) → same_path path element.path ≡ false → same_path path key ≡ false
        not_key k is = ap (same_path k) (sym is_path) ∙ is

-- a record that becomes hot
pub hot_ends : (rules : Rules) (tree before base : Tree) (key : List Bool) (last : Value) (clock : Reading) (at : List Bool) (hold : Hold) (value : Value) (link : Link)
    → 0 < length at → ((k : List Bool) → same_path k key ≡ false → base k ≡ before k) → before key ≡ tree key
    → (step : IsStep rules.scheme.format.longest tree key false at value link) → link.path ≡ key → link.taken ≡ last
    → step.pointer.digest ≡ rules.scheme.digest (value_text link.taken)
    → (giving clock).at.counter ≤ clock.end
    → Along rules tree before base key true last at hold value (link ∷ []) clock (giving clock) (become_hot (giving clock).at at link) []
    (record { path = key; value = last; stamp = (giving clock).at; verifier = rules.number } ∷ [])
hot_ends rules tree before base key last clock at hold value link some kept known step is_key is_last keeps within =
    subst (λ (l : Link). Along rules tree before base key true last at hold value (l ∷ []) clock later (become_hot later.at at l) []
    (record { path = key; value = last; stamp = later.at; verifier = rules.number } ∷ [])) (sym link_is)
    (record {
      told = told;
      works = subst (λ (v : Value). Works rules 1 at hold value clock commands told v later) (sym closed_is)
          (subst (λ (v : Value). Works rules 1 at hold v clock commands told (values.Node left) later) (sym step.is_node)
          (lends rules at key hold step.node step.on last last clock
          (record {
            middle = step.node;
            pointer = step.pointer;
            below = below;
            added = λ held. adds_known rules.scheme.digest at step.node step.on step.pointer key last below step.points to_key fresh keeps_last held;
            points = step.points;
            to = to_key;
            fresh = fresh;
            over = λ p. refl;
          }) some within));
      added = refl;
      evicted = refl;
      no_access = refl;
      unsealed = refl;
      within = ((refl, omega arith, omega arith), ((refl, omega arith, omega arith), tt));
      outside = λ path apart. carried_other path (same_path-apart key path (λ same. none-some step.on (sym apart ∙ (ap (side at) (sym same) ∙ below))));
      kept = λ path. at_path path (same_path key path) refl;
    })
  where
    fresh : step.pointer.deferred ≡ false
    fresh = step.late_if_last is_key

    later : Reading
    later = giving clock

    commands : List Command
    commands = become_hot later.at at (record { path = key; value = last; taken = last })

    link_is : ◌≡◌ {A = Link} link (record { path = key; value = last; taken = last })
    link_is = same_link link key last last is_key (step.as_it_is ∙ is_last) is_last

    below : side at key ≡ Some step.on
    below = ap (side at) (sym is_key) ∙ step.below

    to_key : step.pointer.path ≡ key
    to_key = step.to ∙ is_key

    keeps_last : step.pointer.digest ≡ rules.scheme.digest (value_text last)
    keeps_last = keeps ∙ ap (λ (v : Value). rules.scheme.digest (value_text v)) is_last

    closing : Pointer
    closing = deferred_pointer (pointer_to rules.scheme.digest key last)

    left : Node
    left = with_side step.node step.on (Some (deferred_pointer step.pointer))

    lent_is : deferred_pointer step.pointer ≡ closing
    lent_is =
        ap (λ (k : List Bool). record { path = k; digest = step.pointer.digest; deferred = true }) to_key
        ∙ ap (λ (d : List ℕ). record { path = key; digest = d; deferred = true }) keeps_last

    closed_is : aimed at value closing ≡ values.Node left
    closed_is =
        ap (λ (v : Value). aimed at v closing) step.is_node
        ∙ (ap (λ (s : Option Bool). aimed_on step.node closing s) below
        ∙ ap (λ (p : Pointer). values.Node (with_side step.node step.on (Some p))) (sym lent_is))

    told : Told
    told = told_lent rules.number at hold step.node step.node left step.on key last clock later

    add : Change
    add = did_add_m (new_entry at (values.Node step.node) hold) (set_kid (new_entry at (values.Node step.node) hold) step.on true) (new_entry key last M)

    carried_other : (k : List Bool) → same_path key k ≡ false → carried k told ≡ []
    carried_other k apart = ap (λ (b : Bool). (if b then add ∷ [] else []) ++ []) apart

    carried_own : carried key told ≡ add ∷ []
    carried_own = ap (λ (b : Bool). (if b then add ∷ [] else []) ++ []) (same_path-self key)

    closed : Tree
    closed = without_record (closed_records rules.scheme.digest true base (record { path = key; value = last; taken = last } ∷ []) last) key

    gone : closed key ≡ None
    gone = ap (λ (b : Bool). if b then None else closed_records rules.scheme.digest true base (record { path = key; value = last; taken = last } ∷ []) last key) (same_path-self key)

    at_path : (path : List Bool) (b : Bool) → same_path key path ≡ b → AreCarried path (before path) (closed path) (carried path told)
    at_path path true same =
        subst (λ (k : List Bool). AreCarried k (before k) (closed k) (carried k told)) (same_path-true key path same)
        (subst (AreCarried key (before key) (closed key)) (sym carried_own)
        (refl, ((λ led. known ∙ (ap tree (sym is_key) ∙ (step.there ∙ ap (λ (v : Value). Some v) is_last))), λ v is. absurd (none-some v (sym gone ∙ is)))))
    at_path path false apart =
        subst (AreCarried path (before path) (closed path)) (sym (carried_other path apart))
        (λ v is. sym (kept path other) ∙ (sym stays ∙ is))
      where
        other : same_path path key ≡ false
        other = same_path-apart path key (λ same. false≢true (sym apart ∙ (ap (same_path key) same ∙ same_path-self key)))

        stays : closed path ≡ base path
        stays =
            ap (λ (b : Bool). if b then None else closed_records rules.scheme.digest true base (record { path = key; value = last; taken = last } ∷ []) last path) other
            ∙ ap (λ (b : Bool). if b then Some last else base path) other
