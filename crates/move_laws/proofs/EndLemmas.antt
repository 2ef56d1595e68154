-- A record that comes in under its node: by its element, where the node's pointer is deferred, or by its digest.
use Rattle.std.proofs.Common.{◌≡◌, ℕ, ◌+◌, ◌<◌, ◌≤◌, Bool, true, false, not, ◌||◌, List, [], ◌∷◌, ◌++◌, length, nat_le, Option, Some, None, is_some, Result, Ok, if◌then◌else◌, refl, sym, ◌∙◌, ap, arith}
use Rattle.std.specs.Option.{option_or}
use Rattle.std.proofs.lemmas.Bool.Decides.{nat_tests}
use Rattle.std.proofs.lemmas.List.{length-append}
use Rattle.std.proofs.lemmas.Option.{none-some}
use Rattle.base_words.specs.Steps.{test, need, and_then}
use Rattle.tree_keys.specs.Path.{side, same_path}
use Rattle.tree_keys.proofs.PathLaws.{same_path-self, same_path-apart}
use Rattle.tree_keys.proofs.SideLaws.{is_prefix-self, above_apart}
use Rattle.lamport_clocks.specs.Reading.{Reading}
use Rattle.lamport_clocks.specs.Clock.{is_open}
use Rattle.record_text.specs.declared.element.Element.{Element}
use Rattle.record_text.specs.declared.value.Pointer.{Pointer}
use Rattle.record_text.specs.declared.value.Node.{Node}
use Rattle.record_text.specs.declared.value.Value.{Value}
use Rattle.record_text.specs.declared.value.Value.TheVariants as values
use Rattle.record_text.specs.declared.refusal.Refusal.{Refusal}
use Rattle.record_text.specs.Value.{node_side}
use Rattle.record_text.specs.Texts.{value_text}
use Rattle.record_text.specs.Same.{same_bytes}
use Rattle.record_text.proofs.SameTestLaws.{same_bytes-self}
use Rattle.log_codec.specs.declared.command.Command.TheVariants.{AddB, EvictM}
use Rattle.merkle_records.specs.declared.cases.AddCase.{AddCase}
use Rattle.merkle_records.specs.declared.cases.AddCase.TheVariants as cases
use Rattle.merkle_records.specs.Merkle.{Digest, case_of, pointing, after_evict, added_by}
use Rattle.verifier_cache.specs.declared.entry.Entry.{Entry}
use Rattle.verifier_cache.specs.declared.entry.Hold.{Hold}
use Rattle.verifier_cache.specs.declared.entry.Hold.TheVariants.{M, B}
use Rattle.verifier_cache.specs.Entry.{kid_of, set_kid, new_entry}
use Rattle.verifier_cache.specs.Cache.{entry_of, without, replaced}
use Rattle.verifier_cache.proofs.EntriesLaws.{entry_of-append}
use Rattle.verifier_commands.specs.State.{with_entries}
use Rattle.verifier_commands.specs.Change.{did_add_b, did_evict_m}
use Rattle.verifier_commands.specs.Changes.{add_under, add_by, above_on, evict_under, family_of, is_deferred, has_digest, leads_to, left_by}
use Rattle.verifier_commands.specs.Transition.{Rules, is_root, transition, timed}
use Rattle.host_plan.specs.Moments.{taking}
use Rattle.host_laws.specs.Running.{Told}
use Rattle.host_laws.proofs.DepthLaws.{not_root, deeper}
use Rattle.host_laws.proofs.MomentLaws.{received-taken}
use Rattle.host_laws.proofs.RunLaws.{run-one, run-step}
use Rattle.host_laws.proofs.WorksLaws.{IsClear, standing, Works, clear-below}

-- ---- tests that are passed

pub passed : {X : Type 0} (b : Bool) (refusal : Refusal) (next : Result X Refusal) → b ≡ false → test b refusal next ≡ next
passed b refusal next is = ap (λ (x : Bool). test x refusal next) is

pub found : {A X : Type 0} (option : Option A) (refusal : Refusal) (next : A → Result X Refusal) (value : A) → option ≡ Some value
    → need option refusal next ≡ next value
found option refusal next value is = ap (λ (o : Option _). need o refusal next) is

-- ---- a node and a child of it, last in a cache

-- they are found
pub child_found : (path : List Bool) (front : List Entry) (child : Entry) → child.path ≡ path → entry_of path front ≡ None
    → entry_of path (front ++ child ∷ []) ≡ Some child
child_found path front child is clear =
    entry_of-append path front (child ∷ [])
    ∙ (ap (λ (o : Option Entry). option_or o (entry_of path (child ∷ []))) clear
    ∙ ap (λ (b : Bool). if b then Some child else None) (ap (same_path path) is ∙ same_path-self path))

node_found : (at : List Bool) (front : List Entry) (node child : Entry) → node.path ≡ at → entry_of at front ≡ None
    → entry_of at ((front ++ node ∷ []) ++ child ∷ []) ≡ Some node
node_found at front node child is clear =
    entry_of-append at (front ++ node ∷ []) (child ∷ [])
    ∙ ap (λ (o : Option Entry). option_or o (entry_of at (child ∷ []))) (child_found at front node is clear)

-- the child leaves, and the node changes
child_gone : (at path : List Bool) (front : List Entry) (node later child : Entry) → node.path ≡ at → later.path ≡ at → child.path ≡ path
    → same_path path at ≡ false → entry_of at front ≡ None → entry_of path front ≡ None
    → without path (replaced later ((front ++ node ∷ []) ++ child ∷ [])) ≡ front ++ later ∷ []
child_gone at path [] node later child is_node is_later is_child apart clear clear_path =
    ap (λ (b : Bool). without path (if b then later ∷ child ∷ [] else node ∷ (if same_path later.path child.path then later ∷ [] else child ∷ [])))
    (ap (λ (k : List Bool). same_path k node.path) is_later ∙ (ap (same_path at) is_node ∙ same_path-self at))
    ∙ (ap (λ (b : Bool). if b then child ∷ [] else later ∷ (if same_path path child.path then [] else child ∷ [])) (ap (same_path path) is_later ∙ apart)
    ∙ ap (λ (b : Bool). later ∷ (if b then [] else child ∷ [])) (ap (same_path path) is_child ∙ same_path-self path))
child_gone at path (x ∷ front) node later child is_node is_later is_child apart clear clear_path =
    go (λ is also. child_gone at path front node later child is_node is_later is_child apart is also)
    (same_path at x.path) refl (same_path path x.path) refl clear clear_path
  where
    rest : List Entry
    rest = (front ++ node ∷ []) ++ child ∷ []

    go : (entry_of at front ≡ None → entry_of path front ≡ None → without path (replaced later rest) ≡ front ++ later ∷ [])
        → (a : Bool) → same_path at x.path ≡ a → (b : Bool) → same_path path x.path ≡ b
        → (if a then Some x else entry_of at front) ≡ None → (if b then Some x else entry_of path front) ≡ None
        → without path (replaced later (x ∷ rest)) ≡ x ∷ (front ++ later ∷ [])
    go further true same b is none also = absurd (none-some x (sym none))
    go further false apart' true same none also = absurd (none-some x (sym also))
    go further false apart' false other' none also =
        ap (λ (c : Bool). without path (if c then later ∷ rest else x ∷ replaced later rest)) (ap (λ (k : List Bool). same_path k x.path) is_later ∙ apart')
        ∙ (ap (λ (c : Bool). if c then replaced later rest else x ∷ without path (replaced later rest)) other'
        ∙ ap (λ (xs : List Entry). x ∷ xs) (further none also))

-- ---- a record that comes back

no_kid : (at : List Bool) (value : Value) (hold : Hold) (on : Bool) → kid_of (new_entry at value hold) on ≡ false
no_kid at value hold true = refl
no_kid at value hold false = refl

kid_cleared : (at : List Bool) (node after : Node) (hold : Hold) (on : Bool)
    → left_by (new_entry at (values.Node node) hold) (record { on = on; node = node }) after ≡ new_entry at (values.Node after) hold
kid_cleared at node after hold true = refl
kid_cleared at node after hold false = refl

-- what came in by its element leaves by its digest, where the pointer to it is deferred
stays_under : (digest : Digest) (at : List Bool) (node : Node) (on : Bool) (pointer : Pointer) (path : List Bool) (value : Value) (hold : Hold)
    → side at path ≡ Some on → node_side node on ≡ Some pointer → pointer.path ≡ path → pointer.deferred ≡ true
    → evict_under digest (new_entry at (values.Node node) hold) (new_entry path value B)
    ≡ Ok (new_entry at (values.Node (pointing digest node on path value)) hold)
stays_under digest at node on pointer path value hold below points to deferred =
    found (above_on (side at path) (Some node)) _ _ (record { on = on; node = node }) (ap (λ (s : Option Bool). above_on s (Some node)) below)
    ∙ (passed (not (leads_to (node_side node on) path)) _ _
    (ap (λ (o : Option Pointer). not (leads_to o path)) points ∙ (ap (λ (p : List Bool). not (same_path p path)) to ∙ ap (λ (b : Bool). not b) (same_path-self path)))
    ∙ (passed (kid_of (new_entry at (values.Node node) hold) on || not (is_deferred (node_side node on))) _ _
    (ap (λ (b : Bool). b || not (is_deferred (node_side node on))) (no_kid at (values.Node node) hold on)
    ∙ (ap (λ (o : Option Pointer). not (is_deferred o)) points ∙ ap (λ (b : Bool). not b) deferred))
    ∙ ap (λ (e : Entry). Ok e) (kid_cleared at node (after_evict digest node on path value) hold on)))

-- what is told of it
abbrev pub told_back : List Bool → Hold → Node → Node → Element → Reading → Told
told_back at hold node left element later =
    (later.at, did_add_b (new_entry element.path element.value B) element)
    ∷ (later.at, did_evict_m (new_entry at (values.Node node) hold) (new_entry at (values.Node left) hold) (new_entry element.path element.value B))
    ∷ []

-- A record comes in by its element, and goes out by its digest.
pub comes_back : (rules : Rules) (at : List Bool) (hold : Hold) (node : Node) (on : Bool) (pointer : Pointer) (element : Element) (clock : Reading)
    → 0 < length at → side at element.path ≡ Some on → node_side node on ≡ Some pointer → pointer.path ≡ element.path → pointer.deferred ≡ true
    → element.verifier < rules.verifiers → is_open clock element.stamp.epoch ≡ true → (taking clock element.stamp).at.counter ≤ clock.end
    → let left = pointing rules.scheme.digest node on element.path element.value in
    Works rules 1 at hold (values.Node node) clock (AddB element.path element.value element.stamp element.verifier ∷ EvictM element.path at ∷ [])
    (told_back at hold node left element (taking clock element.stamp)) (values.Node left) (taking clock element.stamp)
comes_back rules at hold node on pointer element clock some below points to deferred known is_taken within front room clear roomy =
    run-step rules _ (AddB element.path element.value element.stamp element.verifier) (EvictM element.path at ∷ []) _
    (standing (front ++ before ∷ []) room later child) _ _ added
    (run-one rules _ (EvictM element.path at) _ (standing front room later after) evicted)
  where
    longest : ℕ
    longest = rules.scheme.format.longest

    digest : Digest
    digest = rules.scheme.digest

    before : Entry
    before = new_entry at (values.Node node) hold

    child : Entry
    child = new_entry element.path element.value B

    after : Entry
    after = new_entry at (values.Node (pointing digest node on element.path element.value)) hold

    later : Reading
    later = taking clock element.stamp

    cleared : IsClear element.path (front ++ before ∷ [])
    cleared = clear-below at element.path on front before below refl clear

    nothing : entry_of element.path (front ++ before ∷ []) ≡ None
    nothing = cleared element.path (is_prefix-self element.path)

    longer : length (front ++ before ∷ []) ≡ length front + 1
    longer = length-append front (before ∷ [])

    no_root : is_root element.path ≡ false
    no_root = not_root element.path (deeper at element.path on some below)

    added : transition rules (standing front room clock before) (AddB element.path element.value element.stamp element.verifier)
        ≡ Ok (did_add_b child element, standing (front ++ before ∷ []) room later child)
    added =
        passed _ _ _ no_root
        ∙ (passed (is_some (entry_of element.path (front ++ before ∷ []))) _ _ (ap (λ (o : Option Entry). is_some o) nothing)
        ∙ (passed (nat_le room (length (front ++ before ∷ []))) _ _ (grind (arith, nat_tests, longer))
        ∙ (passed (nat_le rules.verifiers element.verifier) _ _ (grind (arith, nat_tests))
        ∙ ap (λ (r : Result Reading _). timed r (λ c. Ok (did_add_b child element, standing (front ++ before ∷ []) room c child)))
        (received-taken clock element.stamp is_taken within))))

    evicted : transition rules (standing (front ++ before ∷ []) room later child) (EvictM element.path at)
        ≡ Ok (did_evict_m before after child, standing front room later after)
    evicted =
        passed _ _ _ no_root
        ∙ (found (entry_of element.path ((front ++ before ∷ []) ++ child ∷ [])) _ _ child (child_found element.path (front ++ before ∷ []) child refl nothing)
        ∙ (found (entry_of at ((front ++ before ∷ []) ++ child ∷ [])) _ _ before (node_found at front before child refl (clear at (is_prefix-self at)))
        ∙ (ap (λ (r : Result Entry Refusal). and_then r (λ e. Ok (did_evict_m before e child, with_entries (standing (front ++ before ∷ []) room later child) (without element.path (replaced e ((front ++ before ∷ []) ++ child ∷ []))))))
        (stays_under digest at node on pointer element.path element.value hold below points to deferred)
        ∙ ap (λ (entries : List Entry). Ok (did_evict_m before after child, with_entries (standing (front ++ before ∷ []) room later child) entries)) gone)))
      where
        above : same_path element.path at ≡ false
        above = same_path-apart element.path at (λ same. above_apart at element.path on below (sym same))

        gone : without element.path (replaced after ((front ++ before ∷ []) ++ child ∷ [])) ≡ front ++ after ∷ []
        gone =
            child_gone at element.path front before after child refl refl refl above (clear at (is_prefix-self at))
            (before_it (entry_of element.path front) refl)
          where
            before_it : (o : Option Entry) → entry_of element.path front ≡ o → entry_of element.path front ≡ None
            before_it None is = is
            before_it (Some e) is =
                absurd (none-some e (sym nothing ∙ (entry_of-append element.path front (before ∷ []) ∙ ap (λ (o : Option Entry). option_or o (entry_of element.path (before ∷ []))) is)))

-- ---- a record that comes in by its digest

-- it is added, where its node's pointer leads to it with the digest of its value
pub adds_known : (digest : Digest) (at : List Bool) (node : Node) (on : Bool) (pointer : Pointer) (path : List Bool) (value : Value)
    → side at path ≡ Some on → node_side node on ≡ Some pointer → pointer.path ≡ path → pointer.deferred ≡ false
    → pointer.digest ≡ digest (value_text value)
    → (hold : Hold) → add_under digest (new_entry at (values.Node node) hold) path value
    ≡ Ok (record { parent = set_kid (new_entry at (values.Node node) hold) on true; child = new_entry path value M })
adds_known digest at node on pointer path value below points to fresh keeps hold =
    found (above_on (side at path) (Some node)) _ _ (record { on = on; node = node }) (ap (λ (s : Option Bool). above_on s (Some node)) below)
    ∙ (ap (λ (c : AddCase). add_by digest parent (record { on = on; node = node }) path value c) same
    ∙ (passed (is_deferred (node_side node on)) _ _ (ap (λ (o : Option Pointer). is_deferred o) points ∙ fresh)
    ∙ (passed (not (has_digest (node_side node on) (digest (value_text value)))) _ _ right
    ∙ (passed (kid_of parent on) _ _ (no_kid at (values.Node node) hold on)
    ∙ ap (λ (c : AddCase). Ok (family_of parent (record { on = on; node = node }) (added_by digest node on path value (node_side node on) c) path None)) same))))
  where
    parent : Entry
    parent = new_entry at (values.Node node) hold

    same : case_of (node_side node on) path ≡ cases.Same
    same =
        ap (λ (o : Option Pointer). case_of o path) points
        ∙ ap (λ (b : Bool). if b then cases.Same else if is_some (side path pointer.path) then cases.Split else cases.Foreign)
        (ap (λ (p : List Bool). same_path p path) to ∙ same_path-self path)

    right : not (has_digest (node_side node on) (digest (value_text value))) ≡ false
    right =
        ap (λ (o : Option Pointer). not (has_digest o (digest (value_text value)))) points
        ∙ (ap (λ (d : List ℕ). not (same_bytes d (digest (value_text value)))) keeps
        ∙ ap (λ (b : Bool). not b) (same_bytes-self (digest (value_text value))))
