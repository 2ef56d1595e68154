-- The setup runs, level by level.
use Rattle.std.proofs.Common.{◌≡◌, ℕ, zero, suc, ◌+◌, ◌*◌, ◌^◌, ◌<◌, ◌≤◌, Bool, true, false, List, [], ◌∷◌, ◌++◌, append-nil, append_assoc, Option, Some, None, if◌then◌else◌, refl, sym, ◌∙◌, ap, subst, arith}
use Rattle.std.specs.List.{AllByRecursion, flat_map}
use Rattle.std.proofs.lemmas.List.Concat.{flat_map-append}
use Rattle.tree_keys.specs.Path.{key_bits, depth, root_of, key_of, side, same_path, IsIn}
use Rattle.tree_keys.proofs.PathLaws.{same_path-apart}
use Rattle.tree_keys.proofs.TreeLaws.{in-child, depth-child}
use Rattle.lamport_clocks.specs.declared.header.Header.{Header}
use Rattle.lamport_clocks.specs.declared.stamp.Stamp.{Stamp}
use Rattle.lamport_clocks.specs.Reading.{Reading}
use Rattle.record_text.specs.declared.element.Element.{Element}
use Rattle.record_text.specs.declared.value.Pointer.{Pointer}
use Rattle.record_text.specs.declared.value.Node.{Node}
use Rattle.record_text.specs.declared.value.Value.{Value}
use Rattle.record_text.specs.declared.value.Value.TheVariants as values
use Rattle.record_text.specs.Value.{node_side, with_side, empty_node, initial_value}
use Rattle.record_text.specs.Tree.{wide_of}
use Rattle.log_codec.specs.declared.command.Command.{Command}
use Rattle.log_codec.specs.declared.command.Command.TheVariants.{AddM, EvictM}
use Rattle.merkle_records.specs.Merkle.{pointing, pointer_to, deferred_pointer}
use Rattle.merkle_records.specs.Scheme.{Scheme}
use Rattle.verifier_cache.specs.declared.entry.Hold.{Hold}
use Rattle.verifier_cache.specs.declared.entry.Hold.TheVariants.{Root, M}
use Rattle.verifier_cache.specs.Entry.{new_entry}
use Rattle.verifier_commands.specs.Change.{Change, did_add_m, did_evict_m}
use Rattle.verifier_commands.specs.Changes.{above, above_on, leads_to}
use Rattle.verifier_commands.specs.Transition.{Rules}
use Rattle.soundness.specs.Clash.{is_known}
use Rattle.soundness.specs.StateHistory.{rules_under}
use Rattle.soundness.specs.Typed.{IsPathTypedIn}
use Rattle.host_shard.specs.Content.{Content, pending}
use Rattle.host_plan.specs.Moments.{giving}
use Rattle.host_plan.specs.Setup.{child, set_up, setup_commands, paths_below, first_contents}
use Rattle.host_laws.specs.Running.{Told, added_told, evicted_told, accesses_told}
use Rattle.host_laws.specs.Carried.{carried}
use Rattle.host_laws.specs.Served.{waiting}
use Rattle.host_laws.specs.SettingUp.{set_up_pointer, set_up_root, first_clock, IsNew, CanSetUp, SetupRuns}
use Rattle.host_laws.proofs.ToldLaws.{added_told-append, evicted_told-append, accesses_told-append, carried-append, all-append}
use Rattle.host_laws.proofs.DepthLaws.{some_in, node_in}
use Rattle.host_laws.proofs.ChainLaws.{initial_node}
use Rattle.host_laws.proofs.FamilyLemmas.{Fits, parent_of, fits_new, fits_new-pointer, lending}
use Rattle.host_laws.proofs.WorksLaws.{Works, works-append, told_visit, descend, told_lent, lends}
use Rattle.host_laws.proofs.VisitLemmas.{carried_link-other}
use Rattle.host_laws.proofs.NumberLaws.{number_of-none, number_of-child, key_of-child, count_first, count_between, count_last}
use Rattle.host_laws.proofs.ContentsLaws.{side-child, first_contents-append, initial_is_node}

-- the elements with which contents wait
abbrev waiting_all : List Content → List Element
waiting_all contents = flat_map (λ content. waiting (pending content)) contents

-- the same clocks by other counts
works_at : (rules : Rules) (more : ℕ) (at : List Bool) (hold : Hold) (old new : Value) (first end from to start stop : ℕ) (commands : List Command) (told : Told)
    → from ≡ start → to ≡ stop
    → Works rules more at hold old (first_clock first end from) commands told new (first_clock first end to)
    → Works rules more at hold old (first_clock first end start) commands told new (first_clock first end stop)
works_at rules more at hold old new first end from to start stop commands told one two works =
    subst (λ (c : ℕ). Works rules more at hold old (first_clock first end c) commands told new (first_clock first end stop)) one
    (subst (λ (c : ℕ). Works rules more at hold old (first_clock first end from) commands told new (first_clock first end c)) two works)

-- a path under a node whose pointer there leads nowhere comes in as a new one
is_new : (at path : List Bool) (node : Node) (hold : Hold) (on : Bool) → side at path ≡ Some on → node_side node on ≡ None
    → is_known (above (new_entry at (values.Node node) hold) path) path ≡ false
is_new at path node hold on below none =
    ap (λ (s : Option Bool). is_known (above_on s (Some node)) path) below ∙ ap (λ (o : Option Pointer). leads_to o path) none

-- a path isn't a deeper one
deeper_apart : (path k : List Bool) → depth path < depth k → same_path path k ≡ false
deeper_apart path k short = same_path-apart path k (λ same. let whole = ap (λ (p : List Bool). depth p) same in omega (arith, whole, short))

module _ (wide : Bool) (scheme : Scheme) (verifiers first end : ℕ) where
  abbrev rules : Rules
  rules = record { scheme = scheme; number = 0; verifiers = verifiers }

  -- The child of a path is set up, with so many levels below it.
  pub record IsSetUp (levels : ℕ) (parent : List Bool) (on : Bool) (node : Node) (hold : Hold) : Type 0 where
    pub told : Told
    pub works : Works rules (suc levels) parent hold (values.Node node) (first_clock first end (key_of (child parent on) * 2 ^ levels))
        (set_up first levels (child parent on) parent) told
        (values.Node (with_side node on (Some (set_up_pointer scheme.digest levels (child parent on)))))
        (first_clock first end ((key_of (child parent on) + 1) * 2 ^ levels))
    pub added : added_told told ≡ []
    pub evicted : evicted_told told ≡ waiting_all (first_contents first (paths_below levels (child parent on)))
    pub accesses : accesses_told told ≡ []
    pub new : AllByRecursion (λ (one : Stamp × Change). IsNew one.1) told
    pub apart : (k : List Bool) → depth (child parent on) + levels < depth k → carried k told ≡ []

  -- a frontier
  set_up_last : (parent : List Bool) (on : Bool) (node : Node) (hold : Hold) → IsIn wide parent → node_side node on ≡ None
      → (key_of (child parent on) + 1) * 2 ^ 0 ≤ end → IsSetUp 0 parent on node hold
  set_up_last parent on node hold of_tree none within = record {
    told = told;
    works = works_at rules 1 parent hold (values.Node node) (values.Node (lent_node (set_up_pointer scheme.digest 0 path))) first end
        count (1 + count) (count * 2 ^ 0) ((count + 1) * 2 ^ 0) (set_up first 0 path parent) told (omega arith) (omega arith)
        (subst (λ (p : Pointer). Works rules 1 parent hold (values.Node node) clock (set_up first 0 path parent) (told_by p) (values.Node (lent_node (deferred_pointer p))) (giving clock))
        (fits_new-pointer scheme.digest parent path node on below none)
        (lends rules parent path hold node on (initial_value path) (initial_value path) clock fits (some_in wide parent of_tree) (omega (arith, within))));
    added = refl;
    evicted = refl;
    accesses = refl;
    new = (is_new parent path node hold on below none, (tt, tt));
    apart = λ k longer. ap (λ (b : Bool). (if b then came ∷ [] else []) ++ []) (deeper_apart path k (omega (arith, longer)));
  }
    where
      path : List Bool
      path = child parent on

      count : ℕ
      count = key_of path

      clock : Reading
      clock = first_clock first end count

      below : side parent path ≡ Some on
      below = side-child parent on

      fits : Fits scheme.digest parent node on path (initial_value path) (initial_value path)
      fits = fits_new scheme.digest parent path node on below none

      came : Change
      came = did_add_m (new_entry parent (values.Node node) hold) (parent_of parent fits.middle hold on) (new_entry path (initial_value path) M)

      lent_node : Pointer → Node
      lent_node pointer = with_side node on (Some pointer)

      told_by : Pointer → Told
      told_by pointer = told_lent 0 parent hold node fits.middle (lending node on pointer) on path (initial_value path) clock (giving clock)

      told : Told
      told = told_by (pointer_to scheme.digest path (initial_value path))

  -- a path above two that are set up
  set_up_above : (levels : ℕ) (parent : List Bool) (on : Bool) (node : Node) (hold : Hold) → IsIn wide parent → node_side node on ≡ None
      → depth (child parent on) + suc levels < key_bits wide
      → (near : IsSetUp levels (child parent on) false empty_node M)
      → IsSetUp levels (child parent on) true (with_side empty_node false (Some (set_up_pointer scheme.digest levels (child (child parent on) false)))) M
      → IsSetUp (suc levels) parent on node hold
  set_up_above levels parent on node hold of_tree none short near far = record {
    told = told;
    works = subst (λ (commands : List Command). Works rules (suc (suc levels)) parent hold (values.Node node) (first_clock first end (n * 2 ^ suc levels)) (AddM path initial parent ∷ commands) told
        (values.Node left) (first_clock first end ((n + 1) * 2 ^ suc levels)))
        (append_assoc (set_up first levels (child path false) path) (set_up first levels (child path true) path) (EvictM path parent ∷ []))
        (descend rules (suc levels) parent path hold node on initial initial (values.Node inner) (first_clock first end (n * 2 ^ suc levels)) (first_clock first end ((n + 1) * 2 ^ suc levels)) _ both fits (some_in wide parent of_tree)
        (subst (λ (v : Value). Works rules (suc levels) path M v (first_clock first end (n * 2 ^ suc levels)) (set_up first levels (child path false) path ++ set_up first levels (child path true) path) both (values.Node inner) (first_clock first end ((n + 1) * 2 ^ suc levels)))
        (sym (initial_is_node path (node_in wide path path_in (omega (arith, short))))) works));
    added = added_told-append both last ∙ (ap (λ (xs : List Element). xs ++ []) (added_told-append near.told far.told ∙ (ap (λ (xs : List Element). xs ++ added_told far.told) near.added ∙ far.added)));
    evicted = evicted_told-append both last
        ∙ (append-nil (evicted_told both)
        ∙ (evicted_told-append near.told far.told
        ∙ (ap (λ (xs : List Element). xs ++ evicted_told far.told) near.evicted
        ∙ (ap (λ (xs : List Element). waiting_all (first_contents first (paths_below levels (child path false))) ++ xs) far.evicted
        ∙ (sym (flat_map-append (λ (content : Content). waiting (pending content)) (first_contents first (paths_below levels (child path false))) (first_contents first (paths_below levels (child path true))))
        ∙ ap (λ (contents : List Content). waiting_all contents) (sym (first_contents-append first (paths_below levels (child path false)) (paths_below levels (child path true)))))))));
    accesses = accesses_told-append both last ∙ (ap (λ (xs : List _). xs ++ []) (accesses_told-append near.told far.told ∙ (ap (λ (xs : List _). xs ++ accesses_told far.told) near.accesses ∙ far.accesses)));
    new = (is_new parent path node hold on below none, all-append (λ (one : Stamp × Change). IsNew one.1) both last (all-append (λ (one : Stamp × Change). IsNew one.1) near.told far.told near.new far.new) (tt, tt));
    apart = apart;
  }
    where
      longest : ℕ
      longest = scheme.format.longest

      path : List Bool
      path = child parent on

      path_in : IsIn wide path
      path_in = in-child wide parent on of_tree

      n : ℕ
      n = key_of path

      initial : Value
      initial = initial_value path

      below : side parent path ≡ Some on
      below = side-child parent on

      fits : Fits scheme.digest parent node on path initial initial
      fits = fits_new scheme.digest parent path node on below none

      inner : Node
      inner = record { side0 = Some (set_up_pointer scheme.digest levels (child path false)); side1 = Some (set_up_pointer scheme.digest levels (child path true)) }

      left : Node
      left = pointing scheme.digest node on path (values.Node inner)

      both : Told
      both = near.told ++ far.told

      last : Told
      last = ((first_clock first end ((n + 1) * 2 ^ suc levels)).at, did_evict_m (parent_of parent fits.middle hold on) (new_entry parent (values.Node left) hold) (new_entry path (values.Node inner) M)) ∷ []

      told : Told
      told = told_visit parent hold node fits.middle on path initial (values.Node inner) left (first_clock first end (n * 2 ^ suc levels)) both (first_clock first end ((n + 1) * 2 ^ suc levels))

      one : key_of (child path false) ≡ 2 * n + 0
      one = key_of-child wide path false path_in

      two : key_of (child path true) ≡ 2 * n + 1
      two = key_of-child wide path true path_in

      works : Works rules (suc levels) path M (values.Node empty_node) (first_clock first end (n * 2 ^ suc levels))
          (set_up first levels (child path false) path ++ set_up first levels (child path true) path) both (values.Node inner) (first_clock first end ((n + 1) * 2 ^ suc levels))
      works =
          works-append rules (suc levels) path M (values.Node empty_node) _ (values.Node inner) _ (first_clock first end (key_of (child path true) * 2 ^ levels)) _ _ _ near.told far.told
          (works_at rules (suc levels) path M (values.Node empty_node) _ first end _ _ (n * 2 ^ suc levels) (key_of (child path true) * 2 ^ levels) _ near.told
          (count_first n (key_of (child path false)) (2 ^ levels) levels one refl)
          (count_between n (key_of (child path false)) (key_of (child path true)) (2 ^ levels) one two) near.works)
          (works_at rules (suc levels) path M _ (values.Node inner) first end _ _ (key_of (child path true) * 2 ^ levels) ((n + 1) * 2 ^ suc levels) _ far.told
          refl (count_last n (key_of (child path true)) (2 ^ levels) levels two refl) far.works)

      apart : (k : List Bool) → depth path + suc levels < depth k → carried k told ≡ []
      apart k longer =
          carried_link-other parent hold node fits.middle left on path k initial (values.Node inner) (first_clock first end (n * 2 ^ suc levels)) (first_clock first end ((n + 1) * 2 ^ suc levels)) both
          (deeper_apart path k (omega (arith, longer)))
          ∙ (carried-append k near.told far.told
          ∙ (ap (λ (changes : List Change). changes ++ carried k far.told) (near.apart k (omega (arith, longer, depth-child wide path false path_in)))
          ∙ far.apart k (omega (arith, longer, depth-child wide path true path_in))))

  pub is_set_up : (levels : ℕ) (parent : List Bool) (on : Bool) (node : Node) (hold : Hold) → IsIn wide parent → node_side node on ≡ None
      → depth (child parent on) + levels < key_bits wide → (key_of (child parent on) + 1) * 2 ^ levels ≤ end → IsSetUp levels parent on node hold
  is_set_up zero parent on node hold of_tree none short within = set_up_last parent on node hold of_tree none within
  is_set_up (suc levels) parent on node hold of_tree none short within =
      let path : List Bool = child parent on in
      let path_in : IsIn wide path = in-child wide parent on of_tree in
      let one = key_of-child wide path false path_in in
      let two = key_of-child wide path true path_in in
      let middle = count_between (key_of path) (key_of (child path false)) (key_of (child path true)) (2 ^ levels) one two in
      let last = count_last (key_of path) (key_of (child path true)) (2 ^ levels) levels two refl in
      set_up_above levels parent on node hold of_tree none short
      (is_set_up levels path false empty_node M path_in refl (omega (arith, depth-child wide path false path_in, short)) (omega (arith, middle, last, within)))
      (is_set_up levels path true (with_side empty_node false (Some (set_up_pointer scheme.digest levels (child path false)))) M path_in refl
      (omega (arith, depth-child wide path true path_in, short)) (omega (arith, last, within)))

-- the paths are of the tree, and the values that come in of their paths' kinds
set_up_typed : (wide : Bool) (longest : ℕ) (first levels : ℕ) (path parent : List Bool) → IsIn wide path → IsIn wide parent → depth path + levels < key_bits wide
    → AllByRecursion (IsPathTypedIn wide longest) (set_up first levels path parent)
set_up_typed wide longest first zero path parent within above short =
    (((within, above), initial_node longest path (node_in wide path within (omega (arith, short)))), (((within, above), tt), tt))
set_up_typed wide longest first (suc levels) path parent within above short = (
  ((within, above), initial_node longest path (node_in wide path within (omega (arith, short)))),
  all-append (IsPathTypedIn wide longest) (set_up first levels (child path false) path) _
      (set_up_typed wide longest first levels (child path false) path (in-child wide path false within) within (omega (arith, depth-child wide path false within, short)))
      (all-append (IsPathTypedIn wide longest) (set_up first levels (child path true) path) (EvictM path parent ∷ [])
      (set_up_typed wide longest first levels (child path true) path (in-child wide path true within) within (omega (arith, depth-child wide path true within, short))) (((within, above), tt), tt)),
)

-- The setup runs.
pub setup_runs : (scheme : Scheme) (header : Header) (bits : ℕ) → CanSetUp header bits → SetupRuns scheme header bits
setup_runs scheme header zero can = absurd (omega (arith, can.some))
setup_runs scheme header (suc levels) can = record {
  told = told;
  runs = works [] header.cache (λ k begins. refl) (omega (arith, can.room));
  added = added_told-append near.told far.told ∙ (ap (λ (xs : List Element). xs ++ added_told far.told) near.added ∙ far.added);
  evicted = evicted_told-append near.told far.told
      ∙ (ap (λ (xs : List Element). xs ++ evicted_told far.told) near.evicted
      ∙ (ap (λ (xs : List Element). waiting_all (first_contents first (paths_below levels (child (root_of wide) false))) ++ xs) far.evicted
      ∙ (sym (flat_map-append (λ (content : Content). waiting (pending content)) (first_contents first (paths_below levels (child (root_of wide) false))) (first_contents first (paths_below levels (child (root_of wide) true))))
      ∙ ap (λ (contents : List Content). waiting_all contents) (sym (first_contents-append first (paths_below levels (child (root_of wide) false)) (paths_below levels (child (root_of wide) true)))))));
  accesses = accesses_told-append near.told far.told ∙ (ap (λ (xs : List _). xs ++ accesses_told far.told) near.accesses ∙ far.accesses);
  new = all-append (λ (one : Stamp × Change). IsNew one.1) near.told far.told near.new far.new;
  apart = λ k longer. carried-append k near.told far.told
      ∙ (ap (λ (changes : List Change). changes ++ carried k far.told) (near.apart k (omega (arith, longer)))
      ∙ far.apart k (omega (arith, longer)));
  typed = all-append (IsPathTypedIn wide longest) (set_up first levels (child (root_of wide) false) (root_of wide)) _
      (set_up_typed wide longest first levels (child (root_of wide) false) (root_of wide) refl refl (omega (arith, can.short)))
      (set_up_typed wide longest first levels (child (root_of wide) true) (root_of wide) refl refl (omega (arith, can.short)));
}
  where
    wide : Bool
    wide = wide_of header

    longest : ℕ
    longest = scheme.format.longest

    first : ℕ
    first = header.first

    rules : Rules
    rules = rules_under scheme header 0

    one : key_of (child (root_of wide) false) ≡ 0
    one = number_of-child [] false ∙ omega (arith, number_of-none)

    two : key_of (child (root_of wide) true) ≡ 1
    two = number_of-child [] true ∙ omega (arith, number_of-none)

    near : IsSetUp wide scheme header.verifiers first header.end levels (root_of wide) false empty_node Root
    near = is_set_up wide scheme header.verifiers first header.end levels (root_of wide) false empty_node Root refl refl (omega (arith, can.short))
        (subst (λ (n : ℕ). (n + 1) * 2 ^ levels ≤ header.end) (sym one) (omega (arith, can.counters)))

    far : IsSetUp wide scheme header.verifiers first header.end levels (root_of wide) true (with_side empty_node false (Some (set_up_pointer scheme.digest levels (child (root_of wide) false)))) Root
    far = is_set_up wide scheme header.verifiers first header.end levels (root_of wide) true (with_side empty_node false (Some (set_up_pointer scheme.digest levels (child (root_of wide) false)))) Root refl refl (omega (arith, can.short))
        (subst (λ (n : ℕ). (n + 1) * 2 ^ levels ≤ header.end) (sym two) (omega (arith, can.counters)))

    told : Told
    told = near.told ++ far.told

    works : Works rules (suc levels) (root_of wide) Root (values.Node empty_node) (first_clock first header.end 0) (setup_commands wide first (suc levels)) told
        (values.Node (set_up_root scheme.digest wide (suc levels))) (first_clock first header.end (2 ^ suc levels))
    works =
        works-append rules (suc levels) (root_of wide) Root (values.Node empty_node) _ (values.Node (set_up_root scheme.digest wide (suc levels))) _ (first_clock first header.end (1 * 2 ^ levels)) _ _ _ near.told far.told
        (works_at rules (suc levels) (root_of wide) Root (values.Node empty_node) _ first header.end _ _ 0 (1 * 2 ^ levels) _ near.told
        (ap (λ (n : ℕ). n * 2 ^ levels) one ∙ omega arith) (ap (λ (n : ℕ). (n + 1) * 2 ^ levels) one) near.works)
        (works_at rules (suc levels) (root_of wide) Root _ (values.Node (set_up_root scheme.digest wide (suc levels))) first header.end _ _ (1 * 2 ^ levels) (2 ^ suc levels) _ far.told
        (ap (λ (n : ℕ). n * 2 ^ levels) two) (ap (λ (n : ℕ). (n + 1) * 2 ^ levels) two ∙ omega arith) far.works)
