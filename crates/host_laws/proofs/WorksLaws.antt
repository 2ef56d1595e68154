-- Commands that work behind the entry of a path: they do the same whatever clear entries stand before it.
use Rattle.std.proofs.Common.{◌≡◌, ℕ, suc, ◌+◌, ◌<◌, ◌≤◌, Bool, true, false, List, [], ◌∷◌, ◌++◌, length, nat_le, Option, Some, None, is_some, Ok, refl, ◌∙◌, ap, subst, arith}
use Rattle.std.proofs.lemmas.List.{length-append}
use Rattle.std.proofs.lemmas.Bool.Decides.{nat_tests}
use Rattle.tree_keys.specs.Path.{side, is_prefix}
use Rattle.tree_keys.proofs.PathLaws.{same_path-self, same_path-apart}
use Rattle.tree_keys.proofs.SideLaws.{is_prefix-self, is_prefix-trans, prefix_of_side, above_no_prefix}
use Rattle.lamport_clocks.specs.Reading.{Reading}
use Rattle.lamport_clocks.specs.Clock.{sent}
use Rattle.record_text.specs.declared.value.Node.{Node}
use Rattle.record_text.specs.declared.value.Value.{Value}
use Rattle.record_text.specs.declared.value.Value.TheVariants as values
use Rattle.record_text.specs.declared.refusal.Refusal.TheVariants as refusals
use Rattle.log_codec.specs.declared.command.Command.{Command}
use Rattle.log_codec.specs.declared.command.Command.TheVariants.{AddM, EvictM, EvictBM}
use Rattle.merkle_records.specs.Merkle.{Digest, pointing}
use Rattle.verifier_cache.specs.declared.entry.Entry.{Entry}
use Rattle.verifier_cache.specs.declared.entry.Hold.{Hold}
use Rattle.verifier_cache.specs.declared.entry.Hold.TheVariants.{M}
use Rattle.verifier_cache.specs.Entry.{new_entry}
use Rattle.verifier_cache.specs.Cache.{entry_of, without, replaced}
use Rattle.verifier_commands.specs.declared.state.State.{State}
use Rattle.verifier_commands.specs.State.{with_entries, at_clock}
use Rattle.verifier_commands.specs.Change.{did_add_m, did_evict_m, did_evict_bm}
use Rattle.verifier_commands.specs.Changes.{add_under, evict_under, defer_under}
use Rattle.verifier_commands.specs.Transition.{Rules, transition, is_root, is_full, evicted_as}
use Rattle.host_plan.specs.Moments.{giving}
use Rattle.host_laws.specs.Running.{Told, run}
use Rattle.host_laws.proofs.DepthLaws.{not_root, deeper}
use Rattle.host_laws.proofs.StepLemmas.{test-passed, need-there, and_then-there, timed-there}
use Rattle.host_laws.proofs.RunLaws.{run-none, run-one, run-step, run-append}
use Rattle.host_laws.proofs.StandingLemmas.{entry_of-last, entry_of-front, entry_of-neither, replaced-last, replaced-front, without-last}
use Rattle.host_laws.proofs.FamilyLemmas.{Fits, parent_of, leaves, lending, is_lent}
use Rattle.host_laws.proofs.MomentLaws.{sent-given}

-- nothing of this path or below it stands among the entries
abbrev pub IsClear : List Bool → List Entry → Type 0
IsClear path entries = (k : List Bool) → is_prefix path k ≡ true → entry_of k entries ≡ None

-- a verifier in whose cache this entry stands last
abbrev pub standing : List Entry → ℕ → Reading → Entry → State
standing front room clock entry = record { cache = record { entries = front ++ entry ∷ []; room = room }; clock = clock }

-- Behind the entry of a path the commands are accepted, where there is room for so many entries more. They leave the
-- entry with this value, and the clock so, and do what is told.
abbrev pub Works : Rules → ℕ → List Bool → Hold → Value → Reading → List Command → Told → Value → Reading → Type 0
Works rules depth at hold old clock commands told new after =
    (front : List Entry) (room : ℕ) → IsClear at front → suc (length front + depth) ≤ room
    → run rules (standing front room clock (new_entry at old hold)) commands ≡ Ok (told, standing front room after (new_entry at new hold))

-- no commands
pub works-none : (rules : Rules) (depth : ℕ) (at : List Bool) (hold : Hold) (value : Value) (clock : Reading)
    → Works rules depth at hold value clock [] [] value clock
works-none rules depth at hold value clock front room clear fits = run-none rules _

-- one list of commands behind another
pub works-append : (rules : Rules) (depth : ℕ) (at : List Bool) (hold : Hold) (old middle new : Value) (clock between after : Reading)
    (first second : List Command) (told_first told_second : Told)
    → Works rules depth at hold old clock first told_first middle between
    → Works rules depth at hold middle between second told_second new after
    → Works rules depth at hold old clock (first ++ second) (told_first ++ told_second) new after
works-append rules depth at hold old middle new clock between after first second told_first told_second works further front room clear fits =
    run-append rules _ first second told_first told_second _ _ (works front room clear fits) (further front room clear fits)

-- with more room
pub works-deeper : (rules : Rules) (depth more : ℕ) (at : List Bool) (hold : Hold) (old new : Value) (clock after : Reading)
    (commands : List Command) (told : Told)
    → depth ≤ more → Works rules depth at hold old clock commands told new after → Works rules more at hold old clock commands told new after
works-deeper rules depth more at hold old new clock after commands told deeper works front room clear fits =
    works front room clear (omega arith)

-- ---- a child that comes and goes

-- a path below one of a tree is no root
below_no_root : (at path : List Bool) (on : Bool) → 0 < length at → side at path ≡ Some on → is_root path ≡ false
below_no_root at path on some below = not_root path (deeper at path on some below)

-- what stands before a path, and the path, are clear of a path below
pub clear-below : (at path : List Bool) (on : Bool) (front : List Entry) (entry : Entry) → side at path ≡ Some on → entry.path ≡ at
    → IsClear at front → IsClear path (front ++ entry ∷ [])
clear-below at path on front entry below is clear k begins =
    entry_of-neither k front entry (clear k (is_prefix-trans at path k (prefix_of_side at path on below) begins))
    (same_path-apart k entry.path
    (λ same. above_no_prefix at path on below (subst (λ (j : List Bool). is_prefix path j ≡ true) (same ∙ is) begins)))

-- the child comes in
comes : (rules : Rules) (at path : List Bool) (hold : Hold) (node : Node) (on : Bool) (value taken : Value) (clock : Reading)
    (front : List Entry) (room : ℕ) → (fits : Fits rules.scheme.digest at node on path value taken) → 0 < length at
    → IsClear at front → suc (suc (length front)) ≤ room
    → transition rules (standing front room clock (new_entry at (values.Node node) hold)) (AddM path value at)
    ≡ Ok (
      did_add_m (new_entry at (values.Node node) hold) (parent_of at fits.middle hold on) (new_entry path taken M),
      standing (front ++ parent_of at fits.middle hold on ∷ []) room clock (new_entry path taken M),
    )
comes rules at path hold node on value taken clock front room fits some clear roomy =
    test-passed (is_root path) refusals.IsRoot _ _ (below_no_root at path on some fits.below)
    (test-passed (is_some (entry_of path (front ++ before ∷ []))) refusals.AlreadyCached _ _
    (ap (λ (o : Option Entry). is_some o) (clear-below at path on front before fits.below refl clear path (is_prefix-self path)))
    (test-passed (is_full (standing front room clock before)) refusals.CacheFull _ _ full
    (need-there (entry_of at (front ++ before ∷ [])) refusals.ParentNotCached _ _ before (entry_of-last front before here)
    (and_then-there (add_under rules.scheme.digest before path value) _ _ _ (fits.added hold)
    (ap (λ (entries : List Entry). Ok (did_add_m before parent child, with_entries (standing front room clock before) (entries ++ child ∷ [])))
    (replaced-last front before parent here (same_path-self at)))))))
  where
    before : Entry
    before = new_entry at (values.Node node) hold

    parent : Entry
    parent = parent_of at fits.middle hold on

    child : Entry
    child = new_entry path taken M

    length-last : (entry : Entry) → length (front ++ entry ∷ []) ≡ length front + 1
    length-last entry = length-append front (entry ∷ [])

    here : entry_of at front ≡ None
    here = clear at (is_prefix-self at)

    full : nat_le room (length (front ++ before ∷ [])) ≡ false
    full = grind (arith, nat_tests, length-last before)

-- a child and its parent are found, and once the child went the parent stands last again
record Family (at path : List Bool) (hold : Hold) (on : Bool) (middle left : Node) (last : Value) (front : List Entry) : Type 0 where
  pub child_there : entry_of path ((front ++ parent_of at middle hold on ∷ []) ++ new_entry path last M ∷ []) ≡ Some (new_entry path last M)
  pub parent_there : entry_of at ((front ++ parent_of at middle hold on ∷ []) ++ new_entry path last M ∷ []) ≡ Some (parent_of at middle hold on)
  pub gone : without path (replaced (new_entry at (values.Node left) hold) ((front ++ parent_of at middle hold on ∷ []) ++ new_entry path last M ∷ []))
      ≡ front ++ new_entry at (values.Node left) hold ∷ []

family : (at path : List Bool) (hold : Hold) (on : Bool) (middle left : Node) (last : Value) (front : List Entry) → side at path ≡ Some on
    → IsClear at front → Family at path hold on middle left last front
family at path hold on middle left last front below clear = record {
  child_there = entry_of-last (front ++ parent ∷ []) child (cleared parent refl);
  parent_there = entry_of-front at (front ++ parent ∷ []) (child ∷ []) parent (entry_of-last front parent here);
  gone = ap (λ (entries : List Entry). without path entries)
      (replaced-front later (front ++ parent ∷ []) (child ∷ []) parent (entry_of-last front parent here)
      ∙ ap (λ (entries : List Entry). entries ++ child ∷ []) (replaced-last front parent later here (same_path-self at)))
      ∙ without-last (front ++ later ∷ []) child (cleared later refl);
}
  where
    parent : Entry
    parent = parent_of at middle hold on

    child : Entry
    child = new_entry path last M

    later : Entry
    later = new_entry at (values.Node left) hold

    here : entry_of at front ≡ None
    here = clear at (is_prefix-self at)

    cleared : (entry : Entry) → entry.path ≡ at → entry_of path (front ++ entry ∷ []) ≡ None
    cleared entry is = clear-below at path on front entry below is clear path (is_prefix-self path)

-- what was done to a child that came and went, with what was done in between
abbrev pub told_visit : List Bool → Hold → Node → Node → Bool → List Bool → Value → Value → Node → Reading → Told → Reading → Told
told_visit at hold node middle on path taken last left clock told after =
    (clock.at, did_add_m (new_entry at (values.Node node) hold) (parent_of at middle hold on) (new_entry path taken M))
    ∷ (told ++ (after.at, did_evict_m (parent_of at middle hold on) (new_entry at (values.Node left) hold) (new_entry path last M)) ∷ [])

-- Commands that work behind a child work behind its parent, between the add and the evict of the child.
pub descend : (rules : Rules) (depth : ℕ) (at path : List Bool) (hold : Hold) (node : Node) (on : Bool) (value taken last : Value)
    (clock after : Reading) (inner : List Command) (told : Told)
    → (fits : Fits rules.scheme.digest at node on path value taken) → 0 < length at
    → Works rules depth path M taken clock inner told last after
    → let left = pointing rules.scheme.digest node on path last in
    Works rules (suc depth) at hold (values.Node node) clock (AddM path value at ∷ (inner ++ EvictM path at ∷ []))
    (told_visit at hold node fits.middle on path taken last left clock told after) (values.Node left) after
descend rules depth at path hold node on value taken last clock after inner told fits some works front room clear roomy =
    run-step rules _ (AddM path value at) (inner ++ EvictM path at ∷ []) _ (standing (front ++ parent ∷ []) room clock (new_entry path taken M)) _ _
    (comes rules at path hold node on value taken clock front room fits some clear (omega arith))
    (run-append rules _ inner (EvictM path at ∷ []) told _ (standing (front ++ parent ∷ []) room after gone) _
    (works (front ++ parent ∷ []) room (clear-below at path on front parent fits.below refl clear) inside)
    (run-one rules _ (EvictM path at) _ (standing front room after later) evicted))
  where
    longest : ℕ
    longest = rules.scheme.format.longest

    digest : Digest
    digest = rules.scheme.digest

    parent : Entry
    parent = parent_of at fits.middle hold on

    gone : Entry
    gone = new_entry path last M

    later : Entry
    later = new_entry at (values.Node (pointing digest node on path last)) hold

    inside : suc (length (front ++ parent ∷ []) + depth) ≤ room
    inside = omega (arith, length-append front (parent ∷ []))

    both : Family at path hold on fits.middle (pointing digest node on path last) last front
    both = family at path hold on fits.middle (pointing digest node on path last) last front fits.below clear

    evicted : transition rules (standing (front ++ parent ∷ []) room after gone) (EvictM path at)
        ≡ Ok (did_evict_m parent later gone, standing front room after later)
    evicted =
        test-passed (is_root path) refusals.IsRoot _ _ (below_no_root at path on some fits.below)
        (need-there (entry_of path ((front ++ parent ∷ []) ++ gone ∷ [])) refusals.NotCached _ _ gone both.child_there
        (need-there (entry_of at ((front ++ parent ∷ []) ++ gone ∷ [])) refusals.ParentNotCached _ _ parent both.parent_there
        (and_then-there (evict_under digest parent gone) _ _ later (leaves digest at node on path value taken last hold fits)
        (ap (λ (entries : List Entry). Ok (did_evict_m parent later gone, with_entries (standing (front ++ parent ∷ []) room after gone) entries)) both.gone))))

-- ---- a child that comes and is lent

-- what was done to a child that came and was lent
abbrev pub told_lent : ℕ → List Bool → Hold → Node → Node → Node → Bool → List Bool → Value → Reading → Reading → Told
told_lent number at hold node middle left on path taken clock later =
    (clock.at, did_add_m (new_entry at (values.Node node) hold) (parent_of at middle hold on) (new_entry path taken M))
    ∷ (later.at, did_evict_bm (parent_of at middle hold on) (new_entry at (values.Node left) hold) (new_entry path taken M) (evicted_as number (new_entry path taken M) later.at))
    ∷ []

-- A child comes in by its digest and is handed out with the next counter.
pub lends : (rules : Rules) (at path : List Bool) (hold : Hold) (node : Node) (on : Bool) (value taken : Value) (clock : Reading)
    → (fits : Fits rules.scheme.digest at node on path value taken) → 0 < length at
    → (giving clock).at.counter ≤ clock.end
    → let left = lending node on fits.pointer in
    Works rules 1 at hold (values.Node node) clock (AddM path value at ∷ EvictBM path at (giving clock).at ∷ [])
    (told_lent rules.number at hold node fits.middle left on path taken clock (giving clock)) (values.Node left) (giving clock)
lends rules at path hold node on value taken clock fits some counters front room clear roomy =
    run-step rules _ (AddM path value at) (EvictBM path at (giving clock).at ∷ []) _ (standing (front ++ parent ∷ []) room clock child) _ _
    (comes rules at path hold node on value taken clock front room fits some clear (omega arith))
    (run-one rules _ (EvictBM path at (giving clock).at) _ (standing front room (giving clock) later) evicted)
  where
    left : Node
    left = lending node on fits.pointer

    parent : Entry
    parent = parent_of at fits.middle hold on

    child : Entry
    child = new_entry path taken M

    later : Entry
    later = new_entry at (values.Node left) hold

    both : Family at path hold on fits.middle left taken front
    both = family at path hold on fits.middle left taken front fits.below clear

    evicted : transition rules (standing (front ++ parent ∷ []) room clock child) (EvictBM path at (giving clock).at)
        ≡ Ok (did_evict_bm parent later child (evicted_as rules.number child (giving clock).at), standing front room (giving clock) later)
    evicted =
        test-passed (is_root path) refusals.IsRoot _ _ (below_no_root at path on some fits.below)
        (need-there (entry_of path ((front ++ parent ∷ []) ++ child ∷ [])) refusals.NotCached _ _ child both.child_there
        (need-there (entry_of at ((front ++ parent ∷ []) ++ child ∷ [])) refusals.ParentNotCached _ _ parent both.parent_there
        (and_then-there (defer_under parent child) _ _ later (is_lent rules.scheme.digest at node on path value taken hold fits)
        (timed-there (sent clock (giving clock).at) _ _ (giving clock) (sent-given clock counters)
        (ap (λ (entries : List Entry). Ok (did_evict_bm parent later child (evicted_as rules.number child (giving clock).at), at_clock (standing (front ++ parent ∷ []) room clock child) entries (giving clock)))
        both.gone)))))
