-- Behind a log that leaves as many entries as a verifier begins with, the same paths stand in its slots as at the start.
use Rattle.std.proofs.Common.{◌≡◌, ℕ, suc, ◌-◌, ◌==◌, ◌≤◌, Bool, true, false, List, [], ◌∷◌, length, set, replicate, Option, Some, None, Ok, if◌then◌else◌, refl, sym, ◌∙◌, ap, subst, arith}
use Rattle.std.specs.List.{AllByRecursion}
use Rattle.std.proofs.lemmas.Bool.{true≢false}
use Rattle.std.proofs.lemmas.Option.{none-some, same_Some}
use Rattle.std.proofs.lemmas.List.{length-replicate}
use Rattle.tree_keys.specs.Path.{root_of, same_path}
use Rattle.tree_keys.proofs.PathLaws.{same_path-true}
use Rattle.lamport_clocks.specs.declared.header.Header.{Header}
use Rattle.record_text.specs.Tree.{wide_of}
use Rattle.base_words.proofs.StepLaws.{test-ok}
use Rattle.log_codec.specs.declared.command.Command.{Command}
use Rattle.log_codec.specs.declared.command.Command.TheVariants.{AddM, EvictM, AddB, EvictB, EvictBM, Get, Put, NextEpoch, Absent}
use Rattle.merkle_records.specs.Scheme.{Scheme}
use Rattle.slot_rewriting.specs.Rewriting.{SlotPaths, slot_of, lowest_empty, paths_after, paths_behind, opening_paths}
use Rattle.slot_rewriting.specs.Indexed.{path_in, taken}
use Rattle.slot_rewriting.proofs.SlotPathLaws.{length-after, taken-none}
use Rattle.verifier_commands.specs.declared.state.State.{State}
use Rattle.verifier_commands.specs.declared.slot_state.SlotState.{SlotState}
use Rattle.verifier_commands.specs.State.{opening}
use Rattle.verifier_commands.specs.Change.{Change}
use Rattle.verifier_commands.specs.Transition.{Rules, is_root, transition}
use Rattle.verifier_commands.specs.SlotTransition.{slot_opening}
use Rattle.soundness.specs.StateHistory.{rules_under}
use Rattle.rewriting_laws.specs.Alike.{paths_in, AreAlike}
use Rattle.rewriting_laws.specs.RewrittenLog.{IsOfKind, Leads}
use Rattle.rewriting_laws.proofs.FollowedLemmas.{followed}
use Rattle.rewriting_laws.proofs.LogLemmas.{alike_after, alike_at_first, opening_paths_in, opening_count}

-- ---- so many slots

length-behind : (paths : SlotPaths) (commands : List Command) → length (paths_behind paths commands) ≡ length paths
length-behind paths [] = refl
length-behind paths (command ∷ commands) = length-behind (paths_after paths command) commands ∙ length-after paths command

-- as many are taken as there are entries by path
taken-behind : (rules : Rules) (state last : State) (slotted : SlotState) (commands : List Command)
    → AllByRecursion (IsOfKind rules.scheme.format.longest) commands → AreAlike state slotted → Leads rules state commands last
    → taken (paths_behind (paths_in slotted.slots) commands) ≡ length last.cache.entries
taken-behind rules state last slotted [] kinds alike leads = sym (ap (λ (s : State). length s.cache.entries) leads ∙ alike.count)
taken-behind rules state last slotted (command ∷ commands) kinds alike leads =
    let step = followed rules state slotted command (leads.0, leads.1) kinds.0 alike leads.2 in
    ap (λ (paths : SlotPaths). taken (paths_behind paths commands)) (sym step.paths)
    ∙ taken-behind rules leads.1 last step.next commands kinds.1 (alike_after rules state slotted command (leads.0, leads.1) kinds.0 alike leads.2 step) leads.3

-- ---- the root's slot

-- a root that stands in slot 0 stays there where another path comes in
root_stays_in : (root path : List Bool) (paths : SlotPaths) → path_in paths 0 ≡ Some root → path_in (set paths (lowest_empty paths) (Some path)) 0 ≡ Some root
root_stays_in root path [] here = absurd (none-some root here)
root_stays_in root path (None ∷ paths) here = absurd (none-some root here)
root_stays_in root path (Some other ∷ paths) here = here

-- and where a path leaves that is no root
root_stays_out : (root path : List Bool) (paths : SlotPaths) → is_root root ≡ true → is_root path ≡ false → path_in paths 0 ≡ Some root
    → path_in (set paths (slot_of path paths) None) 0 ≡ Some root
root_stays_out root path [] is other_kind here = absurd (none-some root here)
root_stays_out root path (None ∷ paths) is other_kind here = absurd (none-some root here)
root_stays_out root path (Some other ∷ paths) is other_kind here = go (same_path path other) refl
  where
    go : (b : Bool) → same_path path other ≡ b → path_in (set (Some other ∷ paths) (if b then 0 else suc (slot_of path paths)) None) 0 ≡ Some root
    go true same = absurd (true≢false (sym is ∙ (ap is_root (sym (same_path-true path other same ∙ same_Some other root here)) ∙ other_kind)))
    go false apart = here

-- so it stays where a command is accepted
root_stays : (rules : Rules) (state : State) (root : List Bool) (paths : SlotPaths) (command : Command) (done : Change × State) → is_root root ≡ true
    → transition rules state command ≡ Ok done → path_in paths 0 ≡ Some root → path_in (paths_after paths command) 0 ≡ Some root
root_stays rules state root paths (AddM path value parent) done is accepted here = root_stays_in root path paths here
root_stays rules state root paths (EvictM path parent) done is accepted here = root_stays_out root path paths is (test-ok (is_root path) _ _ done accepted).0 here
root_stays rules state root paths (AddB path value stamp verifier) done is accepted here = root_stays_in root path paths here
root_stays rules state root paths (EvictB path stamp) done is accepted here = root_stays_out root path paths is (test-ok (is_root path) _ _ done accepted).0 here
root_stays rules state root paths (EvictBM path parent stamp) done is accepted here = root_stays_out root path paths is (test-ok (is_root path) _ _ done accepted).0 here
root_stays rules state root paths (Get path value) done is accepted here = here
root_stays rules state root paths (Put path value) done is accepted here = here
root_stays rules state root paths NextEpoch done is accepted here = here
root_stays rules state root paths (Absent path parent) done is accepted here = here

root_behind : (rules : Rules) (state last : State) (root : List Bool) (paths : SlotPaths) (commands : List Command) → is_root root ≡ true
    → Leads rules state commands last → path_in paths 0 ≡ Some root → path_in (paths_behind paths commands) 0 ≡ Some root
root_behind rules state last root paths [] is leads here = here
root_behind rules state last root paths (command ∷ commands) is leads here =
    root_behind rules leads.1 last root (paths_after paths command) commands is leads.3
    (root_stays rules state root paths command (leads.0, leads.1) is leads.2 here)

-- ---- all slots

-- where none is taken all are empty
all_empty : (paths : SlotPaths) → taken paths ≡ 0 → paths ≡ replicate (length paths) None
all_empty [] none = refl
all_empty (None ∷ paths) none = ap (λ (more : SlotPaths). None ∷ more) (all_empty paths none)
all_empty (Some path ∷ paths) none = absurd (omega (arith, none))

-- where one is taken, and the root stands in slot 0, it stands there alone
root_alone : (root : List Bool) (paths : SlotPaths) → path_in paths 0 ≡ Some root → taken paths ≡ 1 → paths ≡ Some root ∷ replicate (length paths - 1) None
root_alone root [] here one = absurd (none-some root here)
root_alone root (None ∷ paths) here one = absurd (none-some root here)
root_alone root (Some other ∷ paths) here one =
    ap (λ (p : Option (List Bool)). p ∷ paths) here
    ∙ ap (λ (more : SlotPaths). Some root ∷ more)
    (all_empty paths (omega (arith, one)) ∙ ap (λ (count : ℕ). replicate count None) (omega arith))

-- slots of which as many are taken as at the start, with the root in slot 0 if it was there
as_at_first : (number : ℕ) (header : Header) (paths : SlotPaths) → length paths ≡ length (opening_paths number header) → taken paths ≡ taken (opening_paths number header)
    → (path_in (opening_paths number header) 0 ≡ Some (root_of (wide_of header)) → path_in paths 0 ≡ Some (root_of (wide_of header)))
    → paths ≡ opening_paths number header
as_at_first number header paths = go (number == 0)
  where
    root : List Bool
    root = root_of (wide_of header)

    nothing : Option (List Bool)
    nothing = None

    opening_by : Bool → SlotPaths
    opening_by first = if first then Some root ∷ replicate (header.cache - 1) None else replicate header.cache None

    go : (first : Bool) → length paths ≡ length (opening_by first) → taken paths ≡ taken (opening_by first)
        → (path_in (opening_by first) 0 ≡ Some root → path_in paths 0 ≡ Some root) → paths ≡ opening_by first
    go true long count stays =
        let behind : length (replicate (header.cache - 1) nothing) ≡ header.cache - 1 = length-replicate (header.cache - 1) nothing in
        root_alone root paths (stays refl) (count ∙ ap suc (taken-none (header.cache - 1)))
        ∙ ap (λ (count : ℕ). Some root ∷ replicate count None) (omega (arith, long, behind))
    go false long count stays =
        all_empty paths (count ∙ taken-none header.cache)
        ∙ ap (λ (count : ℕ). replicate count None) (long ∙ length-replicate header.cache nothing)

-- The slots come to rest.
pub slots_rest : (scheme : Scheme) (header : Header) (number : ℕ) (commands : List Command) (last : State) → 1 ≤ header.cache
    → AllByRecursion (IsOfKind scheme.format.longest) commands → Leads (rules_under scheme header number) (opening number header) commands last
    → length last.cache.entries ≡ length (opening number header).cache.entries
    → paths_behind (opening_paths number header) commands ≡ opening_paths number header
slots_rest scheme header number commands last some kinds leads few =
    as_at_first number header behind (length-behind (opening_paths number header) commands)
    (subst (λ (paths : SlotPaths). taken (paths_behind paths commands) ≡ length last.cache.entries) (opening_paths_in number header)
    (taken-behind rules (opening number header) last (slot_opening number header) commands kinds (alike_at_first number header some) leads)
    ∙ (few ∙ opening_count number header))
    (root_behind rules (opening number header) last (root_of (wide_of header)) (opening_paths number header) commands refl leads)
  where
    rules : Rules
    rules = rules_under scheme header number

    behind : SlotPaths
    behind = paths_behind (opening_paths number header) commands
