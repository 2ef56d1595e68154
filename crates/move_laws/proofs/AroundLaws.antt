-- An element is taken in by a verifier at rest, and its path is handed out again, whatever was done in between.
use Rattle.std.proofs.Common.{◌≡◌, ℕ, suc, ◌<◌, ◌≤◌, Bool, true, false, List, [], ◌∷◌, ◌++◌, length, nat_le, Option, Some, None, is_some, Result, Ok, if◌then◌else◌, refl, sym, ◌∙◌, ap, arith}
use Rattle.std.proofs.lemmas.Bool.Decides.{nat_tests}
use Rattle.std.proofs.lemmas.Option.{none-some}
use Rattle.tree_keys.specs.Path.{same_path}
use Rattle.tree_keys.proofs.PathLaws.{same_path-self}
use Rattle.tree_keys.proofs.SideLaws.{is_prefix-self}
use Rattle.lamport_clocks.specs.Reading.{Reading}
use Rattle.lamport_clocks.specs.Clock.{is_open}
use Rattle.record_text.specs.declared.element.Element.{Element}
use Rattle.record_text.specs.declared.value.Value.{Value}
use Rattle.log_codec.specs.declared.command.Command.TheVariants.{AddB, EvictB}
use Rattle.verifier_cache.specs.declared.entry.Entry.{Entry}
use Rattle.verifier_cache.specs.declared.entry.Hold.TheVariants.{B}
use Rattle.verifier_cache.specs.Entry.{new_entry}
use Rattle.verifier_cache.specs.Cache.{entry_of, without}
use Rattle.verifier_commands.specs.State.{at_clock}
use Rattle.verifier_commands.specs.Change.{did_add_b, did_evict_b}
use Rattle.verifier_commands.specs.Transition.{Rules, is_root, timed, evicted_as}
use Rattle.host_plan.specs.Moments.{taking, giving}
use Rattle.host_laws.specs.Running.{Told, run}
use Rattle.host_laws.proofs.MomentLaws.{received-taken, sent-given}
use Rattle.host_laws.proofs.RunLaws.{run-one}
use Rattle.host_laws.proofs.WorksLaws.{IsClear, standing}
use Rattle.move_laws.proofs.EndLemmas.{passed, found, child_found}

-- what is told of an element that is taken in, and of one that is handed out
abbrev pub told_in : Reading → Element → Told
told_in clock element = ((taking clock element.stamp).at, did_add_b (new_entry element.path element.value B) element) ∷ []

abbrev pub told_out : ℕ → Reading → List Bool → Value → Told
told_out number clock path value =
    ((giving clock).at, did_evict_b (new_entry path value B) (evicted_as number (new_entry path value B) (giving clock).at)) ∷ []

pub takes_in : (rules : Rules) (entries : List Entry) (room : ℕ) (clock : Reading) (element : Element) → is_root element.path ≡ false
    → IsClear element.path entries → suc (length entries) ≤ room → element.verifier < rules.verifiers → is_open clock element.stamp.epoch ≡ true
    → (taking clock element.stamp).at.counter ≤ clock.end
    → run rules (record { cache = record { entries = entries; room = room }; clock = clock })
    (AddB element.path element.value element.stamp element.verifier ∷ [])
    ≡ Ok (told_in clock element, standing entries room (taking clock element.stamp) (new_entry element.path element.value B))
takes_in rules entries room clock element apart clear roomy known is_taken within =
    run-one rules _ (AddB element.path element.value element.stamp element.verifier) _ (standing entries room (taking clock element.stamp) entry)
    (passed _ _ _ apart
    ∙ (passed (is_some (entry_of element.path entries)) _ _ (ap (λ (o : Option Entry). is_some o) (clear element.path (is_prefix-self element.path)))
    ∙ (passed (nat_le room (length entries)) _ _ (grind (arith, nat_tests))
    ∙ (passed (nat_le rules.verifiers element.verifier) _ _ (grind (arith, nat_tests))
    ∙ ap (λ (r : Result Reading _). timed r (λ c. Ok (did_add_b entry element, standing entries room c entry))) (received-taken clock element.stamp is_taken within)))))
  where
    entry : Entry
    entry = new_entry element.path element.value B

-- it leaves, and the others stay
gone : (path : List Bool) (entries : List Entry) (entry : Entry) → entry.path ≡ path → entry_of path entries ≡ None
    → without path (entries ++ entry ∷ []) ≡ entries
gone path [] entry is clear = ap (λ (b : Bool). if b then [] else entry ∷ []) (ap (same_path path) is ∙ same_path-self path)
gone path (x ∷ entries) entry is clear = go (λ further. gone path entries entry is further) (same_path path x.path) clear
  where
    go : (entry_of path entries ≡ None → without path (entries ++ entry ∷ []) ≡ entries) → (b : Bool) → (if b then Some x else entry_of path entries) ≡ None
        → (if b then entries ++ entry ∷ [] else x ∷ without path (entries ++ entry ∷ [])) ≡ x ∷ entries
    go further true none = absurd (none-some x (sym none))
    go further false none = ap (λ (xs : List Entry). x ∷ xs) (further none)

pub hands_out : (rules : Rules) (entries : List Entry) (room : ℕ) (clock : Reading) (path : List Bool) (value : Value) → is_root path ≡ false
    → IsClear path entries → (giving clock).at.counter ≤ clock.end
    → run rules (standing entries room clock (new_entry path value B)) (EvictB path (giving clock).at ∷ [])
    ≡ Ok (told_out rules.number clock path value, record { cache = record { entries = entries; room = room }; clock = giving clock })
hands_out rules entries room clock path value apart clear within =
    run-one rules _ (EvictB path (giving clock).at) _ _
    (passed _ _ _ apart
    ∙ (found (entry_of path (entries ++ entry ∷ [])) _ _ entry (child_found path entries entry refl here)
    ∙ (ap (λ (r : Result Reading _). timed r (λ c. Ok (
      did_evict_b entry (evicted_as rules.number entry (giving clock).at),
      at_clock (standing entries room clock entry) (without path (entries ++ entry ∷ [])) c,
    ))) (sent-given clock within)
    ∙ ap (λ (rest : List Entry). Ok (did_evict_b entry (evicted_as rules.number entry (giving clock).at), at_clock (standing entries room clock entry) rest (giving clock)))
    (gone path entries entry refl here))))
  where
    entry : Entry
    entry = new_entry path value B

    here : entry_of path entries ≡ None
    here = clear path (is_prefix-self path)
