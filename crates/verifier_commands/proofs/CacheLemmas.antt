-- A path's entry stays where a pointer is written in another's, and a written value replaces its entry.
use Rattle.std.proofs.Common.{◌≡◌, ◌≢◌, Bool, List, Option, Some, None, IsSome, IfSome, refl, sym, ◌∙◌, ap, subst}
use Rattle.std.proofs.lemmas.Bool.{false≢true}
use Rattle.tree_keys.proofs.PathLaws.{same_path-apart}
use Rattle.record_text.specs.declared.value.Pointer.{Pointer}
use Rattle.record_text.specs.declared.value.Value.{Value}
use Rattle.verifier_cache.specs.declared.entry.Entry.{Entry}
use Rattle.verifier_cache.specs.Cache.{entry_of, changed, replaced}
use Rattle.verifier_cache.specs.Entry.{with_value, linked}
use Rattle.verifier_cache.proofs.EntriesLaws.{entry_of-changed_other, entry_of-path, changed-replaced}

pub entry_of-replaced_other : (k : List Bool) (entries : List Entry) (new : Entry) → k ≢ new.path → entry_of k (replaced new entries) ≡ entry_of k entries
entry_of-replaced_other k entries new apart =
    entry_of-changed_other k new.path (λ old. new) entries (λ entry is. refl) (same_path-apart k new.path apart)

still_by : (k : List Bool) (entries new : List Entry) (on : Bool) (pointer : Option Pointer) (kid : Bool) (p : List Bool) (found : Option Entry) → entry_of p entries ≡ found
    → IsSome found → IsSome (entry_of k entries) → k ≢ p → IfSome found (λ entry. new ≡ replaced (linked entry on pointer kid) entries) → IsSome (entry_of k new)
still_by k entries new on pointer kid p None is some there apart changed = absurd (false≢true some)
still_by k entries new on pointer kid p (Some holder) is some there apart changed =
    let other : entry_of k (replaced (linked holder on pointer kid) entries) ≡ entry_of k entries =
    entry_of-replaced_other k entries (linked holder on pointer kid) (λ same. apart (same ∙ entry_of-path p entries holder is)) in
    subst (λ (o : Option Entry). IsSome o) (sym (ap (entry_of k) changed ∙ other)) there

-- a path's entry stays where a pointer is written in another's
pub there_still : (k p : List Bool) (entries new : List Entry) (on : Bool) (pointer : Option Pointer) (kid : Bool) → IsSome (entry_of p entries) → IsSome (entry_of k entries) → k ≢ p
    → IfSome (entry_of p entries) (λ entry. new ≡ replaced (linked entry on pointer kid) entries) → IsSome (entry_of k new)
there_still k p entries new on pointer kid some there apart changed = still_by k entries new on pointer kid p (entry_of p entries) refl some there apart changed

-- the entry of a path with its value written is put in its place
pub written : (k : List Bool) (entries : List Entry) (old : Entry) (value : Value) → entry_of k entries ≡ Some old
    → changed k (λ entry. with_value entry value) entries ≡ replaced (record old { value = value }) entries
written k entries old value there =
    changed-replaced k (λ entry. with_value entry value) entries old there (entry_of-path k entries old there)

written_by : (k : List Bool) (entries new : List Entry) (value : Value) (found : Option Entry) → entry_of k entries ≡ found
    → new ≡ changed k (λ entry. with_value entry value) entries → IfSome found (λ old. new ≡ replaced (with_value old value) entries)
written_by k entries new value None there is = tt
written_by k entries new value (Some old) there is = is ∙ written k entries old value there

pub written_there : (k : List Bool) (entries new : List Entry) (value : Value) → new ≡ changed k (λ entry. with_value entry value) entries
    → IfSome (entry_of k entries) (λ old. new ≡ replaced (with_value old value) entries)
written_there k entries new value is = written_by k entries new value (entry_of k entries) refl is

pub ruleset written_view = (written_there)
