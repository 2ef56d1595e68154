-- What an add, an evict or a deferral did for an audit is what the entries told before it.
use Rattle.std.proofs.Common.{◌≡◌, ℕ, Bool, true, false, if◌then◌else◌, List, [], ◌∷◌, Option, Some, None, Result, Ok, refl, sym, ◌∙◌, ap}
use Rattle.std.specs.Option.{option_map, option_to_list}
use Rattle.std.proofs.lemmas.Bool.{true≢false}
use Rattle.tree_keys.specs.Path.{side}
use Rattle.tree_keys.proofs.PathLaws.{same_path-apart}
use Rattle.base_words.specs.Steps.{need}
use Rattle.record_text.specs.declared.value.Node.{Node}
use Rattle.record_text.specs.declared.value.Pointer.{Pointer}
use Rattle.record_text.specs.declared.value.Value.{Value}
use Rattle.record_text.specs.declared.refusal.Refusal.{Refusal}
use Rattle.record_text.specs.Value.{node_side}
use Rattle.verifier_cache.specs.declared.entry.Entry.{Entry}
use Rattle.verifier_commands.specs.Change.{Change, did_add_m}
use Rattle.verifier_commands.specs.Changes.{Family, node_of, above, above_on, leads_to, add_under}
use Rattle.verifier_commands.specs.Transition.{Rules}
use Rattle.soundness.specs.Clash.{is_known}
use Rattle.soundness.proofs.FamilyLaws.{IsAdd, on_empty, on_same, on_split, IsAdded, added_how}
use Rattle.verifier_commands.proofs.InvertLaws.{need-ok}
use Rattle.tree_keys.proofs.SideLaws.{above_apart}
use Rattle.collision_exhibit.specs.declared.audit_event.AuditChange.{AuditChange}
use Rattle.collision_exhibit.specs.declared.audit_event.AuditChange.TheVariants as audits
use Rattle.collision_exhibit.specs.AuditEvent.{audit_changes_by}
use Rattle.collision_exhibit.specs.AuditChange.{added_under}

-- ---- a child that joins

-- a parent's pointer leads to the path where the one of the path's side does
known_where : (holder : Entry) (path : List Bool) (on : Bool) (at : Node) → side holder.path path ≡ Some on → node_of holder.value ≡ Some at
    → is_known (above holder path) path ≡ leads_to (node_side at on) path
known_where holder path on at below is_node =
    ap (λ (s : Option Bool). is_known (above_on s (node_of holder.value)) path) below
    ∙ ap (λ (o : Option Node). is_known (above_on (Some on) o) path) is_node

-- the child stands at its path, and where the pointer led to it with its value
record IsAsAdded (holder : Entry) (path : List Bool) (value : Value) (child : Entry) : Type 0 where
  pub at_path : child.path ≡ path
  pub kept : is_known (above holder path) path ≡ true → child.value ≡ value

as_added : (digest : List ℕ → List ℕ) (holder : Entry) (path : List Bool) (value : Value) (family : Family)
    → add_under digest holder path value ≡ Ok family → IsAsAdded holder path value family.child
as_added digest holder path value family is = go added.how
  where
    added : IsAdded digest holder path value family
    added = added_how digest holder path value family is

    go : IsAdd digest holder path value added.on added.at family → IsAsAdded holder path value family.child
    go (on_empty none initial made) = record {
      at_path = ap (λ (f : Family). f.child.path) made;
      kept = λ known. ap (λ (f : Family). f.child.value) made;
    }
    go (on_same pointer there to flag keeps no_kid made) = record {
      at_path = ap (λ (f : Family). f.child.path) made;
      kept = λ known. ap (λ (f : Family). f.child.value) made;
    }
    go (on_split pointer there which further initial made) = record {
      at_path = ap (λ (f : Family). f.child.path) made;
      kept = λ known. absurd (true≢false (sym known
          ∙ known_where holder path added.on added.at added.below added.is_node
          ∙ ap (λ (o : Option Pointer). leads_to o path) there
          ∙ same_path-apart pointer.path path (λ same. above_apart path pointer.path which further (sym same))));
    }

-- what is told of a child that joins
joined_told : (path : List Bool) (value : Value) (child : Entry) (known : Bool) → (known ≡ true → child.value ≡ value) → child.path ≡ path
    → (if known then audits.AddM child.path child.value ∷ [] else []) ≡ option_to_list (if known then Some (audits.AddM path value) else None)
joined_told path value child true kept at_path =
    ap (λ (k : List Bool). audits.AddM k child.value ∷ []) at_path ∙ ap (λ (v : Value). audits.AddM path v ∷ []) (kept refl)
joined_told path value child false kept at_path = refl

-- ---- what was told

-- what was done is what was told
abbrev pub DidAsTold : {S : Type 0} → Option AuditChange → Change × S → Type 0
DidAsTold told done = audit_changes_by done.0 ≡ option_to_list told

-- a fact of an accepted step that needed an option: of the value that was there
pub with_needed : {A X : Type 0} (P : Type 0) (option : Option A) (refusal : Refusal) (next : A → Result X Refusal) (answer : X)
    → need option refusal next ≡ Ok answer → ((value : A) → option ≡ Some value → next value ≡ Ok answer → P) → P
with_needed P option refusal next answer is go =
    let found = need-ok option refusal next answer is in go found.0 found.1 found.2

-- the entry of a path is there, and this is told of it
pub told_of : (make : Entry → AuditChange) (found : Option Entry) (entry : Entry) → found ≡ Some entry → make entry ∷ [] ≡ option_to_list (option_map make found)
told_of make found entry is = sym (ap (λ (o : Option Entry). option_to_list (option_map make o)) is)

-- a family that is an add of a path under its holder is told
pub family_told : (rules : Rules) (path : List Bool) (value : Value) (found : Option Entry) (holder : Entry) (family : Family) → found ≡ Some holder
    → add_under rules.scheme.digest holder path value ≡ Ok family
    → audit_changes_by (did_add_m holder family.parent family.child) ≡ option_to_list (added_under found path value)
family_told rules path value found holder family there is =
    let added = as_added rules.scheme.digest holder path value family is in
    ap (λ (k : List Bool). if is_known (above holder k) k then audits.AddM family.child.path family.child.value ∷ [] else []) added.at_path
    ∙ joined_told path value family.child (is_known (above holder path) path) added.kept added.at_path
    ∙ sym (ap (λ (o : Option Entry). option_to_list (added_under o path value)) there)
