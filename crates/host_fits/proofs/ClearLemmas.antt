-- Records that are carried as a shard keeps them are clear.
use Rattle.std.proofs.Common.{◌≡◌, ◌⊎◌, ◌+◌, ◌<◌, Bool, true, false, List, Option, Some, None, if◌then◌else◌, refl, sym, ◌∙◌, ap, subst, inl, inr, arith}
use Rattle.std.specs.Option.{option_or}
use Rattle.tree_keys.specs.Path.{same_path}
use Rattle.tree_keys.proofs.PathLaws.{same_path-self}
use Rattle.lamport_clocks.specs.declared.stamp.Stamp.{Stamp}
use Rattle.lamport_clocks.specs.Stamp.{IsLater}
use Rattle.lamport_clocks.specs.Reading.{Reading}
use Rattle.lamport_clocks.specs.Clock.{is_open}
use Rattle.lamport_clocks.proofs.ClockLaws.{open_epochs, greater_than_other}
use Rattle.record_text.specs.declared.value.Value.{Value}
use Rattle.record_text.specs.Texts.{value_text}
use Rattle.record_text.proofs.SameTestLaws.{same_bytes-self}
use Rattle.verifier_cache.specs.declared.entry.Entry.{Entry}
use Rattle.verifier_commands.specs.Change.{Change}
use Rattle.verifier_commands.specs.Changes.{above}
use Rattle.soundness.specs.Clash.{LastEvicted, with_last_evicted, is_known, Strings, differing, clash_at, first_clash}
use Rattle.soundness.specs.World.{last_evicted_behind}
use Rattle.host_core.specs.Clear.{IsNotAfter, IsKept}
use Rattle.host_plan.specs.Moments.{renewing}
use Rattle.host_laws.specs.Carried.{IsCarried}
use Rattle.host_laws.specs.Served.{IsFrom}

-- a child whose value is the one that was last evicted doesn't clash
no_clash : (last : LastEvicted) (known : Bool) (child : Entry) (path : List Bool) → child.path ≡ path
    → (known ≡ true → last path ≡ Some child.value) → clash_at last known child ≡ None
no_clash last false child path is same = refl
no_clash last true child path is same =
    ap (λ (k : List Bool). differing (last k) child.value) is
    ∙ (ap (λ (o : Option Value). differing o child.value) (same refl)
    ∙ ap (λ (b : Bool). if b then None else Some (value_text child.value, value_text child.value)) (same_bytes-self (value_text child.value)))

kept_some : (last : LastEvicted) (path : List Bool) (before : Option Value) (value : Value) → IsKept last path before → before ≡ Some value → last path ≡ Some value
kept_some last path before value kept is = subst (IsKept last path) is kept

-- what is carried as it is kept shows no clash
pub carried-clear : (last : LastEvicted) (path : List Bool) (before after : Option Value) (changes : List Change)
    → IsCarried path before after changes → IsKept last path before → first_clash last changes ≡ None
carried-clear last path before after changes (inl none) kept = ap (λ (cs : List Change). first_clash last cs) none.0
carried-clear last path before after changes (inr visited) kept =
    ap (λ (cs : List Change). first_clash last cs) visited.all
    ∙ ap (λ (o : Option Strings). option_or o None)
    (no_clash last (is_known (above visited.parent visited.child.path) visited.child.path) visited.child path visited.child_path
    (λ known. kept_some last path before visited.child.value kept
    (visited.brought (ap (λ (k : List Bool). is_known (above visited.parent k) k) (sym visited.child_path) ∙ known))))

-- and what is kept afterwards is what it left with
pub carried-keeps : (last : LastEvicted) (path : List Bool) (before after : Option Value) (changes : List Change)
    → IsCarried path before after changes → IsKept last path before → IsKept (last_evicted_behind last changes) path after
carried-keeps last path before after changes (inl none) kept =
    subst (λ (cs : List Change). IsKept (last_evicted_behind last cs) path after) (sym none.0)
    (subst (IsKept last path) (sym none.1) kept)
carried-keeps last path before after changes (inr visited) kept =
    subst (λ (cs : List Change). IsKept (last_evicted_behind last cs) path after) (sym visited.all)
    (subst (IsKept (with_last_evicted last visited.gone.path visited.gone.value) path) (sym visited.kept)
    (ap (λ (b : Bool). if b then Some visited.gone.value else last path) (ap (λ (k : List Bool). same_path k path) visited.gone_path ∙ same_path-self path)))

-- ---- stamps

pub not_after : (s t : Stamp) → IsFrom t s → IsNotAfter s t
not_after s t (inl later) = go later
  where
    go : IsLater t s → IsNotAfter s t
    go (inl epoch) = inl epoch
    go (inr counter) = inr (counter.0, omega arith)
not_after s t (inr same) = inr (ap (λ (x : Stamp). x.epoch) (sym same), omega (arith, ap (λ (x : Stamp). x.counter) same))

-- an element that is taken in and handed out again has a later stamp
pub renewing-rises : (clock : Reading) (stamp : Stamp) → is_open clock stamp.epoch ≡ true → IsNotAfter stamp (renewing clock stamp).at
renewing-rises clock stamp is = go (open_epochs clock stamp.epoch is)
  where
    go : (stamp.epoch ≡ clock.at.epoch) ⊎ ((clock.first < clock.at.epoch) × (stamp.epoch + 1 ≡ clock.at.epoch)) → IsNotAfter stamp (renewing clock stamp).at
    go (inl same) = inr (same, omega (arith, greater_than_other clock.at stamp same))
    go (inr before) = inl (omega (arith, before.1))
