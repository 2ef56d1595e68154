-- A path that lies properly below another is another.
use Rattle.std.proofs.Common.{◌≡◌, ◌≢◌, Bool, List, Some, None, sym, subst}
use Rattle.tree_keys.specs.Path.{side}
use Rattle.tree_keys.proofs.SideLaws.{side-self}

pub below_apart : (p k : List Bool) (on : Bool) → side p k ≡ Some on → k ≢ p
below_apart p k on below same =
    let none : side p k ≡ None = subst (λ (q : List Bool). side p q ≡ None) (sym same) (side-self p) in
    cc

pub ruleset below_view = (below_apart)
