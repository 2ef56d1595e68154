-- When two pointers are one: all of their parts are.
use Rattle.std.proofs.Common.{◌≡◌, ℕ, Bool, true, false, not, IsTrue, List, refl, sym, ◌∙◌, ap}
use Rattle.std.specs.Bool.{Decides}
use Rattle.std.specs.Str.{bytes_eq}
use Rattle.std.proofs.lemmas.Slice.Eq.{bytes_eq-Decides}
use mathlib.Core.Bool.{beq}
use Rattle.tree_keys.specs.Path.{same_path}
use Rattle.tree_keys.proofs.PathLaws.{same_path-self, same_path-true}
use Rattle.record_text.specs.declared.value.Pointer.{Pointer}

-- paths that the test tells apart are not one
pub apart_by_path : (p q : Pointer) → false ≡ same_path p.path q.path → p ≡ q → IsTrue false
apart_by_path p q apart same = absurd (cc (same_path-self p.path))

beq-true : (a b : Bool) → not (beq a b) ≡ false → a ≡ b
beq-true true true h = refl
beq-true true false h = absurd (cc)
beq-true false true h = absurd (cc)
beq-true false false h = refl

-- pointers of the same parts are one
pub parts_same : (p q : Pointer) → p.path ≡ q.path → p.digest ≡ q.digest → p.deferred ≡ q.deferred → p ≡ q
parts_same p q path digest deferred =
    ap (λ (x : List Bool). record p { path = x }) path
    ∙ (ap (λ (x : List ℕ). record { path = q.path; digest = x; deferred = p.deferred }) digest
    ∙ ap (λ (x : Bool). record q { deferred = x }) deferred)

-- where the paths and the flags are one, the digests decide
pub same_by_digest : (p q : Pointer) (r : Bool) → true ≡ same_path p.path q.path → not (beq p.deferred q.deferred) ≡ false → r ≡ bytes_eq p.digest q.digest → Decides r (p ≡ q)
same_by_digest p q r path deferred digest =
    let decides = bytes_eq-Decides p.digest q.digest in (
      λ is. parts_same p q (same_path-true p.path q.path (sym path)) (decides.0 (sym digest ∙ is)) (beq-true p.deferred q.deferred deferred),
      λ same. digest ∙ decides.1 (cc),
    )
