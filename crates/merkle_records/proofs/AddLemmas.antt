-- What an add does to a node, by the pointer of its side.
use Rattle.std.proofs.Common.{◌≡◌, Bool, true, false, List, Option, refl, sym, ◌∙◌, ap}
use Rattle.record_text.specs.declared.value.Pointer.{Pointer}
use Rattle.record_text.specs.declared.value.Node.{Node}
use Rattle.record_text.specs.declared.value.Value.{Value}
use Rattle.record_text.specs.Value.{node_side, with_side}
use Rattle.merkle_records.specs.Merkle.{Digest, case_of, added_by, after_add}

-- the node with the pointer that it has
with_side-same : (node : Node) (on : Bool) → with_side node on (node_side node on) ≡ node
with_side-same node false = refl
with_side-same node true = refl

pub with_side-own : (node : Node) (on : Bool) (pointer : Option Pointer) → node_side node on ≡ pointer → with_side node on pointer ≡ node
with_side-own node on pointer is = ap (with_side node on) (sym is) ∙ with_side-same node on

-- an add by the pointer that there is
pub added-at : (digest : Digest) (node : Node) (on : Bool) (path : List Bool) (value : Value) (pointer : Option Pointer) → node_side node on ≡ pointer
    → after_add digest node on path value ≡ added_by digest node on path value pointer (case_of pointer path)
added-at digest node on path value pointer is = ap (λ (p : Option Pointer). added_by digest node on path value p (case_of p path)) is

pub ruleset added_view = (with_side-own, added-at)
