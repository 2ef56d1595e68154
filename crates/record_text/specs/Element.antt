-- What is an element, and what is a stamp: numbers of their widths, and a value of the path's kind.
use Rattle.std.specs.Prelude.{ℕ, ◌^◌, ◌<◌, Bool}
use Rattle.lamport_clocks.specs.declared.stamp.Stamp.{Stamp}
use Rattle.tree_keys.specs.Path.{IsIn}
use Rattle.record_text.specs.declared.element.Element.{Element}
use Rattle.record_text.specs.Value.{IsOf}

-- an epoch and a counter of 32 bits
pub record IsStamp (stamp : Stamp) : Type 0 where
  pub epoch : stamp.epoch < 2 ^ 32
  pub counter : stamp.counter < 2 ^ 32

-- the path is of this tree, the value of the path's kind, and the verifier's number has 16 bits
pub record IsElement (wide : Bool) (longest : ℕ) (element : Element) : Type 0 where
  pub tree : IsIn wide element.path
  pub kind : IsOf longest element.path element.value
  pub stamp : IsStamp element.stamp
  pub verifier : element.verifier < 2 ^ 16
