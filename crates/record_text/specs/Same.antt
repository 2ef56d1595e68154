-- Tests of equality that compute, for machines whose steps are tests in order.
use Rattle.std.specs.Prelude.{ℕ, Bool, true, false, ◌&&◌, ◌==◌, List, [], ◌∷◌, Option, Some, None}
use Rattle.tree_keys.specs.Path.{same_bit, same_path}
use Rattle.record_text.specs.declared.value.Pointer.{Pointer}
use Rattle.record_text.specs.declared.value.Value.{Value}
use Rattle.record_text.specs.declared.value.Value.TheVariants as values

-- two lists of bytes are the same
abbrev pub same_bytes : List ℕ → List ℕ → Bool
same_bytes [] [] = true
same_bytes [] (y ∷ ys) = false
same_bytes (x ∷ xs) [] = false
same_bytes (x ∷ xs) (y ∷ ys) = (x == y) && same_bytes xs ys

-- two data values are the same
abbrev pub same_blob : Option (List ℕ) → Option (List ℕ) → Bool
same_blob None None = true
same_blob None (Some ys) = false
same_blob (Some xs) None = false
same_blob (Some xs) (Some ys) = same_bytes xs ys

-- two sides have the same pointer, or none
abbrev pub same_pointer : Option Pointer → Option Pointer → Bool
same_pointer None None = true
same_pointer None (Some q) = false
same_pointer (Some p) None = false
same_pointer (Some p) (Some q) = same_path p.path q.path && same_bit p.deferred q.deferred && same_bytes p.digest q.digest

-- two values are the same
abbrev pub same_value : Value → Value → Bool
same_value (values.Blob a) (values.Blob b) = same_blob a b
same_value (values.Blob a) (values.Node n) = false
same_value (values.Node m) (values.Blob b) = false
same_value (values.Node m) (values.Node n) = same_pointer m.side0 n.side0 && same_pointer m.side1 n.side1
