-- Lists of operations that stand in order each.
use Rattle.std.specs.Prelude.{List}
use Rattle.std.specs.List.{AllByRecursion, flat_map}
use Rattle.record_text.specs.declared.operation.Operation.{Operation}
use Rattle.stamp_order.specs.Merged.{IsMerged}
use Rattle.stamp_order.specs.Operations.{moment_of}

-- the operations of lists, one list after another
abbrev pub all_of : List (List Operation) → List Operation
all_of lists = flat_map (λ list. list) lists

-- each list stands in the order of its moments
abbrev pub AreMerged : List (List Operation) → Type 0
AreMerged lists = AllByRecursion (IsMerged moment_of) lists
