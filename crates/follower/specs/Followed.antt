-- The plain map behind operations, as it is followed.
use Rattle.std.specs.Prelude.{◌≡◌, ℕ, List, Option}
use Rattle.std.specs.List.{fold}
use Rattle.std.proofs.Common.{ap}
use Rattle.record_text.specs.declared.operation.Operation.{Operation}
use Rattle.report_text.specs.KeyLines.{map_text}
use Rattle.stamp_order.specs.Serial.{map_after}

-- what a map is after an operation
abbrev pub followed : (ℕ → Option (List ℕ)) → Operation → ℕ → Option (List ℕ)
followed map operation = map_after operation map

-- the map behind operations, one after another
abbrev pub map_behind : (ℕ → Option (List ℕ)) → List Operation → ℕ → Option (List ℕ)
map_behind = fold followed

-- the text of the map behind operations is that of the map that they lead to
pub text-is_of_map : (now old : ℕ → Option (List ℕ)) (operations : List Operation) → now ≡ map_behind old operations
    → map_text now ≡ map_text (map_behind old operations)
text-is_of_map now old operations is = ap map_text is
