-- Operations that one plain map answers: each get has what the last put to its key set.
use Rattle.std.specs.Prelude.{◌≡◌, ℕ, nat_eq, false, List, [], ◌∷◌, Option, None, ⊤, if◌then◌else◌}
use Rattle.std.specs.Map.{update}
use Rattle.record_text.specs.declared.operation.Operation.{Operation}

-- the map that is none at every key
abbrev pub none_everywhere : ℕ → Option (List ℕ)
none_everywhere key = None

-- the map after an operation: a put sets its key
abbrev pub map_after : Operation → (ℕ → Option (List ℕ)) → ℕ → Option (List ℕ)
map_after operation map = if operation.put then update nat_eq map operation.key operation.value else map

-- a get has the value of the map
abbrev pub IsAnswered : Operation → (ℕ → Option (List ℕ)) → Type 0
IsAnswered operation map = operation.put ≡ false → operation.value ≡ map operation.key

-- from this map on, each get has the value of the map and each put sets its key
abbrev pub IsSerialFrom : (ℕ → Option (List ℕ)) → List Operation → Type 0
IsSerialFrom map [] = ⊤
IsSerialFrom map (operation ∷ operations) = IsAnswered operation map × IsSerialFrom (map_after operation map) operations

-- the same from the map that is none at every key
abbrev pub IsSerial : List Operation → Type 0
IsSerial operations = IsSerialFrom none_everywhere operations
