-- Records of the code, as a finite map.
use Rattle.std.specs.List.{AllByRecursion}
use Rattle.std.specs.Map.{lookup}
use Rattle.std.specs.Option.{option_map, option_map_or}
use Rattle.std.specs.Prelude.{◌≡◌, ℕ, ◌+◌, ◌*◌, ◌^◌, ◌<◌, ◌⊎◌, Bool, true, false, List, [], ◌∷◌, Option, if◌then◌else◌}
use Rattle.tree_keys.specs.Path.{with_fields, same_path}
use Rattle.record_text.specs.Value.{initial_value}
use Rattle.host_shard.specs.declared.record.Record.{Record}
use Rattle.host_shard.specs.Tree.{Tree}

-- the records with their paths, in some order
abbrev pub Listed : Type 0
Listed = List (List Bool × Record)

-- records as a function of their paths
abbrev pub Kept : Type 0
Kept = List Bool → Option Record

abbrev pub record_at : Listed → Kept
record_at listed = λ path. lookup (same_path path) listed

-- the same, but for what is kept of a path
abbrev pub with_kept : Kept → List Bool → Option Record → Kept
with_kept kept path now = λ k. if same_path k path then now else kept k

-- a record that nothing was done to yet
abbrev pub new_record : List Bool → Record
new_record path = record { value = initial_value path; touches = 0 }

-- the same records, none of them touched
abbrev pub untouched : Kept → Kept
untouched kept = λ path. option_map (λ r. record { value = r.value; touches = 0 }) (kept path)

-- the values of records
abbrev pub values_in : Kept → Tree
values_in kept = λ path. option_map (λ r. r.value) (kept path)

abbrev pub values_of : Listed → Tree
values_of listed = values_in (record_at listed)

-- the touches of records: none of a path without one
abbrev pub touches_in : Kept → List Bool → ℕ
touches_in kept = λ path. option_map_or (λ r. r.touches) (kept path) 0

abbrev pub touches_of : Listed → List Bool → ℕ
touches_of listed = touches_in (record_at listed)

-- how many bits lead to a path, its tree, and the number that the bits spell
abbrev pub numbers_of : List Bool → ℕ × Bool × ℕ
numbers_of path = with_fields (λ len wide high low. (len, wide, high * 2 ^ 64 + low)) path

-- of two trees that of the shorter keys is the first, and in one tree the lower number
abbrev pub IsLower : Bool → ℕ → Bool → ℕ → Type 0
IsLower false a true b = Unit {0}
IsLower true a false b = ⊥
IsLower false a false b = a < b
IsLower true a true b = a < b

-- the first path stands before the second: it is shorter, or as long and of the first tree, or of the same tree and of lower bits
abbrev pub IsBefore : List Bool → List Bool → Type 0
IsBefore path other =
    ((numbers_of path).0 < (numbers_of other).0)
    ⊎ (((numbers_of path).0 ≡ (numbers_of other).0)
    × IsLower (numbers_of path).1 (numbers_of path).2 (numbers_of other).1 (numbers_of other).2)

-- each record stands before those behind it
abbrev pub AreInOrder : Listed → Type 0
AreInOrder [] = Unit {0}
AreInOrder (entry ∷ listed) = AllByRecursion (λ other. IsBefore entry.0 other.0) listed × AreInOrder listed
