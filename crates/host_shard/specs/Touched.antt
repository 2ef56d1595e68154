-- Which records were touched, as they are listed.
use Rattle.std.specs.List.{list_any}
use Rattle.std.specs.Option.{option_map}
use Rattle.std.specs.Prelude.{◌≡◌, ◌<◌, Bool, true, List, if◌then◌else◌}
use Rattle.tree_keys.specs.Path.{same_path}
use Rattle.host_shard.specs.declared.touched.Touched.{Touched}
use Rattle.host_shard.specs.Records.{Listed, Kept, touches_of}

-- a path is listed, where the list is whole
abbrev pub Lists : Touched → List Bool → Type 0
Lists touched path = touched.is_whole ≡ true → list_any (same_path path) touched.paths.items ≡ true

-- each record of which touches are counted is listed
abbrev pub AreNoted : Touched → Listed → Type 0
AreNoted touched listed = (path : List Bool) → 0 < touches_of listed path → Lists touched path

-- each record of which touches are counted is at one of these paths
abbrev pub AreAmong : List (List Bool) → Listed → Type 0
AreAmong paths listed = (path : List Bool) → 0 < touches_of listed path → list_any (same_path path) paths ≡ true

-- the same records, those of these paths not touched
abbrev pub untouched_at : List (List Bool) → Kept → Kept
untouched_at paths kept = λ path.
    if list_any (same_path path) paths then option_map (λ r. record { value = r.value; touches = 0 }) (kept path) else kept path
