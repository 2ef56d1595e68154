-- A cache as a list of entries with distinct paths, and how many it may hold.
use Rattle.std.specs.Prelude.{◌≡◌, ℕ, ◌<◌, ◌≤◌, Bool, List, [], ◌∷◌, length, Option, Some, None, IsNone, if◌then◌else◌}
use Rattle.std.specs.List.{HoldsAt}
use Rattle.tree_keys.specs.Path.{same_path}
use Rattle.verifier_cache.specs.declared.entry.Entry.{Entry}

-- what a cache holds, and the most entries that it may
pub record Held : Type 0 where
  pub entries : List Entry
  pub room : ℕ

-- the entry of a path, if it is there
abbrev pub entry_of : List Bool → List Entry → Option Entry
entry_of path [] = None
entry_of path (entry ∷ entries) = if same_path path entry.path then Some entry else entry_of path entries

-- the entries but that of a path
abbrev pub without : List Bool → List Entry → List Entry
without path [] = []
without path (entry ∷ entries) = if same_path path entry.path then entries else entry ∷ without path entries

-- the entries, with that of a path changed
abbrev pub changed : List Bool → (Entry → Entry) → List Entry → List Entry
changed path change [] = []
changed path change (entry ∷ entries) = if same_path path entry.path then change entry ∷ entries else entry ∷ changed path change entries

-- this entry in the place of the one of its path
abbrev pub replaced : Entry → List Entry → List Entry
replaced new entries = changed new.path (λ old. new) entries

-- a change of the entry of a path that leaves it the entry of that path
abbrev pub KeepsPath : List Bool → (Entry → Entry) → Type 0
KeepsPath path change = (entry : Entry) → entry.path ≡ path → (change entry).path ≡ path

-- no path stands in two entries
abbrev pub AreDistinct : List Entry → Type 0
AreDistinct [] = Unit {0}
AreDistinct (entry ∷ entries) = IsNone (entry_of entry.path entries) × AreDistinct entries

-- what holds of every cache
pub record IsHeld (cache : Held) : Type 0 where
  pub distinct : AreDistinct cache.entries
  pub within : length cache.entries ≤ cache.room

-- the path's entry stands at this index
pub record IsIndexOf (path : List Bool) (entries : List Entry) (index : ℕ) : Type 0 where
  pub within : index < length entries
  pub path_there : HoldsAt (λ entry. entry.path ≡ path) entries index
