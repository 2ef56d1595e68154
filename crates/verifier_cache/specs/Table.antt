-- The entries of a cache as they lie in memory: in the order in which they came in, with gaps where some left.
use Rattle.std.specs.Prelude.{◌≡◌, ◌≢◌, ℕ, ◌+◌, ◌*◌, ◌<◌, ◌≤◌, Bool, true, List, [], ◌∷◌, length, vec_capacity, None, if◌then◌else◌}
use Rattle.std.specs.List.{HoldsAt}
use Rattle.verifier_cache.specs.declared.entry.Entry.{Entry}
use Rattle.verifier_cache.specs.declared.table.Stored.{Stored}
use Rattle.verifier_cache.specs.declared.table.Table.{Table}
use Rattle.path_index.specs.declared.index.Index.{Index}
use Rattle.verifier_cache.specs.Cache.{entry_of, AreDistinct}
use Rattle.path_index.specs.Index.{mark_at, count_of, most_of, IsSound, Rises}

-- the entries that are there still, in their order
abbrev pub standing : List Stored → List Entry
standing [] = []
standing (one ∷ more) = if one.live then one.entry ∷ standing more else standing more

-- the entry is there still
abbrev pub is_live : Stored → Bool
is_live one = one.live

-- the entry of a path lies there
pub record IsAt (path : List Bool) (stored : List Stored) (at : ℕ) : Type 0 where
  pub within : at < length stored
  pub live : HoldsAt (λ one. one.live ≡ true) stored at
  pub path_there : HoldsAt (λ one. one.entry.path ≡ path) stored at

-- the index leads to each entry, and to nothing else
pub record IsIndexed (stored : List Stored) (index : Index) : Type 0 where
  pub sound : IsSound index
  pub rises : Rises index
  pub leads : (i : ℕ) → i < count_of index → IsAt (mark_at index i).path stored (mark_at index i).at
  pub covers : (k : List Bool) → ((i : ℕ) → i < count_of index → (mark_at index i).path ≢ k) → entry_of k (standing stored) ≡ None
  pub count : count_of index ≡ length (standing stored)
  pub distinct : AreDistinct (standing stored)

-- the same of a table
abbrev pub IsTable : Table → Type 0
IsTable table = IsIndexed table.stored.items table.index

-- there is memory for so many entries
pub record HasRoom (room : ℕ) (table : Table) : Type 0 where
  pub stored : 2 * room + 64 ≤ vec_capacity table.stored
  pub targets : vec_capacity table.stored ≤ vec_capacity table.targets
  pub index : room ≤ most_of table.index
