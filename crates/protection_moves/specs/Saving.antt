-- What is kept of a shard, so that it can be as before again.
use Rattle.std.specs.Prelude.{◌≡◌, ℕ, Bool, false, List, Option, None, IsSome, map, if◌then◌else◌}
use Rattle.std.specs.List.{AllByRecursion}
use Rattle.tree_keys.specs.Path.{same_path}
use Rattle.record_text.specs.declared.value.Value.{Value}
use Rattle.host_shard.specs.declared.link.Link.{Link}
use Rattle.host_shard.specs.Tree.{Tree}
use Rattle.host_shard.specs.Shard.{Shard}
use Rattle.protection_moves.specs.declared.saving.SavedRecord.{SavedRecord}
use Rattle.protection_moves.specs.declared.saving.Saved.{Saved}

-- what the records hold at the paths of these links
abbrev pub saved_along : Tree → List Link → List SavedRecord
saved_along tree links = map (λ link. record { path = link.path; value = tree link.path }) links

-- the records, but for what is kept of a path
abbrev pub with_value : Tree → List Bool → Option Value → Tree
with_value tree path now = λ k. if same_path k path then now else tree k

-- a path at which nothing was saved
abbrev pub IsElsewhere : List SavedRecord → List Bool → Type 0
IsElsewhere saved path = AllByRecursion (λ kept. same_path path kept.path ≡ false) saved

-- What was saved are values of these records. Elsewhere they are as they were, and no path lost its record. A path without a
-- record has no touches.
pub record CanRestore (was : Tree) (touches : List Bool → ℕ) (saved : List SavedRecord) (now : Tree) : Type 0 where
  pub values : AllByRecursion (λ kept. kept.value ≡ was kept.path) saved
  pub others : (path : List Bool) → IsElsewhere saved path → now path ≡ was path
  pub kept : (path : List Bool) → IsSome (was path) → IsSome (now path)
  pub quiet : (path : List Bool) → was path ≡ None → touches path ≡ 0

-- What was saved of a shard, which is as it was but for the frontier's value and the records.
pub record IsSavedOf (was : Shard) (saved : Saved) (now : Shard) : Type 0 where
  pub value : saved.value ≡ was.value
  pub records : CanRestore was.records now.touches saved.records.items now.records
  pub others : record now { value = was.value; records = was.records } ≡ was
