-- Records that come into a cache by their digests and leave it so: what was done to the record of one path.
use Rattle.std.specs.Prelude.{◌≡◌, ◌⊎◌, Bool, true, false, List, [], ◌∷◌, Option, Some, if◌then◌else◌}
use Rattle.std.specs.List.{flat_map}
use Rattle.tree_keys.specs.Path.{same_path}
use Rattle.record_text.specs.declared.value.Value.{Value}
use Rattle.verifier_cache.specs.declared.entry.Entry.{Entry}
use Rattle.verifier_commands.specs.Change.{Change, did_add_m, did_evict_m, did_add_b, did_evict_b, did_evict_bm, did_get, did_put, did_next_epoch}
use Rattle.verifier_commands.specs.Changes.{above}
use Rattle.soundness.specs.Clash.{is_known}
use Rattle.host_laws.specs.Running.{Told}

-- the record of the path comes in by its digest, or leaves by it
abbrev pub carries : List Bool → Change → Bool
carries path (did_add_m parent after child) = same_path child.path path
carries path (did_evict_m parent after child) = same_path child.path path
carries path (did_add_b child element) = false
carries path (did_evict_b child element) = false
carries path (did_evict_bm parent after child element) = false
carries path (did_get entry) = false
carries path (did_put before after) = false
carries path (did_next_epoch sealed) = false

abbrev pub carrying : List Bool → Change → List Change
carrying path change = if carries path change then change ∷ [] else []

-- what was done that carries the record of a path
abbrev pub carried : List Bool → Told → List Change
carried path told = flat_map (λ one. carrying path one.1) told

-- The record of the path came in once and left once. Where its parent's pointer led to it, it came with the value that
-- was kept of it before; it left with the value that is kept afterwards.
pub record IsVisited (path : List Bool) (before after : Option Value) (changes : List Change) : Type 0 where
  pub parent : Entry
  pub between : Entry
  pub later : Entry
  pub child : Entry
  pub gone : Entry
  pub all : changes ≡ did_add_m parent between child ∷ did_evict_m between later gone ∷ []
  pub child_path : child.path ≡ path
  pub gone_path : gone.path ≡ path
  pub brought : is_known (above parent path) path ≡ true → before ≡ Some child.value
  pub kept : after ≡ Some gone.value

-- The record of the path was not carried, and what is kept of it stays; or it came once and left once.
abbrev pub IsCarried : List Bool → Option Value → Option Value → List Change → Type 0
IsCarried path before after changes = ((changes ≡ []) × (after ≡ before)) ⊎ IsVisited path before after changes
