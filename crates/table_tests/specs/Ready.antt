-- Contents that the tests make tables of.
use Rattle.std.specs.Prelude.{◌≡◌, ℕ, ◌<◌, ◌≤◌, Bool, List, length, slice_index_or}
use Rattle.tree_keys.specs.Path.{tree_of, key_path, IsBelow}
use Rattle.host_shard.specs.declared.content.Content as code
use Rattle.record_text.specs.Longest.{longest_blob}
use Rattle.host_shard.specs.declared.content.Content.TheVariants.{Cold}
use Rattle.host_shard.specs.declared.shard.Shard.{Shard}
use Rattle.host_shard.specs.Content.{Content}
use Rattle.host_shard.specs.Shown.{shown_content}
use Rattle.host_plan.specs.Plan.{Owns}
use Rattle.host_table.specs.Terms.{Terms, IsPlaceOf}

-- the content owns each key of the frontier's tree below it
abbrev pub OwnsBelow : List Bool → Content → Type 0
OwnsBelow frontier content = (key : ℕ) → IsBelow frontier (key_path (tree_of frontier) key) → Owns longest_blob content key

-- a shard of the tests: it owns what lies below its frontier, and worker 0 evicted it in epoch 1
pub record IsReady (frontier : List Bool) (content : code.Content) : Type 0 where
  pub shard : Shard
  pub is : content ≡ Cold shard
  pub owns : OwnsBelow frontier (shown_content content)
  pub epoch : shard.stamp.epoch ≡ 1
  pub counter : shard.stamp.counter ≤ 64
  pub evictor : shard.evictor ≡ 0

-- a shard for each frontier
pub record AreReady (frontiers : List (List Bool)) (contents : List code.Content) : Type 0 where
  pub count : length frontiers ≡ length contents
  pub each : (i : ℕ) (f : List Bool) (d : code.Content) → i < length contents → IsReady (slice_index_or frontiers i f) (slice_index_or contents i d)

-- each content owns what lies below its frontier
pub record AreOwners (frontiers : List (List Bool)) (contents : List code.Content) : Type 0 where
  pub count : length frontiers ≡ length contents
  pub each : (i : ℕ) (f : List Bool) (d : code.Content) → i < length contents → OwnsBelow (slice_index_or frontiers i f) (shown_content (slice_index_or contents i d))

-- each key of the frontier's tree below it has this place
abbrev pub IsOpenBelow : Terms → ℕ → List Bool → Type 0
IsOpenBelow terms place frontier = (key : ℕ) → IsBelow frontier (key_path (tree_of frontier) key) → IsPlaceOf terms place key
