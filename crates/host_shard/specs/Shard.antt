-- A shard as data: the records below one path, with which a verifier takes them back.
use Rattle.std.specs.Prelude.{ℕ, Bool, false, List, None, ◌+◌, ◌-◌, ◌^◌, min, if◌then◌else◌}
use Rattle.tree_keys.specs.Path as paths
use Rattle.tree_keys.specs.Path.{same_path}
use Rattle.lamport_clocks.specs.declared.stamp.Stamp.{Stamp}
use Rattle.record_text.specs.declared.value.Value.{Value}
use Rattle.record_text.specs.declared.element.Element.{Element}
use Rattle.record_text.specs.Value.{initial_value}
use Rattle.merkle_records.specs.Merkle.{Digest}
use Rattle.host_shard.specs.declared.link.Link.{Link}
use Rattle.host_shard.specs.Chain.{closed_value, closed_records}
use Rattle.host_shard.specs.Tree.{Tree, with_record}

-- The path and the value of the shard's frontier, the records below it, the stamp and the verifier with which the
-- frontier was evicted last, and how often each key was touched.
pub record Shard : Type 0 where
  pub frontier : List Bool
  pub value : Value
  pub records : Tree
  pub stamp : Stamp
  pub evictor : ℕ
  pub touches : List Bool → ℕ

-- of which tree the shard is: that of its frontier
abbrev pub wide_in : Shard → Bool
wide_in shard = paths.tree_of shard.frontier

-- the path of a key in the shard's tree
abbrev pub key_path_in : Shard → ℕ → List Bool
key_path_in shard key = paths.key_path (wide_in shard) key

-- all records of the shard, the frontier's among them
abbrev pub tree_of : Shard → Tree
tree_of shard = with_record shard.records shard.frontier shard.value

-- the element with which the shard waits
abbrev pub pending_shard : Shard → Element
pending_shard shard = record { path = shard.frontier; value = shard.value; stamp = shard.stamp; verifier = shard.evictor }

-- one touch more: a count ends at 2^64 - 1
abbrev pub one_more : ℕ → ℕ
one_more touches = min (touches + 1) (2 ^ 64 - 1)

-- one touch more of a key
abbrev pub touched : (List Bool → ℕ) → List Bool → List Bool → ℕ
touched touches key k = if same_path k key then one_more (touches k) else touches k

-- a shard without records: its frontier's value is the initial one
abbrev pub new_shard : List Bool → Stamp → ℕ → Shard
new_shard frontier stamp evictor = record {
  frontier = frontier;
  value = initial_value frontier;
  records = λ k. None;
  stamp = stamp;
  evictor = evictor;
  touches = λ k. 0;
}

-- The shard at the end of a chain, where the value there becomes `last`, and each path is evicted to the one before.
abbrev pub rehashed : Digest → Shard → List Link → Value → Shard
rehashed digest shard links last = record shard {
  value = closed_value digest false shard.frontier shard.value links last;
  records = closed_records digest false shard.records links last;
}
